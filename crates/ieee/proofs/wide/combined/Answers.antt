use Rattle.std.proofs.Common.{◌+◌, ◌%◌, ◌^◌, ◌<◌, not, ltb, arith, rules}
use mir.Val.{bool_byte}
use Rattle.ieee.proofs.Steps.{flag_le}
use Rattle.ieee.proofs.Words.{combined_is}
use Rattle.ieee.proofs.wide.combined.Goals as goal
use Rattle.ieee.proofs.wide.combined.Goals.{Start}

low-a : (c : Start) → c.args.a.lo < 2 ^ 64
low-a c = search rules

low-b : (c : Start) → c.args.b.lo < 2 ^ 64
low-b c = search rules

pub overflow_add-carry : goal.overflow_add-carry
overflow_add-carry c =
    let s = (c.args.a.lo + c.flip-x.result) % 2 ^ 64 in
    let o = bool_byte (not c.args.like) in
    omega (arith, flag_le (ltb s c.flip-x.result), flag_le (ltb ((s + o) % 2 ^ 64) o))

pub returns : goal.returns
returns c =
    let a = c.args in
    rw (c.flip-y.ensures, c.flip-x.ensures)
    (combined_is a.like a.a.hi a.a.lo a.b.hi a.b.lo c.requires.0 (low-a (goal.at.returns c).Start) c.requires.1 (low-b (goal.at.returns c).Start) c.requires.2)
