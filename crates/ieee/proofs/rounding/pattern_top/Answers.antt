use Rattle.std.proofs.Common.{◌+◌, ◌-◌, ◌*◌, ◌^◌, ◌<◌, ◌≤◌, arith}
use mir.Val.{bool_byte}
use Rattle.ieee.proofs.Steps.{doubled, top_none, top_low, top_high, packed_fits}
use Rattle.ieee.proofs.rounding.pattern_top.Goals as goal
use Rattle.ieee.proofs.rounding.pattern_top.Goals.{Start}

size : (c : Start) → (2 ^ 64 ≤ 2 * c.args.n + bool_byte c.args.some) × (2 * c.args.n + bool_byte c.args.some < 2 ^ 65)
size c = doubled c.args.n c.args.some c.requires.0 c.ranges.n.fits

pub overflow_add-result : goal.overflow_add-result
overflow_add-result c =
    let s = c.before.before in
    record { fits = packed_fits s.args.p (s.args.t - s.args.p - 4096) (2 * s.args.n + bool_byte s.args.some) c.cut.result s.requires.2 s.requires.3 (omega arith) (size s).1 c.cut.ensures }

pub returns-then-p-t : goal.returns-then-p-t
returns-then-p-t c =
    let s = c.before.before in
    top_high s.args.p (2 * s.args.n + bool_byte s.args.some) s.args.t (size s).0 (size s).1 s.requires.2 s.requires.3 c.cut.result c.if-p-t.true s.requires.1 c.cut.ensures

pub returns-then-t-lt4096 : goal.returns-then-t-lt4096
returns-then-t-lt4096 c =
    let s = c.before.before in
    top_none s.args.p (2 * s.args.n + bool_byte s.args.some) s.args.t (size s).0 (size s).1 s.requires.2 s.requires.3 c.if-t-lt4096.true

pub returns : goal.returns
returns c =
    let s = c.before.before.before in
    top_low s.args.p (2 * s.args.n + bool_byte s.args.some) s.args.t (size s).0 (size s).1 s.requires.2 s.requires.3 c.cut-2.result c.if-t-lt4096.false c.if-p-t.false c.cut-2.ensures
