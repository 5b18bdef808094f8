use mathlib.Core.Path.{◌≡◌}
use Prim.Native.Nat.{◌+◌, ◌*◌}
use native.Mathlib.Omega.{arith}
use Rattle.table.specs.Bytes.{number_at}
use Rattle.table.proofs.Numbers.{eight, none_there}
use Rattle.table.proofs.bytes.float_at.Goals as goal

pub returns-then-file-at : goal.returns-then-file-at
returns-then-file-at c =
    let f = c.args.file.now in
    let a = c.args.at in
    let none : number_at 8 f a ≡ 0 = omega (arith, eight f a, none_there f a (omega arith), none_there f (a + 4) (omega arith)) in
    rw none

pub returns : goal.returns
returns c =
    let f = c.args.file.now in
    let a = c.args.at in
    let e : number_at 8 f a ≡ c.u32_at-high.result * 4294967296 + c.u32_at-low.result = omega (arith, eight f a, c.u32_at-high.ensures, c.u32_at-low.ensures) in
    rw (e, c.float64.ensures)
