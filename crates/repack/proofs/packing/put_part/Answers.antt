use mathlib.Core.Path.{◌≡◌, sym}
use Prim.Native.Nat.{◌*◌}
use native.Mathlib.Omega.{arith}
use Rattle.lists.proofs.Written.{put_nil}
use Rattle.repack.proofs.packing.put_part.Goals as goal

pub returns-then-e-eq0 : goal.returns-then-e-eq0
returns-then-e-eq0 c =
    let none : c.args.e * 4 ≡ 0 = omega (arith, c.if-e-eq0.true) in
    rw none (sym (put_nil c.args.out.now c.args.to))
