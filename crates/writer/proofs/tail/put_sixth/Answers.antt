use mathlib.Core.Path.{sym}
use Prim.Native.Nat.{◌+◌, ◌*◌, ◌≤◌, ◌<◌}
use native.Mathlib.Omega.{arith}
use lib.ListN.{length}
use Rattle.lists.proofs.Written.{put_nil}
use Rattle.table.proofs.Accepted.{some}
use Rattle.writer.specs.LentTail.{lent_tail}
use Rattle.writer.proofs.OfTail.{sixth-none, sixth-put}
use Rattle.writer.proofs.tail.put_sixth.Goals as goal
use Rattle.writer.proofs.tail.put_sixth.Goals.{Else-n-eq0}

pub returns-then-n-eq0 : goal.returns-then-n-eq0
returns-then-n-eq0 c = sym (rw (sixth-none (lent_tail c.args.tail.now) c.if-n-eq0.true) (put_nil c.args.out.now c.args.at))

-- there is room for the section, and there is a prefactor
roomy : (c : Else-n-eq0) → let a = c.args in
    (a.at + 12 + length a.tail.now.coefficients.now * 20 ≤ length a.out.now) × (0 < length a.tail.now.prefactor.now)
roomy c = c.requires.2 (some _ c.if-n-eq0.false)

pub put_u32-requires : goal.put_u32-requires
put_u32-requires c = omega (arith, (roomy (goal.at.put_u32-requires c).Else-n-eq0).0)

pub put_terms-requires : goal.put_terms-requires
put_terms-requires c = (c.requires.0, omega (arith, (roomy (goal.at.put_terms-requires c).Else-n-eq0).0))

pub put_f64-requires : goal.put_f64-requires
put_f64-requires c = omega (arith, (roomy (goal.at.put_f64-requires c).Else-n-eq0).0)

pub returns : goal.returns
returns c =
    rw (c.put_f64.ensures, c.put_terms.ensures, c.put_u32.ensures)
    (sixth-put (lent_tail c.args.tail.now) c.args.out.now c.args.at (some _ c.if-n-eq0.false) (roomy (goal.at.returns c).Else-n-eq0).0)
