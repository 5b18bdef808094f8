use Rattle.std.proofs.Common.{◌≡◌, sym, refl, ◌∙◌, arith, ◌+◌, ◌*◌, ℕ, suc, get_or, length, eqb, List, zero, ◌<◌, ◌-◌}
use Rattle.lists.proofs.Counting.{all_fails}
use borrow.Author.Tests.{ne_eqb}
use Rattle.mesh.specs.Mesh.{angles_of, angle_kept}
use native.Mathlib.Nat.{suc-ne-zero}
use lib.ListN.{get_or-eq_default}
use Rattle.std.specs.Float.{nan}
use lib.Ieee.{Float}
use Rattle.lists.specs.Lists.{all_up_to}
use Rattle.mesh.proofs.rule.angles_of.Goals as goal

-- an angle that is wanted is not there
missing : (l : List Float) (at d : ℕ) → length l < at + d → eqb d 0 ≡ all_up_to d (λ j. angle_kept (get_or l (at + j) nan))
unfolding all_up_to angle_kept
missing l at zero h = refl
missing l at (suc d) h =
    let none : get_or l (at + (length l - at)) nan ≡ nan = get_or-eq_default l nan (omega arith) in
    ne_eqb (suc d) 0 (suc-ne-zero d) ∙ sym (all_fails (λ j. angle_kept (get_or l (at + j) nan)) (length l - at) (suc d) (omega arith) (rw none refl))

pub returns-then-mesh-end : goal.returns-then-mesh-end
unfolding angles_of
returns-then-mesh-end c = let a = c.args in
    rw (← c.degree-d.ensures) (missing a.mesh.now.angles.now (6 * a.v) c.degree-d.result (omega arith))
