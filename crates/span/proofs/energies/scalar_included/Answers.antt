use mathlib.Core.Path.{◌≡◌, sym, ◌∙◌}
use mathlib.Core.Bool.{true, false}
use native.Mathlib.Nat.{add-zero}
use lib.Ieee.{is_nan}
use Rattle.float.proofs.Tests.{nan_test}
use Rattle.span.specs.Spans.{included, scalar_included}
use Rattle.span.proofs.energies.scalar_included.Goals as goal

pub returns-then-e : goal.returns-then-e
unfolding scalar_included
returns-then-e c =
    let a = c.args in
    let h : is_nan a.e ≡ true = sym (nan_test a.e) ∙ c.if-e.true in
    rw (h, c.included-y.ensures)

pub returns-else-e : goal.returns-else-e
unfolding included scalar_included
returns-else-e c =
    let a = c.args in
    let h : is_nan a.e ≡ false = sym (nan_test a.e) ∙ c.if-e.false in
    rw (h, c.included-y.ensures, add-zero)
