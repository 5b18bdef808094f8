-- A turn of `power`, by whether the exponent is odd.
use Rattle.std.proofs.Common.{◌≡◌, ℕ, ◌/◌, ◌%◌, Bool, true, false, cond, eqb, sym, ap, ◌∙◌, eq-eqb, ne_eqb}
use lib.Ieee.{Float, binary64, mul}
use Rattle.float.specs.Power.{squared_times, power}
use Rattle.float.proofs.Halving.{power-none, power-halves}
use Rattle.float.proofs.+power.Goals as goal

turned :
    (r : Float) (n : ℕ) (p : Float) (odd : Bool) → ((n ≡ 0) → ⊥) → p ≡ power r (n / 2) → eqb (n % 2) 1 ≡ odd
    → cond odd (mul binary64 (mul binary64 p p) r) (mul binary64 p p) ≡ power r n
unfolding squared_times
turned r n p odd f e d = sym (power-halves r n f ∙ ap (squared_times r n) (sym e) ∙ ap (λ b. cond b (mul binary64 (mul binary64 p p) r) (mul binary64 p p)) d)

pub returns-then-n-eq0 : goal.returns-then-n-eq0
returns-then-n-eq0 t c = sym (ap (power c.args.r) c.if-n-eq0.true ∙ power-none c.args.r)

pub returns-then-n-eq1 : goal.returns-then-n-eq1
returns-then-n-eq1 t c =
    turned c.args.r c.args.n c.power-half.result true c.if-n-eq0.false c.power-half.ensures (eq-eqb (c.args.n % 2) 1 c.if-n-eq1.true)

pub returns : goal.returns
returns t c =
    turned c.args.r c.args.n c.power-half.result false c.if-n-eq0.false c.power-half.ensures (ne_eqb (c.args.n % 2) 1 c.if-n-eq1.false)
