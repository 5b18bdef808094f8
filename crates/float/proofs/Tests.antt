-- What the tests of a float say: the one for a NaN, and those of `max`, `min` and `rem_tau`. Assumes nothing.
use Rattle.std.proofs.Common.{◌≡◌, ◌*◌, Bool, true, false, cond, not, ◌&&◌, ◌||◌, sym, refl, ap, ◌∙◌, eq-eqb}
use lib.Ieee.{Float, nan, inf, fin, binary64, up, down, add, rem, lt, ne, is_nan, of_bits}
use Rattle.float.specs.Order.{farther, tau, angle}

pub nan_test : (x : Float) → ne x x ≡ is_nan x
unfolding ne is_nan
nan_test nan = refl
nan_test (inf true) = refl
nan_test (inf false) = refl
nan_test (fin true m e) = ap (λ (t : Bool). not (t && true)) (eq-eqb (m * up e * down e) (m * up e * down e) refl)
nan_test (fin false m e) = ap (λ (t : Bool). not (t && true)) (eq-eqb (m * up e * down e) (m * up e * down e) refl)

pub farther_by : (passes : Float → Float → Bool) (a b : Float) (t : Bool) → (ne a a || passes a b) ≡ t → cond t b a ≡ farther passes a b
unfolding farther
farther_by passes a b t h = ap (λ (u : Bool). cond u b a) (sym h) ∙ ap (λ (u : Bool). cond (u || passes a b) b a) (nan_test a)

pub angle_by : (x r : Float) (t : Bool) → r ≡ rem binary64 x tau → lt r (of_bits binary64 0) ≡ t → cond t (add binary64 r tau) r ≡ angle x
unfolding angle
angle_by x r t e h = ap (λ (u : Bool). cond u (add binary64 r tau) r) (sym h) ∙ ap (λ (y : Float). cond (lt y (of_bits binary64 0)) (add binary64 y tau) y) e

-- ---- where E is worked out: y is a number from -745.2 to 709.79
pub bounded_by : (y : Float) (t : Bool) → let a = of_bits binary64 0xC087_4999_9999_999A in let b = of_bits binary64 0x4086_2E51_EB85_1EB8 in let z = of_bits binary64 0 in
    ((ne y y || lt y a) || lt b y) ≡ t → cond t z y ≡ cond (is_nan y) z (cond (lt y a) z (cond (lt b y) z y))
bounded_by y t h = go (is_nan y) _ _ (rw (nan_test y) at h)
  where
    go : (p q r : Bool) → ((p || q) || r) ≡ t → cond t (of_bits binary64 0) y ≡ cond p (of_bits binary64 0) (cond q (of_bits binary64 0) (cond r (of_bits binary64 0) y))
    go true q r h = ap (λ (u : Bool). cond u (of_bits binary64 0) y) (sym h)
    go false true r h = ap (λ (u : Bool). cond u (of_bits binary64 0) y) (sym h)
    go false false r h = ap (λ (u : Bool). cond u (of_bits binary64 0) y) (sym h)

pub record Inside (y : Float) : Type 0 where
  pub number : is_nan y ≡ false
  pub least : lt y (of_bits binary64 0xC087_4999_9999_999A) ≡ false
  pub most : lt (of_bits binary64 0x4086_2E51_EB85_1EB8) y ≡ false

pub inside : (y : Float) → let z = of_bits binary64 0 in Inside (cond (is_nan y) z (cond (lt y (of_bits binary64 0xC087_4999_9999_999A)) z (cond (lt (of_bits binary64 0x4086_2E51_EB85_1EB8) y) z y)))
inside y = go (is_nan y) (lt y (of_bits binary64 0xC087_4999_9999_999A)) (lt (of_bits binary64 0x4086_2E51_EB85_1EB8) y) refl refl refl
  where
    none : Inside (of_bits binary64 0)
    none = unfold is_nan lt of_bits in record { number = refl; least = refl; most = refl }

    go : (p q r : Bool) → is_nan y ≡ p → lt y (of_bits binary64 0xC087_4999_9999_999A) ≡ q → lt (of_bits binary64 0x4086_2E51_EB85_1EB8) y ≡ r → let z = of_bits binary64 0 in Inside (cond p z (cond q z (cond r z y)))
    go true q r a b c = none
    go false true r a b c = none
    go false false true a b c = none
    go false false false a b c = record { number = a; least = b; most = c }
