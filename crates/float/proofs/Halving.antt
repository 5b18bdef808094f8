-- The power by its sentence: as many turns as the exponent are enough.
use Rattle.std.proofs.Common.{◌≡◌, ℕ, zero, suc, ◌/◌, ◌≤◌, refl, ap, le_refl, arith}
use lib.Ieee.{Float}
use Rattle.float.specs.Exp.{bits}
use Rattle.float.specs.Power.{squared_times, power_within, power}

half-below : (n k : ℕ) → suc n ≤ suc k → suc n / 2 ≤ k
half-below n k h = omega arith

-- more turns give no other power
enough : (k j n : ℕ) (r : Float) → n ≤ k → n ≤ j → power_within k r n ≡ power_within j r n
unfolding power_within
enough zero (suc j) (suc n) r h i = elim h [ ]
enough (suc k) zero (suc n) r h i = elim i [ ]
enough zero zero n r h i = refl
enough zero (suc j) zero r h i = refl
enough (suc k) zero zero r h i = refl
enough (suc k) (suc j) zero r h i = refl
enough (suc k) (suc j) (suc n) r h i = ap (squared_times r (suc n)) (enough k j (suc n / 2) r (half-below n k h) (half-below n j i))

-- "The power of r is 1 for exponent 0; otherwise it is the power for half the exponent, rounded down, squared, and times r when the exponent is odd."
pub power-none : (r : Float) → power r 0 ≡ bits 0x3FF0_0000_0000_0000
unfolding power_within power
power-none r = refl

pub power-halves : (r : Float) (n : ℕ) → ((n ≡ 0) → ⊥) → power r n ≡ squared_times r n (power r (n / 2))
unfolding power_within power
power-halves r zero f = absurd (f refl)
power-halves r (suc n) f = ap (squared_times r (suc n)) (enough n (suc n / 2) (suc n / 2) r (half-below n n (le_refl (suc n))) (le_refl (suc n / 2)))
