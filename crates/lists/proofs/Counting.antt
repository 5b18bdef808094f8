-- Loops that test every number below n.
use mathlib.Core.Path.{◌≡◌, refl, sym, ◌∙◌}
use mathlib.Core.Bool.{Bool, true, false, cond, ◌&&◌, ◌||◌, true≢false, and-eq-true_iff}
use mathlib.Core.Logic.{⊎_elim}
use Prim.Native.Nat.{ℕ, zero, suc, ◌+◌, ◌<◌}
use native.Mathlib.Nat.{eq-or-lt_of_le, le_of_suc-le-suc, not-suc-le-zero}
use native.Mathlib.Numerals.{add-one}
use Rattle.lists.specs.Lists.{all_up_to, any_up_to}

pub and_no : (a b : Bool) → b ≡ false → a && b ≡ false
and_no true b e = e
and_no false b e = refl

or_yes : (a b : Bool) → b ≡ true → a || b ≡ true
or_yes true b e = refl
or_yes false b e = e

module _ (p : ℕ → Bool) where
  pub all_turn : (i : ℕ) → all_up_to i p ≡ true → p i ≡ true → all_up_to (i + 1) p ≡ true
  unfolding all_up_to
  all_turn i h e = rw (add-one, h, e)

  pub all_fails : (i n : ℕ) → i < n → p i ≡ false → all_up_to n p ≡ false
  unfolding all_up_to
  all_fails i zero l e = absurd (not-suc-le-zero l)
  all_fails i (suc n) l e =
      ⊎_elim (λ q. and_no (all_up_to n p) (p n) (rw (← q) e)) (λ h. rw (all_fails i n h e)) (eq-or-lt_of_le (le_of_suc-le-suc l))

  pub all_at : (i n : ℕ) → i < n → all_up_to n p ≡ true → p i ≡ true
  unfolding all_up_to
  all_at i zero l e = absurd (not-suc-le-zero l)
  all_at i (suc n) l e =
      let h = (and-eq-true_iff (all_up_to n p) (p n)).0 e in
      ⊎_elim (λ q. rw q h.1) (λ k. all_at i n k h.0) (eq-or-lt_of_le (le_of_suc-le-suc l))

  pub any_turn : (i : ℕ) → any_up_to i p ≡ false → p i ≡ false → any_up_to (i + 1) p ≡ false
  unfolding any_up_to
  any_turn i h e = rw (add-one, h, e)

  pub any_found : (i n : ℕ) → i < n → p i ≡ true → any_up_to n p ≡ true
  unfolding any_up_to
  any_found i zero l e = absurd (not-suc-le-zero l)
  any_found i (suc n) l e =
      ⊎_elim (λ q. or_yes (any_up_to n p) (p n) (rw (← q) e)) (λ h. rw (any_found i n h e)) (eq-or-lt_of_le (le_of_suc-le-suc l))

-- of two values, the one that a test chooses
pub chosen : {B : Type 0} (P : B → Type 0) (t : Bool) (x y : B) → (t ≡ true → P x) → P y → P (cond t x y)
chosen P true x y h k = h refl
chosen P false x y h k = k

-- a question that a call answered, r, and a test of it
pub yes : {q r : Bool} → r ≡ q → r ≡ true → q ≡ true
yes {q} {r} e t = sym e ∙ t

pub no : {q r : Bool} → r ≡ q → r ≡ false → q ≡ false
no {q} {r} e t = sym e ∙ t

pub or_none : (a b : Bool) → a || b ≡ false → (a ≡ false) × (b ≡ false)
or_none false b e = (refl, e)
or_none true b e = absurd (true≢false e)

pub any_none : (p : ℕ → Bool) (i n : ℕ) → i < n → any_up_to n p ≡ false → p i ≡ false
unfolding any_up_to
any_none p i zero l e = absurd (not-suc-le-zero l)
any_none p i (suc n) l e =
    let h = or_none (any_up_to n p) (p n) e in
    ⊎_elim (λ q. rw q h.1) (λ k. any_none p i n k h.0) (eq-or-lt_of_le (le_of_suc-le-suc l))
