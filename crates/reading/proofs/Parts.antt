-- A level's part of a list. Assumes nothing.
use mathlib.Core.Path.{◌≡◌, sym, ◌∙◌}
use mathlib.Core.List.{List}
use mathlib.Core.Logic.{⊎_elim}
use Prim.Native.Nat.{ℕ, ◌-◌}
use native.Mathlib.Omega.{arith}
use lib.ListN.{length, take, drop, drop_of_length-le, length-drop}
use lib.Seq.{take_all}
use Rattle.ieee.proofs.Pack.{le_or_lt}
use Rattle.reading.specs.Internal.{part_from}

module _ {A : Type 0} where
  pub whole : (l : List A) (i : ℕ) → take (length l - i) (drop i l) ≡ drop i l
  whole l i = take_all (length l - i) (drop i l) (omega (arith, length-drop i l))

  -- the code's part, which begins no later than at the end
  pub part : (l : List A) (a i : ℕ) → i ≡ part_from a (length l) → take (length l - i) (drop i l) ≡ drop a l
  unfolding part_from
  part l a i e =
      whole l i
      ∙ ⊎_elim
      (λ h. drop_of_length-le l {i = i} (omega arith) ∙ sym (drop_of_length-le l {i = a} h))
      (λ h. let z : i ≡ a = omega arith in rw z)
      (le_or_lt (length l) a)
