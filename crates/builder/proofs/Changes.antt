-- A slice of slabs added up, and the level after it. Assumes nothing.
use mathlib.Core.Path.{◌≡◌, refl, sym, ◌∙◌}
use mathlib.Core.Bool.{true, ◌&&◌, ◌||◌, and-true, or-false, and_assoc, or_assoc, and-eq-true_iff}
use mathlib.Core.List.{List, [], ◌∷◌, map}
use Prim.Native.Nat.{ℕ, ◌+◌, ◌%◌, ◌^◌, ◌<◌}
use native.Mathlib.Nat.{mod-eq_of_lt}
use native.Mathlib.Omega.{arith}
use lib.ListN.{length}
use lib.Dec.{ltb}
use lib.Ieee.{Float, lt}
use borrow.Author.Tests.{ltb-true}
use Rattle.lists.specs.Lists.{every}
use Rattle.rows.specs.Rows.{Row}
use Rattle.settling.specs.Settling.{new_row, in_place_of, settles, some_settle, largest_from, settled_rows, not_repulsive, packed_row, packed_rows, packed_after, comparisons_for, comparisons_in}
use Rattle.settling.specs.Internal.{tallied}
use Rattle.builder.specs.Internal.{tally_from, drops_by}
use Rattle.settling.proofs.Packed.{after_few, after_same, after_both}
use Rattle.settling.proofs.Compared.{in_few}
use Rattle.settling.specs.declared.Tally.{Tally}
use Rattle.settling.specs.declared.Verdict.{Verdict}

module _ (f : Row Float → Verdict) (c : ℕ) where
  pub tally_gradient : (t : Tally) (rs : List (Row Float)) → (tally_from f c t rs).gradient ≡ largest_from t.gradient (map f rs)
  unfolding tally_from tallied largest_from
  tally_gradient t [] = refl
  tally_gradient t (r ∷ rs) = tally_gradient (tallied c t r (f r)) rs

  pub tally_settled : (t : Tally) (rs : List (Row Float)) → (tally_from f c t rs).settled ≡ t.settled || some_settle (map f rs)
  unfolding tally_from tallied some_settle
  tally_settled t [] = sym (or-false t.settled)
  tally_settled t (r ∷ rs) = tally_settled (tallied c t r (f r)) rs ∙ or_assoc t.settled (settles (f r)) (some_settle (map f rs))

  pub tally_clear : (t : Tally) (rs : List (Row Float)) → (tally_from f c t rs).clear ≡ t.clear && every not_repulsive (settled_rows c rs (map f rs))
  unfolding tally_from tallied every settled_rows
  tally_clear t [] = sym (and-true t.clear)
  tally_clear t (r ∷ rs) = tally_clear (tallied c t r (f r)) rs ∙ and_assoc t.clear (not_repulsive (in_place_of r (new_row c (f r)))) (every not_repulsive (settled_rows c rs (map f rs)))

  pub tally_packed : (t : Tally) (rs : List (Row Float)) → t.packed < 2 ^ 64
      → (tally_from f c t rs).packed ≡ packed_after t.packed (packed_rows rs) (packed_rows (settled_rows c rs (map f rs)))
  unfolding tally_from tallied packed_rows settled_rows
  tally_packed t [] h = sym (after_same t.packed 0 h)
  tally_packed t (r ∷ rs) h =
      let left = in_place_of r (new_row c (f r)) in
      tally_packed (tallied c t r (f r)) rs (after_few t.packed (packed_row r) (packed_row left))
      ∙ after_both t.packed (packed_row r) (packed_row left) (packed_rows rs) (packed_rows (settled_rows c rs (map f rs)))

  -- .. in a slice of so many slabs that nothing wraps
  pub tally_reached : (t : Tally) (rs : List (Row Float)) → t.reached + length rs < 2 ^ 64 → (tally_from f c t rs).reached ≡ t.reached + comparisons_in 1 (map f rs)
  unfolding tally_from tallied comparisons_in
  tally_reached t [] h = omega arith
  tally_reached t (r ∷ rs) h =
      let one = comparisons_for 1 (f r) in
      let few = in_few (f r ∷ []) in
      let e : (t.reached + one) % 2 ^ 64 ≡ t.reached + one = mod-eq_of_lt (omega (arith, h, few)) in
      let next : (t.reached + one) % 2 ^ 64 + length rs < 2 ^ 64 = rw e (omega (arith, h, few)) in
      tally_reached (tallied c t r (f r)) rs next ∙ rw e (omega arith)

-- the level drops only where it is above 0
pub drops_above : (t : Tally) (threshold : Float) (level : ℕ) → drops_by t threshold level ≡ true → 0 < level
unfolding drops_by
drops_above t threshold level e =
    let a = ((and-eq-true_iff t.settled (t.clear && (lt t.gradient threshold && ltb 0 level))).0 e).1 in
    let b = ((and-eq-true_iff t.clear (lt t.gradient threshold && ltb 0 level)).0 a).1 in
    ltb-true 0 level ((and-eq-true_iff (lt t.gradient threshold) (ltb 0 level)).0 b).1
