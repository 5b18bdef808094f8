-- A number for each level: a turn of the loop that writes them, and one of them. Assumes nothing.
use mathlib.Core.Path.{◌≡◌, refl, sym, ap, ◌∙◌}
use mathlib.Core.List.{List, [], ◌∷◌}
use mathlib.Core.Logic.{⊎_elim}
use Prim.Native.Nat.{ℕ, zero, suc, ◌+◌, ◌*◌, ◌≤◌, ◌<◌}
use native.Mathlib.Nat.{eq-or-lt_of_le, le_of_suc-le-suc}
use native.Mathlib.Numerals.{add-one}
use native.Mathlib.Omega.{arith}
use lib.ListN.{length, set, get_or, replicate, length-replicate}
use lib.Seq.{get_or-set_same, get_or-set_other}
use Rattle.lists.specs.Lists.{joined}
use Rattle.lists.proofs.Sums.{sum_le, sum_const}
use Rattle.lists.proofs.Written.{put_push, put_nil, length-put, length-joined, joined-more}
use Rattle.mesh.specs.Levels.{vertex_count, vertices_below}
use Rattle.mesh.specs.Mesh.{neighbour_total}
use Rattle.sizing.specs.Sizing.{by_level}

module _ (f : ℕ → ℕ) where
  abbrev first : ℕ → List ℕ
  first n = joined n (λ m. f m ∷ [])

  many : (n : ℕ) → length (first n) ≡ n
  many n = length-joined n (λ m. f m ∷ []) ∙ sum_const n 1 ∙ omega arith

  pub none_yet : replicate 16 0 ≡ by_level 0 f
  unfolding by_level joined
  none_yet = sym (put_nil (replicate 16 0) 0)

  pub one_more : (n : ℕ) (out : List ℕ) → out ≡ by_level n f → n < 16 → set out n (f n) ≡ by_level (n + 1) f
  unfolding by_level
  one_more n out e h =
      let k : 0 + length (first n) ≡ n = omega (arith, many n) in
      rw (e, joined-more n (λ m. f m ∷ [])) (rw k at (put_push (replicate 16 0) 0 (first n) (f n) (omega (arith, k, length-replicate {A = ℕ} 16 0))))

  pub sixteen : (n : ℕ) → n ≤ 16 → length (by_level n f) ≡ 16
  unfolding by_level
  sixteen n h = length-put (replicate 16 0) 0 (first n) (omega (arith, many n, length-replicate {A = ℕ} 16 0)) ∙ length-replicate {A = ℕ} 16 0

  -- the number of a level
  pub at_level : (n m : ℕ) → m < n → n ≤ 16 → get_or (by_level n f) m 0 ≡ f m
  at_level zero m l h = absurd (omega arith)
  at_level (suc n) m l h =
      let next : by_level (suc n) f ≡ set (by_level n f) n (f n) = sym (rw add-one at (one_more n (by_level n f) refl (omega arith))) in
      ap (λ (t : List ℕ). get_or t m 0) next
      ∙ ⊎_elim
      (λ e. rw e (get_or-set_same (by_level n f) n (f n) 0 (omega (arith, sixteen n (omega arith)))))
      (λ i. get_or-set_other (by_level n f) n m (f n) 0 (λ e. absurd (omega (arith, e, i))) ∙ at_level n m i (omega arith))
      (eq-or-lt_of_le (le_of_suc-le-suc l))

-- a total of neighbour counts that are below 256
pub total_le : (counts : List ℕ) → ((i : ℕ) → get_or counts i 0 < 256) → (m : ℕ) → neighbour_total counts m ≤ vertex_count m * 255
unfolding neighbour_total
total_le counts h m =
    omega (arith, sum_le (vertex_count m) (λ v. get_or counts (vertices_below m + v) 0) (λ v. 255) (λ v l. omega (arith, h (vertices_below m + v))), sum_const (vertex_count m) 255)
