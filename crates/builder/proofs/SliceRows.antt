-- 11 by the lists, and the questions of settle in the order of the code. Assumes nothing.
use mathlib.Core.Path.{◌≡◌, refl, sym, ap, ◌∙◌}
use mathlib.Core.Bool.{Bool, true, false, ◌&&◌}
use mathlib.Core.List.{List, []}
use Prim.Native.Nat.{ℕ, zero, suc, ◌+◌, ◌*◌}
use native.Mathlib.Omega.{arith}
use lib.ListN.{get_or, take, drop}
use lib.Ieee.{Float}
use Rattle.lists.specs.Questions.{first}
use Rattle.lists.specs.Lists.{all_up_to, every}
use Rattle.mesh.specs.Levels.{per, vertex_count}
use Rattle.mesh.specs.Mesh.{Mesh}
use Rattle.rows.specs.declared.SlabResolution.{SlabResolution}
use Rattle.rows.specs.declared.SlabResolution.TheVariants.{Scalar, Mesh as MeshRow, Repulsive}
use Rattle.rows.specs.Rows.{resolution_at, row_with}
use Rattle.settling.specs.Settling.{from_level}
use Rattle.builder.specs.BuilderLists.{BuilderLists, slab, store_place, row_in, row_at, rows_in, rows_from}
use Rattle.builder.specs.Refusals.{meshed_refusal, settle_refusal}
use Rattle.builder.specs.Atom.{atom_meshed_refusal, atom_settle_refusal}
use Rattle.builder.specs.Internal.{rows_from_level, settle_question, atom_settle_question}
use Rattle.builder.specs.declared.Builder.{Builder}
use Rattle.builder.specs.declared.AtomBuilder.{AtomBuilder}

shift : (n : ℕ) (q : ℕ → Bool) → all_up_to (suc n) q ≡ q 0 && all_up_to n (λ i. q (suc i))
unfolding all_up_to
shift zero q = swap (q 0)
  where
    swap : (a : Bool) → true && a ≡ a && true
    swap true = refl
    swap false = refl
shift (suc n) q = ap (λ (a : Bool). a && q (suc n)) (shift n q) ∙ assoc (q 0) (all_up_to n (λ i. q (suc i))) (q (suc n))
  where
    assoc : (a b c : Bool) → (a && b) && c ≡ a && (b && c)
    assoc true b c = refl
    assoc false b c = refl

same_up : (n : ℕ) (p q : ℕ → Bool) → ((i : ℕ) → p i ≡ q i) → all_up_to n p ≡ all_up_to n q
unfolding all_up_to
same_up zero p q h = refl
same_up (suc n) p q h = rw (same_up n p q h, h n)

any_energies : (c : ℕ) (x : SlabResolution) (e : List Float) → from_level c (row_with x e) ≡ from_level c (row_with x [])
any_energies c (Scalar y) e = refl
any_energies c (MeshRow v b) e = refl
any_energies c Repulsive e = refl

by_lists : (c top : ℕ) (l : BuilderLists) (s n : ℕ) → every (from_level c) (rows_from top l s n) ≡ rows_from_level c l.rows s n
unfolding every rows_in row_in rows_from_level all_up_to
by_lists c top l s zero = refl
by_lists c top l s (suc n) =
    let q : ℕ → Bool = λ i. from_level c (row_with (resolution_at l.rows (s + i)) []) in
    let z : s + 0 ≡ s = omega arith in
    let head : from_level c (row_at top l s) ≡ q 0 = rw z (at_row s) in
    ap (λ (a : Bool). a && every (from_level c) (rows_from top l (suc s) n)) head
    ∙ ap (λ (a : Bool). q 0 && a) (by_lists c top l (suc s) n ∙ same_up n (λ i. from_level c (row_with (resolution_at l.rows (suc s + i)) [])) (λ i. q (suc i)) moved)
    ∙ sym (shift n q)
  where
    at_row : (s : ℕ) → from_level c (row_at top l s) ≡ from_level c (row_with (resolution_at l.rows s) [])
    at_row s = any_energies c (resolution_at l.rows s) (take (per (get_or l.rows.levels s 0)) (drop (store_place top s) l.store))

    moved : (i : ℕ) → from_level c (row_with (resolution_at l.rows (suc s + i)) []) ≡ from_level c (row_with (resolution_at l.rows (s + suc i)) [])
    moved i = let e : suc s + i ≡ s + suc i = omega arith in rw e refl

-- the questions in the order of the code
pub asked_as : (b : Builder) (m : Mesh) (l : BuilderLists) (ri : ℕ) → first (meshed_refusal b m l) (settle_question b.grid.n_r b.grid.n_omega b.top b.level l.rows ri) ≡ settle_refusal b m l ri
unfolding settle_refusal settle_question
asked_as b m l ri = rw (by_lists b.level b.top l (slab b.grid ri 0) b.grid.n_omega) refl

-- .. of a table against an atom, where a slice has one row
pub atom_asked_as : (b : AtomBuilder) (m : Mesh) (l : BuilderLists) (ri : ℕ)
    → first (atom_meshed_refusal b m l) (atom_settle_question b.grid.n_r b.top b.level l.rows ri) ≡ atom_settle_refusal b m l ri
unfolding atom_settle_refusal atom_settle_question row_in
atom_asked_as b m l ri =
    rw (any_energies b.level (resolution_at l.rows ri) (take (vertex_count (get_or l.rows.levels ri 0)) (drop (ri * vertex_count b.top) l.store))) refl
