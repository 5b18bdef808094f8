-- The theorems of a span: its bins, and its energies against the readings there. Assumes nothing.
use mathlib.Core.Path.{◌≡◌, refl, sym, ap, ◌∙◌, subst}
use mathlib.Core.Bool.{Bool, true, false, cond, ◌&&◌}
use mathlib.Core.List.{List, [], ◌∷◌}
use Prim.Native.Nat.{ℕ, suc, ◌+◌, ◌-◌, ◌*◌, ◌≤◌, ◌<◌}
use native.Mathlib.Omega.{arith}
use lib.Dec.{T, leb, ltb, eqb}
use lib.Ieee.{Float, inf, le, is_nan}
use borrow.Author.Tests.{eqb-true, eqb-false}
use Rattle.lists.specs.Lists.{every, for_each}
use Rattle.lists.proofs.Asking.{ask_yes}
use Rattle.lists.proofs.Places.{place}
use Rattle.mesh.specs.Levels.{vertex_count, per, grid_size}
use Rattle.search.specs.Geometry.{unit}
use Rattle.search.specs.Search.{Locator, locator_from, vertices_from, nearest_in}
use Rattle.search.specs.declared.Nearest.{Nearest}
use Rattle.search.specs.declared.Weights.{Weights}
use Rattle.search.proofs.Below.{nearest_below}
use Rattle.grid.specs.Bins.{table_rmax}
use Rattle.grid.proofs.Rises.{bins_within, span-within}
use Rattle.table.specs.declared.Entry.{Entry}
use Rattle.table.specs.declared.Table.{Table}
use Rattle.reading.specs.declared.Query.{Query}
use Rattle.reading.specs.Resolve.{Reading, Energy, Refused, reading_values, plain, Way, linear, boltzmann, way_valid, query_valid, outside, resolve, Resolved, unresolved, Picks, unpicked, picked, joint, nearest_pick, pair_place, widened, combined}
use Rattle.reading.specs.Reading.{row_inside, energy_inside, entry_at, energy_at, search_in, picks_by, slab_by, read_entry, reading_by}
use Rattle.reading.proofs.Picked.{both_found}
use Rattle.span.specs.Spans.{span_accepted, span_refused, bin_of, slab_in, bins_in, span_question, entry_included, no_extremes, extremes_of, span_of, span_out}
use Rattle.span.specs.Bounds.{BinsPromise, interpolated, EnergyPromise}
use Rattle.span.specs.declared.Extremes.{Extremes}
use Rattle.span.proofs.Outcome.{Ends, ends_are, answered}
use Rattle.span.proofs.Between.{either, lt_self, le_is, Within, between, each_new, entry_kept, scalar_new, repulsive_new, mesh_new}

-- ---- an accepted span

pub record AcceptedSpan (file : List ℕ) (t : Table) (low high omega' : Float) : Type 0 where
  pub ends : Ends t.grid low high
  pub values : span_out file t low high omega' ≡ span_accepted (span_of file t low high omega')

module _ (file : List ℕ) (t : Table) (low high omega' : Float) where
  question-none : (n : ℕ) (b : Bool) → eqb n 0 ≡ b → (cond b (span_accepted (span_of file t low high omega')) (span_refused n)).number ≡ 0 → n ≡ 0
  question-none n true e h = eqb-true n 0 e
  question-none n false e h = h

  pub accepted : (span_out file t low high omega').number ≡ 0 → AcceptedSpan file t low high omega'
  unfolding span_out span_question
  accepted h =
      let q = question-none (span_question file t low high omega') _ refl h in
      let a = ask_yes (omega arith) q in
      let b = ask_yes (omega arith) a.1 in
      let c = ask_yes (omega arith) b.1 in
      record { ends = ends_are t.grid low high omega' a.0 b.0; values = answered file t low high omega' a.0 b.0 c.0 }

as_test : (b : Bool) → b ≡ true → T b
as_test b h = rw h tt

-- ---- bins

pub bins_promise : BinsPromise
unfolding span_of
bins_promise file t low high omega' h =
    let a = accepted file t low high omega' h in
    let e = a.ends in
    let self : (x : Float) → is_nan x ≡ false → le x x ≡ true = λ x n. le_is x x n n (lt_self x) in
    let order : le low high ≡ true = le_is low high e.low_number e.high_number e.order in
    rw a.values
    record {
      inside = λ r s. bins_within low r high t.grid.rmin t.grid.dr t.grid.n_r e.above (as_test _ s.from) (as_test _ s.to);
      low_in = record { from = self low e.low_number; to = order };
      high_in = record { from = order; to = self high e.high_number };
      low_reached = refl;
      high_reached = refl;
    }

-- ---- energies

-- an energy that is shown, and is not a NaN, has P
abbrev Good : (Float → Type 0) → Reading → Type 0
Good P z = (reading_values z).number ≡ 0 → is_nan (reading_values z).energy ≡ false → P (reading_values z).energy

refused : (P : Float → Type 0) (n : ℕ) → 0 < n → Good P (Refused n)
refused P n l e m = absurd (omega arith)

-- a nearest search has one energy, either way
single : (way : Way) (a b : Weights) (x : ℕ) → combined way false a b (x ∷ []) ≡ widened x
unfolding combined
single linear a b x = refl
single (boltzmann beta) a b x = refl

module _ (P : Float → Type 0) (file : List ℕ) (t : Table) (e : Entry) (adds : (v : Float) → is_nan v ≡ false → ((x : Extremes) → Within (entry_included file t e x) v) → P v) where
  module _ (way : Way) (z : eqb e.kind 0 ≡ false) (o : eqb e.kind 1 ≡ false) where
    -- the energy at a place of the row
    at_place : (k : ℕ) (u v : Weights) (x y : Float) → k < per e.level → Good P (picks_by file t (combined way false) e.offset (picked (k ∷ []) u v x y))
    at_place k u v x y l =
        let i = energy_at file t (e.offset + k) in
        either (Good P) (every (λ j. energy_inside file t (e.offset + j)) (k ∷ [])) (Energy x (combined way false u v (i ∷ [])) y) (Refused 19)
        (λ h q m. subst P (sym (single way u v i)) (adds (widened i) (sym (ap is_nan (single way u v i)) ∙ m) (λ w. mesh_new file t e w k z o l (sym (ap is_nan (single way u v i)) ∙ m))))
        (λ h. refused P 19 (omega arith))

    nearest_good : (n : ℕ) (a b : Nearest) → n * n ≡ per e.level → (a.number ≡ 0 → a.vertex < n) → (b.number ≡ 0 → b.vertex < n)
        → Good P (picks_by file t (combined way false) e.offset (nearest_pick n a b))
    unfolding nearest_pick
    nearest_good n a b s p q =
        let r = joint a.number b.number in
        either (λ (x : Picks). Good P (picks_by file t (combined way false) e.offset x)) (eqb r 0) _ (unpicked r)
        (λ h. let f = both_found a.number b.number (eqb-true r 0 h) in
        at_place (pair_place n a.vertex b.vertex) _ _ _ _ (subst (λ (m : ℕ). pair_place n a.vertex b.vertex < m) s (omega (arith, place a.vertex n (suc b.vertex) n (p f.0) (q f.1)))))
        (λ h w m. absurd (eqb-false r 0 h w))

  entry_good : (vs : List Float) (l : Locator) (way : Way) (q : Query) → eqb e.kind 3 ≡ false → Good P (read_entry file t vs l way q e)
  unfolding read_entry search_in nearest_in per
  entry_good vs l way q i =
      let n = vertex_count e.level in
      let g = grid_size n in
      let vertices = vertices_from e.level vs in
      let p = locator_from e.level l in
      either (Good P) (eqb e.kind 0) (plain (widened e.scalar)) _ (λ h w m. adds (widened e.scalar) m (λ x. scalar_new file t e x h m))
      (λ h. either (Good P) (eqb e.kind 1) (plain (inf false)) _ (λ k w m. adds (inf false) m (λ x. repulsive_new file t e x h k m))
      (λ k. either (Good P) (leb e.kind 3 && ltb e.level t.levels) _ (Refused 19)
      (λ c. rw i (nearest_good way h k n (nearest_in p vertices n g (unit q.a)) (nearest_in p vertices n g (unit q.b)) refl
      (nearest_below vertices n (unit q.a) p.cell_offsets p.cell_vertices g) (nearest_below vertices n (unit q.b) p.cell_offsets p.cell_vertices g)))
      (λ c. refused P 19 (omega arith))))

module _ (P : Float → Type 0) (file : List ℕ) (t : Table) (read : Entry → Reading) where
  -- a distance that is not outside is read in its slab's row
  slab_good : (valid : Bool) (q : Query) → outside t.grid q.r ≡ false
      → Good P (read (entry_at file t (slab_in t.grid (bin_of t.grid q.r) q.omega)))
      → Good P (slab_by file t read (resolve valid t.grid q))
  unfolding resolve
  slab_good valid q out h =
      let R : Resolved → Type 0 = λ x. Good P (slab_by file t read x) in
      either R (query_valid q) _ (unresolved 18)
      (λ a. either R valid _ (unresolved 21)
      (λ v. rw out
      (either R (ltb 0 t.grid.n_r && ltb 0 t.grid.n_omega) _ (unresolved 19)
      (λ b. either (Good P) (row_inside file t (slab_in t.grid (bin_of t.grid q.r) q.omega)) _ (Refused 19) (λ i. h) (λ i. refused P 19 (omega arith)))
      (λ b. refused P 19 (omega arith))))
      (λ v. refused P 21 (omega arith)))
      (λ a. refused P 18 (omega arith))

module _ (file : List ℕ) (t : Table) (first last : ℕ) (omega' : Float) where
  -- what one of the rows adds is between the extremes of all
  row_within : (b : ℕ) → first ≤ b → b ≤ last → (v : Float) → is_nan v ≡ false → ((x : Extremes) → Within (entry_included file t (entry_at file t (slab_in t.grid b omega')) x) v)
      → (le (extremes_of file t first last omega').smallest v ≡ true) × (le v (extremes_of file t first last omega').largest ≡ true)
  unfolding extremes_of
  row_within b l h v n w =
      let row : ℕ → Entry = λ i. entry_at file t (slab_in t.grid (first + i) omega') in
      let f : ℕ → Extremes → Extremes = λ i x. entry_included file t (row i) x in
      let e : b ≡ first + (b - first) = omega arith in
      between (for_each (bins_in first last) f no_extremes) v n
      (each_new v f (λ i x y. entry_kept file t (row i) v x y) (b - first) (bins_in first last) (omega arith)
      (subst (λ (j : ℕ). (x : Extremes) → Within (entry_included file t (entry_at file t (slab_in t.grid j omega')) x) v) e w) no_extremes)

pub energy_promise : EnergyPromise
unfolding span_of reading_by interpolated outside
energy_promise file t low high omega' h vertices l way q o s i z n =
    let a = accepted file t low high omega' h in
    let e = a.ends in
    let g = t.grid in
    let from = as_test (le low q.r) s.from in
    let to = as_test (le q.r high) s.to in
    let bins = bins_within low q.r high g.rmin g.dr g.n_r e.above from to in
    let out = span-within low q.r high g.rmin g.dr g.n_r e.above from to (table_rmax g.n_r g.dr g.rmin) e.below in
    let first = bin_of g low in
    let last = bin_of g high in
    let x = extremes_of file t first last omega' in
    let P : Float → Type 0 = λ v. (le x.smallest v ≡ true) × (le v x.largest ≡ true) in
    let b = bin_of g q.r in
    let adds : (v : Float) → is_nan v ≡ false → ((y : Extremes) → Within (entry_included file t (entry_at file t (slab_in g b q.omega)) y) v) → P v =
    λ v m w. row_within file t first last omega' b bins.0 bins.1 v m (subst (λ (u : Float). (y : Extremes) → Within (entry_included file t (entry_at file t (slab_in g b u)) y) v) o w) in
    rw a.values
    (slab_good P file t (read_entry file t vertices l way q) (way_valid way) q (rw (out.0, out.1))
    (entry_good P file t (entry_at file t (slab_in g b q.omega)) adds vertices l way q i) z n)
