-- What a reading against an atom answers by its stages. Assumes nothing.
use mathlib.Core.Path.{◌≡◌, refl, sym, ap, ◌∙◌}
use mathlib.Core.Bool.{Bool, true, false, cond, ◌&&◌, ◌||◌}
use mathlib.Core.List.{List}
use Rattle.std.proofs.Common.{Some, None}
use Prim.Native.Nat.{ℕ, ◌+◌, ◌*◌, ◌≤◌, ◌<◌}
use native.Mathlib.Omega.{arith}
use lib.ListN.{length, take, drop, get_or}
use lib.Dec.{leb, ltb, eqb}
use lib.Ieee.{Float, inf, binary64, of_bits}
use borrow.Author.Tests.{lt-ltb, ltb-true, ltb-false, ne_eqb}
use Rattle.grid.specs.Bins.{distance_bin}
use Rattle.search.specs.Search.{Locator}
use Rattle.table.specs.Bytes.{number_at}
use Rattle.table.specs.File.{entry_of}
use Rattle.table.specs.declared.Entry.{Entry}
use Rattle.table.proofs.Items.{entry_at as row_at, entry_at_lem}
use Rattle.table.specs.declared.Table.{Table}
use Rattle.table.specs.declared.AtomTable.{AtomTable}
use Rattle.reading.specs.Resolve.{Reading, Refused, plain, Way, way_valid, Resolved, unresolved, beyond, slab_at, outside, reading_values, Combination, Picks, widened}
use Rattle.reading.specs.Reading.{picks_by, entry_by, slab_by}
use Rattle.reading.specs.Atom.{AtomQuery, atom_query_valid, as_grid, as_table, atom_resolve, atom_combined, atom_search_in, atom_reading_by}
use Rattle.reading.specs.Internal.{items_inside, rows_table, atom_row_place}
use Rattle.reading.proofs.Inside.{not_some, same_place, row_fits, no_row, row_at_lem, scalar-entry, entry-table, kept}

-- ---- the row, by its kind

module _ (file : List ℕ) (t : Table) (f : Bool → Combination) (find : ℕ → Bool → Picks) (e : Entry) where
  pub repulsive-entry : (e.kind ≡ 0 → ⊥) → e.kind ≡ 1 → plain (inf false) ≡ entry_by file t f find e
  repulsive-entry n h = rw h

  module _ (n : e.kind ≡ 0 → ⊥) (m : e.kind ≡ 1 → ⊥) where
    pub unknown-entry : (ltb 3 e.kind || leb t.levels e.level) ≡ true → Refused 19 ≡ entry_by file t f find e
    unknown-entry h = rw (ne_eqb e.kind 0 n, ne_eqb e.kind 1 m, kept e.kind e.level t.levels, h)

    pub mesh-entry : (i : Bool) → eqb e.kind 3 ≡ i → (ltb 3 e.kind || leb t.levels e.level) ≡ false → picks_by file t (f i) e.offset (find e.level i) ≡ entry_by file t f find e
    mesh-entry i z h = rw (ne_eqb e.kind 0 n, ne_eqb e.kind 1 m, kept e.kind e.level t.levels, h, z)

-- ---- the row's place

module _ (file : List ℕ) (t : AtomTable) (r : Float) where
  abbrev bin : ℕ
  bin = distance_bin r t.grid.rmin t.grid.dr t.grid.n_r

  abbrev held : ℕ
  held = items_inside t.rows_start 10 t.rows (length file)

  -- a row that is placed, and one that is not
  pub record Placed (p : ℕ) : Type 0 where
    pub some : 0 < t.grid.n_r
    pub row : bin < held
    pub at : p ≡ t.rows_start + bin * 10

  placed_by : (p : ℕ) (x y : Bool) → ltb 0 t.grid.n_r ≡ x → ltb bin held ≡ y → Some p ≡ cond (x && y) (Some (t.rows_start + bin * 10)) None → Placed p
  placed_by p true true f g e = record { some = ltb-true 0 t.grid.n_r f; row = ltb-true bin held g; at = same_place p (t.rows_start + bin * 10) e }
  placed_by p true false f g e = absurd (not_some p e)
  placed_by p false y f g e = absurd (not_some p e)

  pub placed : (p : ℕ) → Some p ≡ atom_row_place t (length file) r → Placed p
  placed p e = placed_by p _ _ refl refl e

  -- the bytes of a row that was placed
  pub row_bytes_lem : (p : ℕ) → Some p ≡ atom_row_place t (length file) r → p + 10 ≤ length file
  row_bytes_lem p e = let k = placed p e in omega (arith, k.at, row_fits file (as_table t) bin held refl k.row)

module _ (file : List ℕ) (t : AtomTable) (vs : List Float) (l : Locator) (way : Way) (q : AtomQuery) where
  abbrev read : Entry → Reading
  read = entry_by file (as_table t) (atom_combined way) (atom_search_in vs l q.d)

  -- an answer of what is resolved
  abbrev Answers : Reading → Type 0
  Answers z = reading_values z ≡ atom_reading_by file t vs l way q

  answered : (x : Resolved) (z : Reading) → x ≡ atom_resolve (way_valid way) t.grid q → z ≡ slab_by file (as_table t) read x → Answers z
  unfolding atom_reading_by
  answered x z e a = ap reading_values (a ∙ ap (λ (x : Resolved). slab_by file (as_table t) read x) e)

  pub refused_18 : atom_query_valid q ≡ false → Answers (Refused 18)
  unfolding atom_resolve
  refused_18 h = answered (unresolved 18) _ (rw h) refl

  pub refused_21 : atom_query_valid q ≡ true → way_valid way ≡ false → Answers (Refused 21)
  unfolding atom_resolve
  refused_21 h v = answered (unresolved 21) _ (rw (h, v)) refl

  module _ (h : atom_query_valid q ≡ true) (v : way_valid way ≡ true) where
    pub beyond_out : outside (as_grid t.grid) q.r ≡ true → Answers (plain (of_bits binary64 0))
    unfolding atom_resolve
    beyond_out k = answered beyond _ (rw (h, v, k)) refl

    module _ (k : outside (as_grid t.grid) q.r ≡ false) where
      -- no row: there is no bin, or the row is not held
      none_by : (x y : Bool) → ltb 0 t.grid.n_r ≡ x → ltb (bin file t q.r) (held file t q.r) ≡ y
          → None ≡ cond (x && y) (Some (t.rows_start + bin file t q.r * 10)) None → Answers (Refused 19)
      unfolding atom_resolve
      none_by true true f g e = absurd (not_some _ (sym e))
      none_by true false f g e =
          answered (slab_at (bin file t q.r)) _ (rw (h, v, k, f))
          (no_row file (as_table t) read (bin file t q.r) (held file t q.r) (held file t q.r) refl (omega (arith, ltb-false (bin file t q.r) (held file t q.r) g)) (omega arith))
      none_by false y f g e = answered (unresolved 19) _ (rw (h, v, k, f)) refl

      pub row_none : None ≡ atom_row_place t (length file) q.r → Answers (Refused 19)
      row_none e = none_by _ _ refl refl e

      module _ (p : ℕ) (e : Some p ≡ atom_row_place t (length file) q.r) where
        entry_row : (z : Reading) → z ≡ read (entry_of (take 10 (drop p file))) → Answers z
        unfolding atom_resolve
        entry_row z w =
            let o = placed file t q.r p e in
            answered (slab_at (bin file t q.r)) z (rw (h, v, k, lt-ltb 0 t.grid.n_r o.some))
            (w ∙ rw o.at (row_at_lem file (as_table t) read (bin file t q.r) (bin file t q.r) (held file t q.r) refl (omega (arith, o.row)) o.row))

        -- the answers of a row that is inside: a Scalar row's at once, and by the three numbers of the table
        pub scalar_row : get_or file p 0 ≡ 0 → Answers (plain (widened (number_at 4 file (p + 6))))
        scalar_row z =
            entry_row _ (scalar-entry file (as_table t) (atom_combined way) (atom_search_in vs l q.d) (row_at file p) z ∙ ap (λ (e : Entry). read e) (sym (entry_at_lem file p)))

        pub mesh_row : (z : Reading)
            → z ≡ entry_by file (rows_table t.levels t.energies_start t.energies) (atom_combined way) (atom_search_in vs l q.d) (entry_of (take 10 (drop p file))) → Answers z
        mesh_row z w = entry_row z (w ∙ entry-table file (as_table t) (atom_combined way) (atom_search_in vs l q.d) (entry_of (take 10 (drop p file))))
