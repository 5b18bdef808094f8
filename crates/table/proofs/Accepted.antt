-- What the questions of read, answered yes, say of the file; and read's outcome by the answers. Assumes nothing.
use mathlib.Core.Path.{◌≡◌, refl, sym, ap, ◌∙◌}
use mathlib.Core.Bool.{Bool, true, false, not, and-eq-true_iff}
use mathlib.Core.List.{List}
use Prim.Native.Nat.{ℕ, zero, suc, ◌+◌, ◌*◌, ◌-◌, ◌≤◌, ◌<◌}
use native.Mathlib.Nat.{mul-le-mul}
use native.Mathlib.Omega.{arith}
use lib.ListN.{length}
use lib.Dec.{leb, ltb, eqb}
use lib.Ieee.{binary32, nan_bits}
use borrow.Author.Tests.{leb-true, le-leb, eqb-true, eqb-false, eq-eqb, ne_eqb}
use Rattle.lists.specs.Questions.{ask, first}
use Rattle.lists.specs.Lists.{every}
use Rattle.mesh.specs.Levels.{per}
use Rattle.grid.specs.Settings.{grid_range, grid_valid, slabs_fit}
use Rattle.grid.specs.Atom.{atom_grid_range, atom_slabs_fit, atom_grid_valid}
use Rattle.grid.specs.declared.Grid.{Grid}
use Rattle.grid.specs.declared.AtomGrid.{AtomGrid}
use Rattle.grid.proofs.Laws.{Ranged, ranged, AtomRanged, atom_ranged}
use Rattle.table.specs.Tail.{tail_valid}
use Rattle.table.specs.Read.{count_at, layout, laid_out, ended, table_laid_out, tail_at, table_of, row_items, energy_items, tail_in, table_valid, entry_valid, tiled, no_table, ReadValues, read_refusal, read_out}
use Rattle.table.specs.View.{host, within, read_refusal_over, read_over, Smaller, AcceptedAlike, HostReads}
use Rattle.table.specs.declared.Bound.{Bound}
use Rattle.table.specs.Atom.{atom_table_of, no_atom_table, AtomReadValues, atom_read_refusal, atom_read_out}
use Rattle.table.specs.Internal.{SectionsInside, Inside, TailInside, TableSections, table_question, atom_table_question}
use Rattle.table.specs.declared.Layout.{Layout}
use Rattle.table.specs.declared.Table.{Table}
use Rattle.table.specs.declared.AtomTable.{AtomTable}
use Rattle.table.proofs.Numbers.{none_there}

heads : (i j : ℕ) (file : List ℕ) → eqb (count_at file 0) i ≡ true → eqb (count_at file (layout file).bins) j ≡ true → (layout file).end ≤ length file
    → SectionsInside i j file (layout file)
unfolding layout
heads i j file a b l =
    let m = eqb-true (count_at file 0) i a in
    let n = eqb-true (count_at file (layout file).bins) j b in
    record { bins = omega (arith, m); levels = omega (arith, m, n); rows = omega arith; energies = omega arith; end = l }

by_layout : (i j : ℕ) (file : List ℕ) → laid_out i j file (layout file) ≡ true → SectionsInside i j file (layout file)
unfolding laid_out
by_layout i j file h =
    let a = (and-eq-true_iff (eqb (count_at file 0) i) _).0 h in
    let b = (and-eq-true_iff (eqb (count_at file (layout file).bins) j) _).0 a.1 in
    heads i j file a.0 b.0 (omega (arith, eqb-true (layout file).end (length file) b.1))

pub laid : (i j : ℕ) (file : List ℕ) (p : Layout) → p ≡ layout file → laid_out i j file p ≡ true → SectionsInside i j file p
laid i j file p e h = rw e (by_layout i j file (rw e at h))

pub inside : (i j : ℕ) (file : List ℕ) (p : Layout) → SectionsInside i j file p
    → Inside file (p.levels + 4) (count_at file p.levels) (p.rows + 4) (count_at file p.rows) (p.energies + 4) (count_at file p.energies)
inside i j file p h = record {
  levels = omega (arith, h.rows, h.energies, h.end);
  rows = omega (arith, h.energies, h.end);
  energies = omega (arith, h.end);
}

-- ---- where a sixth section may follow

pub some : (n : ℕ) → (n ≡ 0 → ⊥) → 0 < n
some zero h = absurd (h refl)
some (suc n) h = omega arith

-- what is left of a file, by a difference
left_by : (n end k : ℕ) (x : Bool) → end ≤ n → eqb (end + 4 + k * 20 + 8) n ≡ x → eqb (n - end) (k * 20 + 12) ≡ x
left_by n end k true h e = let z = eqb-true (end + 4 + k * 20 + 8) n e in eq-eqb (n - end) (k * 20 + 12) (omega (arith, z))
left_by n end k false h e = ne_eqb (n - end) (k * 20 + 12) (λ z. eqb-false (end + 4 + k * 20 + 8) n e (omega (arith, z)))

pub left_is : (n end k : ℕ) → end ≤ n → eqb (n - end) (k * 20 + 12) ≡ eqb (end + 4 + k * 20 + 8) n
left_is n end k h = left_by n end k _ h refl

ended_by : (file : List ℕ) (end : ℕ) (x : Bool) → eqb end (length file) ≡ x → ended file end ≡ true → (end ≤ length file) × TailInside file (end + 4) (count_at file end)
unfolding ended
ended_by file end true e h =
    let l = eqb-true end (length file) e in
    (omega (arith, l), λ z. absurd (omega (arith, z, none_there file end (omega (arith, l)))))
ended_by file end false e h =
    let a = (and-eq-true_iff (ltb 0 (count_at file end)) _).0 (rw e at h) in
    let s = eqb-true (end + 4 + count_at file end * 20 + 8) (length file) a.1 in
    (omega (arith, s), λ z. omega (arith, s))

by_table-layout : (file : List ℕ) → table_laid_out file (layout file) ≡ true → TableSections file (layout file)
unfolding table_laid_out
by_table-layout file h =
    let a = (and-eq-true_iff (eqb (count_at file 0) 3) _).0 h in
    let b = (and-eq-true_iff (eqb (count_at file (layout file).bins) 2) _).0 a.1 in
    let d = ended_by file (layout file).end _ refl b.1 in
    (heads 3 2 file a.0 b.0 d.0, d.1)

pub table_laid : (file : List ℕ) (p : Layout) → p ≡ layout file → table_laid_out file p ≡ true → TableSections file p
table_laid file p e h = rw e (by_table-layout file (rw e at h))

tail_inside : (file : List ℕ) (end : ℕ) → TailInside file (end + 4) (count_at file end) → TailInside file (tail_at file end) (count_at file end)
unfolding tail_at
tail_inside file end h = λ z. rw (ne_eqb (count_at file end) 0 (λ e. omega (arith, z, e))) (h z)

pub table_inside : (file : List ℕ) (p : Layout) → TableSections file p
    → Inside file (p.levels + 4) (count_at file p.levels) (p.rows + 4) (count_at file p.rows) (p.energies + 4) (count_at file p.energies)
    × TailInside file (tail_at file p.end) (count_at file p.end)
table_inside file p h = (inside 3 2 file p h.0, tail_inside file p.end h.1)

pub held_ranged : (g : Grid) (levels : ℕ) → grid_valid g levels ≡ true → Ranged g levels
unfolding grid_valid
held_ranged g levels h = ranged g levels ((and-eq-true_iff (grid_range g levels) (slabs_fit g.n_r g.n_omega (levels - 1))).0 h).0

-- as many slabs as this number of 64 bits holds
pub slabs_counted : (g : Grid) (levels : ℕ) → grid_valid g levels ≡ true → g.n_r * g.n_omega ≤ 4294836225
slabs_counted g levels h = let r = held_ranged g levels h in omega (arith, mul-le-mul r.distances r.dihedrals)

pub atom_held_ranged : (g : AtomGrid) (levels : ℕ) → atom_grid_valid g levels ≡ true → AtomRanged g levels
unfolding atom_grid_valid
atom_held_ranged g levels h = atom_ranged g levels ((and-eq-true_iff (atom_grid_range g levels) (atom_slabs_fit g.n_r (levels - 1))).0 h).0

-- ---- the outcome

-- 15 to 17, by the number that they gave, and what is asked after them
rows_then : (a b d : Bool) (rest : ℕ) → ask a 15 (ask b 16 (ask d 17 rest)) ≡ first (ask a 15 (ask b 16 (ask d 17 0))) rest
unfolding ask first
rows_then false b d rest = refl
rows_then true false d rest = refl
rows_then true true false rest = refl
rows_then true true true rest = refl

-- the outcome of a file that is refused by a number, and of one with the table t
abbrev pub refused : ℕ → ReadValues
refused n = record { number = n; table = no_table }

abbrev pub accepted : Table → ReadValues
accepted t = record { number = 0; table = t }

module _ (b : Bound) (file : List ℕ) where
  pub read_unlaid : table_laid_out file (layout file) ≡ false → read_over b file ≡ refused 13
  unfolding read_over read_refusal_over ask
  read_unlaid h = rw h

  module _ (h : table_laid_out file (layout file) ≡ true) (n : ℕ) (e : n ≡ table_question b file (table_of file (layout file))) where
    questioned : read_refusal_over b file (layout file) (table_of file (layout file)) ≡ n
    unfolding read_refusal_over ask
    questioned =
        let t = table_of file (layout file) in
        rw h
        (ap (λ (m : ℕ). ask (table_valid file t) 14 (ask (within b t) 24 m))
        (rows_then (every (entry_valid t.levels) (row_items file t)) (tiled per 0 t.energies (row_items file t)) (every (λ x. not (nan_bits binary32 x)) (energy_items file t))
        (ask (tail_valid (tail_in file t)) 23 0))
        ∙ sym e)

    pub read_refused : eqb n 0 ≡ false → read_over b file ≡ refused n
    unfolding read_over
    read_refused z = rw (questioned, z)

    pub read_accepted : n ≡ 0 → read_over b file ≡ accepted (table_of file (layout file))
    unfolding read_over
    read_accepted z = rw (questioned, eq-eqb n 0 z)

-- ---- bounds

-- 14 answered yes keeps the host's bound
pub host-within : (file : List ℕ) (t : Table) → table_valid file t ≡ true → within host t ≡ true
unfolding table_valid within
host-within file t h =
    let a = (and-eq-true_iff (grid_valid t.grid t.levels) _).0 h in
    let many = eqb-true t.rows (t.grid.n_r * t.grid.n_omega) ((and-eq-true_iff (eqb t.rows (t.grid.n_r * t.grid.n_omega)) _).0 a.1).0 in
    let r = held_ranged t.grid t.levels a.0 in
    rw (le-leb t.levels 16 r.few, le-leb t.rows 4294836225 (omega (arith, many, mul-le-mul r.distances r.dihedrals)))

-- 13, 14, then 24, which was answered yes where these were
no_bound : (a v w : Bool) (rest : ℕ) → (v ≡ true → w ≡ true) → ask a 13 (ask v 14 (ask w 24 rest)) ≡ ask a 13 (ask v 14 rest)
unfolding ask
no_bound a false w rest h = refl
no_bound a true w rest h = rw (h refl)

pub host-reads : HostReads
unfolding read_over read_out read_refusal_over read_refusal
host-reads file =
    let p = layout file in
    let t = table_of file p in
    rw (no_bound (table_laid_out file p) (table_valid file t) (within host t) _ (host-within file t)) refl

-- 24 answered yes under a bound is answered yes under a larger one
within-larger : (b c : Bound) (t : Table) → Smaller b c → within b t ≡ true → within c t ≡ true
unfolding within
within-larger b c t s h =
    let a = (and-eq-true_iff (leb t.levels b.levels) (leb t.rows b.rows)).0 h in
    let l = leb-true t.levels b.levels a.0 in
    let r = leb-true t.rows b.rows a.1 in
    rw (le-leb t.levels c.levels (omega (arith, l, s.levels)), le-leb t.rows c.rows (omega (arith, r, s.rows)))

-- a file that is accepted: the questions of one bound are those of the other
same_questions : (a v w x : Bool) (rest : ℕ) → (w ≡ true → x ≡ true) → ask a 13 (ask v 14 (ask w 24 rest)) ≡ 0 → ask a 13 (ask v 14 (ask x 24 rest)) ≡ ask a 13 (ask v 14 (ask w 24 rest))
unfolding ask
same_questions false v w x rest h e = refl
same_questions true false w x rest h e = refl
same_questions true true false x rest h e = absurd (omega (arith, e))
same_questions true true true x rest h e = rw (h refl)

accepted_by : (b c : Bound) → Smaller b c → (file : List ℕ) (x : Bool) → eqb (read_refusal_over b file (layout file) (table_of file (layout file))) 0 ≡ x
    → (read_over b file).number ≡ 0 → read_over c file ≡ read_over b file
unfolding read_over read_refusal_over
accepted_by b c s file true d e =
    let p = layout file in
    let t = table_of file p in
    rw (same_questions (table_laid_out file p) (table_valid file t) (within b t) (within c t) _ (within-larger b c t s) (eqb-true _ 0 d)) refl
accepted_by b c s file false d e = absurd (eqb-false _ 0 d (rw d at e))

pub accepted_alike : AcceptedAlike
accepted_alike b c s file e = accepted_by b c s file _ refl e

-- ---- against an atom

abbrev pub atom_refused : ℕ → AtomReadValues
atom_refused n = record { number = n; table = no_atom_table }

abbrev pub atom_accepted : AtomTable → AtomReadValues
atom_accepted t = record { number = 0; table = t }

module _ (file : List ℕ) where
  pub atom_read_unlaid : laid_out 2 1 file (layout file) ≡ false → atom_read_out file ≡ atom_refused 13
  unfolding atom_read_out atom_read_refusal ask
  atom_read_unlaid h = rw h

  module _ (h : laid_out 2 1 file (layout file) ≡ true) (n : ℕ) (e : n ≡ atom_table_question file (atom_table_of file (layout file))) where
    atom_questioned : atom_read_refusal file (layout file) (atom_table_of file (layout file)) ≡ n
    unfolding atom_read_refusal ask
    atom_questioned = rw h (sym e)

    pub atom_read_refused : eqb n 0 ≡ false → atom_read_out file ≡ atom_refused n
    unfolding atom_read_out
    atom_read_refused z = rw (atom_questioned, z)

    pub atom_read_accepted : n ≡ 0 → atom_read_out file ≡ atom_accepted (atom_table_of file (layout file))
    unfolding atom_read_out
    atom_read_accepted z = rw (atom_questioned, eq-eqb n 0 z)
