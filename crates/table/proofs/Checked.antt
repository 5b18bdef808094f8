-- A file that the reader accepts passes the Rust's own checks. Assumes nothing.
use mathlib.Core.Path.{◌≡◌, refl, ap, ◌∙◌}
use mathlib.Core.Bool.{Bool, true, false, and-eq-true_iff}
use mathlib.Core.List.{List, [], ◌∷◌}
use Rattle.std.proofs.Common.{Ok}
use Prim.Native.Nat.{ℕ, ◌+◌, ◌*◌, ◌-◌, ◌≤◌, ◌<◌}
use native.Mathlib.Nat.{suc-mul, mul-le-mul, mul-pos}
use native.Mathlib.Omega.{arith}
use lib.ListN.{length}
use lib.Dec.{leb, ltb, eqb, lit<}
use lib.Ieee.Scale.{finite}
use borrow.Author.Tests.{leb-true, leb-false, ltb-true, eqb-true, eqb-false, le-leb, lt-ltb, ne_eqb}
use Rattle.lists.specs.Lists.{every}
use Rattle.mesh.specs.Levels.{vertex_count, per}
use Rattle.lists.proofs.Asking.{ask_yes}
use Rattle.lists.proofs.Counting.{all_at}
use Rattle.mesh.proofs.Sizes.{per_mono}
use Rattle.grid.specs.Bins.{distance_count, dihedral_count, table_rmax}
use Rattle.grid.specs.Settings.{above, bins_in_range, own_count, slabs_fit, grid_range, grid_valid}
use Rattle.grid.specs.declared.Grid.{Grid}
use Rattle.grid.proofs.Tables.{some_bins}
use Rattle.grid.proofs.Reaches.{reaches}
use Rattle.table.specs.Bytes.{number_at}
use Rattle.table.specs.File.{Entry, entry_of}
use Rattle.table.specs.Read.{layout, table_laid_out, grid_of, table_of, row_items, table_valid, entry_valid, tiled, ReadValues, read_values, read_refusal, read_out}
use Rattle.table.specs.Checks.{check_grid, slab_checked, check_slabs}
use Rattle.table.specs.declared.Layout.{Layout}
use Rattle.table.specs.declared.Table.{Table}
use Rattle.table.proofs.Items.{items-many}
use Rattle.table.proofs.Accepted.{held_ranged}

-- ---- the grid

grid_checked : (g : Grid) (levels : ℕ) → grid_valid g levels ≡ true → g.rmax ≡ table_rmax g.n_r g.dr g.rmin → check_grid g ≡ true
unfolding grid_valid own_count check_grid
grid_checked g levels h e =
    let a = (and-eq-true_iff (finite g.rmin) _).0 ((and-eq-true_iff _ (slabs_fit g.n_r g.n_omega (levels - 1))).0 h).0 in
    let b = (and-eq-true_iff (above g.dr) _).0 a.1 in
    let d = (and-eq-true_iff (above g.omega_step) _).0 b.1 in
    let l = (and-eq-true_iff (leb levels 16) _).0 ((and-eq-true_iff (leb 1 levels) _).0 d.1).1 in
    let n = (and-eq-true_iff (bins_in_range g.n_r g.n_omega) _).0 l.1 in
    let o = (and-eq-true_iff (eqb g.n_omega (dihedral_count g.omega_step)) _).0 n.1 in
    let some = some_bins g levels h in
    let own = rw (← e) at o.1 in
    let reach = reaches g.rmin g.rmax g.dr a.0 b.0 (omega (arith, some.0, eqb-true g.n_r (distance_count g.rmin g.rmax g.dr) own)) in
    rw (a.0, reach, b.0, d.0, own, o.0, lt-ltb 0 g.n_r some.0, lt-ltb 0 g.n_omega some.1)

-- ---- the rows

-- what 15 says of a row with energies
pub mesh-held : (levels : ℕ) (r : Entry) → leb r.kind 1 ≡ false → entry_valid levels r ≡ true → r.level < levels
unfolding entry_valid
mesh-held levels r k e =
    let n = leb-false r.kind 1 k in
    let a = rw (ne_eqb r.kind 0 (λ z. omega (arith, z)), ne_eqb r.kind 1 (λ z. omega (arith, z))) at e in
    ltb-true r.level levels ((and-eq-true_iff (ltb r.level levels) _).0 ((and-eq-true_iff (leb r.kind 3) _).0 a).1).0

module _ (each : ℕ → ℕ) (mono : (v w : ℕ) → v ≤ w → each v ≤ each w) (levels n : ℕ) where
  -- what 16 says of a row and of those after it
  tiled_step : (o : ℕ) (r : Entry) (rs : List Entry) → leb r.kind 1 ≡ false → tiled each o n (r ∷ rs) ≡ true → (r.offset ≡ o) × (tiled each (o + each r.level) n rs ≡ true)
  unfolding tiled
  tiled_step o r rs k e =
      let a = (and-eq-true_iff (eqb r.offset o) (tiled each (o + each r.level) n rs)).0 (rw k at e) in
      (eqb-true r.offset o a.0, a.1)

  tiled_pass : (o : ℕ) (r : Entry) (rs : List Entry) → leb r.kind 1 ≡ true → tiled each o n (r ∷ rs) ≡ true → tiled each o n rs ≡ true
  unfolding tiled
  tiled_pass o r rs k e = rw k at e

  tiled_le : (o : ℕ) (rs : List Entry) → tiled each o n rs ≡ true → o ≤ n
  unfolding tiled
  tiled_le o [] e = omega (arith, eqb-true o n e)
  tiled_le o (r ∷ rs) e = by (leb r.kind 1) refl (tiled_le o rs) (tiled_le (o + each r.level) rs)
    where
      by : (t : Bool) → leb r.kind 1 ≡ t → (tiled each o n rs ≡ true → o ≤ n) → (tiled each (o + each r.level) n rs ≡ true → o + each r.level ≤ n) → o ≤ n
      by true k p q = p (tiled_pass o r rs k e)
      by false k p q = omega (arith, q (tiled_step o r rs k e).1)

  tiled_few : (o : ℕ) (rs : List Entry) → every (entry_valid levels) rs ≡ true → tiled each o n rs ≡ true → n ≤ o + length rs * each (levels - 1)
  unfolding tiled every
  tiled_few o [] h e = omega (arith, eqb-true o n e)
  tiled_few o (r ∷ rs) h e = rw suc-mul (by (leb r.kind 1) refl (tiled_few o rs a.1) (tiled_few (o + each r.level) rs a.1))
    where
      a : (entry_valid levels r ≡ true) × (every (entry_valid levels) rs ≡ true)
      a = (and-eq-true_iff (entry_valid levels r) (every (entry_valid levels) rs)).0 h

      by : (t : Bool) → leb r.kind 1 ≡ t → (tiled each o n rs ≡ true → n ≤ o + length rs * each (levels - 1))
          → (tiled each (o + each r.level) n rs ≡ true → n ≤ o + each r.level + length rs * each (levels - 1)) → n ≤ o + (length rs * each (levels - 1) + each (levels - 1))
      by true k p q = omega (arith, p (tiled_pass o r rs k e))
      by false k p q =
          let l = mesh-held levels r k a.0 in
          omega (arith, q (tiled_step o r rs k e).1, mono r.level (levels - 1) (omega (arith, l)))

some_energies : (v : ℕ) → 0 < per v
unfolding per vertex_count
some_energies v = mul-pos (omega arith) (omega arith)

module _ (file : List ℕ) (t : Table) (few : t.energies ≤ 4294967295) (counts : (k : ℕ) → k < t.levels → number_at 4 file (t.levels_start + 4 * k) ≡ vertex_count k) where
  row_checked : (o : ℕ) (r : Entry) (rs : List Entry) (x : Bool) → leb r.kind 1 ≡ x → entry_valid t.levels r ≡ true → tiled per o t.energies (r ∷ rs) ≡ true → slab_checked file t r ≡ true
  unfolding slab_checked per
  row_checked o r rs true k h e = rw k
  row_checked o r rs false k h e =
      let l = mesh-held t.levels r k h in
      let s = tiled_step per per_mono t.levels t.energies o r rs k e in
      let i : r.offset + per r.level ≤ t.energies = omega (arith, s.0, tiled_le per per_mono t.levels t.energies (o + per r.level) rs s.1) in
      rw (
        k,
        lt-ltb r.level t.levels l,
        ne_eqb r.offset 0xFFFF_FFFF (λ z. omega (arith, z, i, few, some_energies r.level)),
        counts r.level l,
        le-leb (per r.level + r.offset) t.energies (omega (arith, i)),
      )

  rows_checked : (o : ℕ) (rs : List Entry) → every (entry_valid t.levels) rs ≡ true → tiled per o t.energies rs ≡ true → every (slab_checked file t) rs ≡ true
  unfolding every
  rows_checked o [] h e = refl
  rows_checked o (r ∷ rs) h e = rw (row_checked o r rs _ refl a.0 e) (by (leb r.kind 1) refl (rows_checked o rs a.1) (rows_checked (o + per r.level) rs a.1))
    where
      a : (entry_valid t.levels r ≡ true) × (every (entry_valid t.levels) rs ≡ true)
      a = (and-eq-true_iff (entry_valid t.levels r) (every (entry_valid t.levels) rs)).0 h

      by : (x : Bool) → leb r.kind 1 ≡ x → (tiled per o t.energies rs ≡ true → every (slab_checked file t) rs ≡ true)
          → (tiled per (o + per r.level) t.energies rs ≡ true → every (slab_checked file t) rs ≡ true) → every (slab_checked file t) rs ≡ true
      by true k p q = p (tiled_pass per per_mono t.levels t.energies o r rs k e)
      by false k p q = q (tiled_step per per_mono t.levels t.energies o r rs k e).1

-- ---- the whole

-- what an accepted file was asked
accepted_by : (file : List ℕ) (t : Table) (x : Bool) → eqb (read_refusal file (layout file) (table_of file (layout file))) 0 ≡ x → read_out file ≡ read_values (Ok t)
    → (read_refusal file (layout file) (table_of file (layout file)) ≡ 0) × (table_of file (layout file) ≡ t)
unfolding read_out
accepted_by file t true d e = (eqb-true _ 0 d, ap (λ (v : ReadValues). v.table) (rw d at e))
accepted_by file t false d e = absurd (eqb-false _ 0 d (ap (λ (v : ReadValues). v.number) (rw d at e)))

own_rmax : (file : List ℕ) (p : Layout) → let g : Grid = (table_of file p).grid in g.rmax ≡ table_rmax g.n_r g.dr g.rmin
unfolding table_of grid_of
own_rmax file p = refl

found_checked : (file : List ℕ) (p : Layout) → read_refusal file p (table_of file p) ≡ 0 → (check_grid (table_of file p).grid ≡ true) × (check_slabs file (table_of file p) ≡ true)
unfolding read_refusal table_valid check_slabs grid_valid slabs_fit
found_checked file p e =
    let t = table_of file p in
    let n = t.grid.n_r * t.grid.n_omega in
    let q14 = ask_yes {q = table_valid file t} (lit< tt) (ask_yes {q = table_laid_out file p} (lit< tt) e).1 in
    let q15 = ask_yes {q = every (entry_valid t.levels) (row_items file t)} (lit< tt) q14.1 in
    let q16 = ask_yes {q = tiled per 0 t.energies (row_items file t)} (lit< tt) q15.1 in
    let g = (and-eq-true_iff (grid_valid t.grid t.levels) _).0 q14.0 in
    let c = (and-eq-true_iff (eqb t.rows n) _).0 g.1 in
    let room = leb-true (n * per (t.levels - 1)) 4294967295 ((and-eq-true_iff (grid_range t.grid t.levels) _).0 g.0).1 in
    let sizes = held_ranged t.grid t.levels g.0 in
    let many : length (row_items file t) ≡ n = items-many entry_of 10 file t.rows_start t.rows ∙ eqb-true t.rows n c.0 in
    let few : t.energies ≤ 4294967295 = omega (arith, room, rw many at (tiled_few per per_mono t.levels t.energies 0 (row_items file t) q15.0 q16.0)) in
    let counts : (k : ℕ) → k < t.levels → number_at 4 file (t.levels_start + 4 * k) ≡ vertex_count k =
    λ k l. eqb-true _ (vertex_count k) (all_at (λ m. eqb (number_at 4 file (t.levels_start + 4 * m)) (vertex_count m)) k t.levels l c.1) in (
      grid_checked t.grid t.levels g.0 (own_rmax file p),
      rw (le-leb n 4294967295 (omega (arith, mul-le-mul sizes.distances sizes.dihedrals)), c.0) (rows_checked file t few counts 0 (row_items file t) q15.0 q16.0),
    )

-- "An accepted file also passes `check_grid` and `check_slabs`"
pub checked : (file : List ℕ) (t : Table) → read_out file ≡ read_values (Ok t) → (check_grid t.grid ≡ true) × (check_slabs file t ≡ true)
checked file t e =
    let a = accepted_by file t _ refl e in
    rw (← a.1) (found_checked file (layout file) a.0)
