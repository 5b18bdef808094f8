-- What the questions' answers say of the numbers asked about.
use mathlib.Core.Path.{◌≡◌}
use mathlib.Core.Bool.{true, ◌&&◌, and-eq-true_iff}
use Prim.Native.Nat.{ℕ, ◌*◌, ◌≤◌}
use native.Mathlib.Nat.{mul-le-mul}
use native.Mathlib.Omega.{arith}
use lib.Dec.{leb, eqb}
use lib.Ieee.Scale.{finite}
use borrow.Author.Tests.{leb-true}
use Rattle.mesh.specs.Levels.{per, vertex_count}
use Rattle.mesh.proofs.Laws.{per_le, count_le}
use Rattle.grid.specs.Bins.{distance_count, dihedral_count}
use Rattle.grid.specs.Settings.{above, levels_valid, bins_in_range, counts_valid, grid_range}
use Rattle.grid.specs.Atom.{atom_count_valid, atom_grid_range}
use Rattle.grid.specs.declared.Grid.{Grid}
use Rattle.grid.specs.declared.AtomGrid.{AtomGrid}

pub bins_le : (n m : ℕ) → bins_in_range n m ≡ true → (n ≤ 65535) × (m ≤ 65535)
unfolding bins_in_range
bins_le n m h =
    let a = ((and-eq-true_iff (leb 1 n) (leb n 65535 && (leb 1 m && leb m 65535))).0 h).1 in
    let b = (and-eq-true_iff (leb n 65535) (leb 1 m && leb m 65535)).0 a in
    (leb-true n 65535 b.0, leb-true m 65535 ((and-eq-true_iff (leb 1 m) (leb m 65535)).0 b.1).1)

pub counts_le : (g : Grid) → counts_valid g ≡ true → (g.n_r ≤ 65535) × (g.n_omega ≤ 65535)
unfolding counts_valid
counts_le g h = bins_le g.n_r g.n_omega ((and-eq-true_iff (bins_in_range g.n_r g.n_omega) (eqb g.n_r (distance_count g.rmin g.rmax g.dr) && eqb g.n_omega (dihedral_count g.omega_step))).0 h).0

pub top_le : (top level : ℕ) → levels_valid top level ≡ true → top ≤ 15
unfolding levels_valid
top_le top level h = leb-true top 15 ((and-eq-true_iff (leb top 15) (leb level top)).0 h).0

-- the energies that slabs hold at the top level
pub energies_le : (n m top : ℕ) → n ≤ 65535 → m ≤ 65535 → top ≤ 15 → n * m * per top ≤ 65535 * 65535 * (2562 * 2562)
energies_le n m top h k l = mul-le-mul (mul-le-mul h k) (per_le top 16 (omega arith))

-- what the sizes of a table are, once 14 is answered yes but for the slabs
pub record Ranged (g : Grid) (levels : ℕ) : Type 0 where
  pub some : 1 ≤ levels
  pub few : levels ≤ 16
  pub distances : g.n_r ≤ 65535
  pub dihedrals : g.n_omega ≤ 65535

pub ranged : (g : Grid) (levels : ℕ) → grid_range g levels ≡ true → Ranged g levels
ranged g levels h =
    let a = ((and-eq-true_iff (finite g.rmin) _).0 h).1 in
    let b = ((and-eq-true_iff (above g.dr) _).0 a).1 in
    let d = ((and-eq-true_iff (above g.omega_step) _).0 b).1 in
    let e = (and-eq-true_iff (leb 1 levels) _).0 d in
    let f = (and-eq-true_iff (leb levels 16) _).0 e.1 in
    let n = bins_le g.n_r g.n_omega ((and-eq-true_iff (bins_in_range g.n_r g.n_omega) _).0 f.1).0 in
    record { some = leb-true 1 levels e.0; few = leb-true levels 16 f.0; distances = n.0; dihedrals = n.1 }

-- ---- against an atom

pub atom_count_le : (g : AtomGrid) → atom_count_valid g ≡ true → g.n_r ≤ 65535
unfolding atom_count_valid
atom_count_le g h =
    let n = ((and-eq-true_iff (leb 1 g.n_r && leb g.n_r 65535) (eqb g.n_r (distance_count g.rmin g.rmax g.dr))).0 h).0 in
    leb-true _ 65535 ((and-eq-true_iff (leb 1 g.n_r) (leb g.n_r 65535)).0 n).1

pub slab_energies_le : (n top : ℕ) → n ≤ 65535 → top ≤ 15 → n * vertex_count top ≤ 65535 * 2562
slab_energies_le n top h l = mul-le-mul h (count_le top 16 (omega arith))

pub record AtomRanged (g : AtomGrid) (levels : ℕ) : Type 0 where
  pub some : 1 ≤ levels
  pub few : levels ≤ 16
  pub distances : g.n_r ≤ 65535

pub atom_ranged : (g : AtomGrid) (levels : ℕ) → atom_grid_range g levels ≡ true → AtomRanged g levels
atom_ranged g levels h =
    let a = ((and-eq-true_iff (finite g.rmin) _).0 h).1 in
    let b = ((and-eq-true_iff (above g.dr) _).0 a).1 in
    let e = (and-eq-true_iff (leb 1 levels) _).0 b in
    let f = (and-eq-true_iff (leb levels 16) _).0 e.1 in
    let n = ((and-eq-true_iff (leb 1 g.n_r && leb g.n_r 65535) _).0 f.1).0 in
    record { some = leb-true 1 levels e.0; few = leb-true levels 16 f.0; distances = leb-true g.n_r 65535 ((and-eq-true_iff (leb 1 g.n_r) (leb g.n_r 65535)).0 n).1 }
