-- A builder's grid as a table's, and the bins of a reading. Assumes nothing.
use mathlib.Core.Path.{◌≡◌}
use mathlib.Core.Bool.{true, and-eq-true_iff}
use Prim.Native.Nat.{ℕ, suc, ◌-◌, ◌<◌}
use native.Mathlib.Nat.{mod-lt}
use native.Mathlib.Omega.{arith}
use lib.Dec.{leb, eqb, lit<}
use lib.Ieee.{Float, lt}
use lib.Ieee.Scale.{finite}
use borrow.Author.Tests.{leb-true, le-leb, ne_eqb}
use Rattle.float.specs.Order.{angle}
use Rattle.lists.proofs.Asking.{ask_yes}
use Rattle.grid.specs.Bins.{nearest_bin, distance_count, dihedral_count, distance_bin, dihedral_bin}
use Rattle.grid.specs.Settings.{above, in_range, levels_valid, bins_in_range, counts_valid, own_count, slabs_fit, question, grid_valid}
use Rattle.grid.specs.Atom.{atom_in_range, bin_count, atom_count_valid, atom_slabs_fit, atom_question, atom_grid_valid}
use Rattle.grid.specs.declared.AtomGrid.{AtomGrid}
use Rattle.grid.specs.declared.Grid.{Grid}
use Rattle.grid.proofs.Laws.{top_le}

-- 1 to 5 answered yes of a builder: 14 is answered yes of its table
pub table_valid_lem : (g : Grid) (top level : ℕ) → question g top level ≡ 0 → grid_valid g (suc top) ≡ true
unfolding question in_range counts_valid grid_valid
table_valid_lem g top level e =
    let q1 = ask_yes (lit< tt) e in
    let q2 = ask_yes {q = levels_valid top level} (lit< tt) q1.1 in
    let q3 = ask_yes (lit< tt) q2.1 in
    let q4 = ask_yes {q = own_count g.n_r g.dr g.rmin} (lit< tt) q3.1 in
    let q5 = ask_yes {q = slabs_fit g.n_r g.n_omega top} (lit< tt) q4.1 in
    let a = (and-eq-true_iff (finite g.rmin) _).0 q1.0 in
    let d = (and-eq-true_iff (above g.dr) _).0 ((and-eq-true_iff (lt g.rmin g.rmax) _).0 a.1).1 in
    let s = (and-eq-true_iff (above g.omega_step) _).0 d.1 in
    let b = (and-eq-true_iff (bins_in_range g.n_r g.n_omega) _).0 q3.0 in
    let m = (and-eq-true_iff (eqb g.n_r (distance_count g.rmin g.rmax g.dr)) (eqb g.n_omega (dihedral_count g.omega_step))).0 b.1 in
    let t = top_le top level q2.0 in
    let z : suc top - 1 ≡ top = omega arith in
    rw (a.0, d.0, s.0, le-leb 1 (suc top) (omega arith), le-leb (suc top) 16 (omega arith), b.0, m.1, q4.0, z, q5.0)

pub atom_table_valid_lem : (g : AtomGrid) (top level : ℕ) → atom_question g top level ≡ 0 → atom_grid_valid g (suc top) ≡ true
unfolding atom_question atom_in_range atom_count_valid atom_grid_valid
atom_table_valid_lem g top level e =
    let q1 = ask_yes (lit< tt) e in
    let q2 = ask_yes {q = levels_valid top level} (lit< tt) q1.1 in
    let q3 = ask_yes (lit< tt) q2.1 in
    let q4 = ask_yes {q = own_count g.n_r g.dr g.rmin} (lit< tt) q3.1 in
    let q5 = ask_yes {q = atom_slabs_fit g.n_r top} (lit< tt) q4.1 in
    let a = (and-eq-true_iff (finite g.rmin) _).0 q1.0 in
    let d = (and-eq-true_iff (above g.dr) _).0 ((and-eq-true_iff (lt g.rmin g.rmax) _).0 a.1).1 in
    let b = (and-eq-true_iff (bin_count g.n_r) _).0 q3.0 in
    let t = top_le top level q2.0 in
    let z : suc top - 1 ≡ top = omega arith in
    rw (a.0, d.0, le-leb 1 (suc top) (omega arith), le-leb (suc top) 16 (omega arith), b.0, q4.0, z, q5.0)

-- both bin counts are above 0
pub some_bins : (g : Grid) (levels : ℕ) → grid_valid g levels ≡ true → (0 < g.n_r) × (0 < g.n_omega)
unfolding grid_valid bins_in_range
some_bins g levels h =
    let a = ((and-eq-true_iff (finite g.rmin) _).0 ((and-eq-true_iff _ (slabs_fit g.n_r g.n_omega (levels - 1))).0 h).0).1 in
    let b = ((and-eq-true_iff (above g.dr) _).0 a).1 in
    let d = ((and-eq-true_iff (above g.omega_step) _).0 b).1 in
    let e = ((and-eq-true_iff (leb levels 16) _).0 ((and-eq-true_iff (leb 1 levels) _).0 d).1).1 in
    let n = ((and-eq-true_iff _ _).0 e).0 in
    let m = (and-eq-true_iff (leb 1 g.n_r) _).0 n in
    let o = (and-eq-true_iff (leb 1 g.n_omega) (leb g.n_omega 65535)).0 ((and-eq-true_iff (leb g.n_r 65535) _).0 m.1).1 in
    (leb-true 1 g.n_r m.0, leb-true 1 g.n_omega o.0)

pub atom_some_bins : (g : AtomGrid) (levels : ℕ) → atom_grid_valid g levels ≡ true → 0 < g.n_r
unfolding atom_grid_valid
atom_some_bins g levels h =
    let a = ((and-eq-true_iff (finite g.rmin) _).0 ((and-eq-true_iff _ (atom_slabs_fit g.n_r (levels - 1))).0 h).0).1 in
    let b = ((and-eq-true_iff (above g.dr) _).0 a).1 in
    let e = ((and-eq-true_iff (leb levels 16) _).0 ((and-eq-true_iff (leb 1 levels) _).0 b).1).1 in
    let n = ((and-eq-true_iff (bin_count g.n_r) _).0 e).0 in
    leb-true 1 g.n_r ((and-eq-true_iff (leb 1 g.n_r) (leb g.n_r 65535)).0 n).0

-- a bin is below its count
pub distance_below : (r rmin dr : Float) (n : ℕ) → 0 < n → distance_bin r rmin dr n < n
unfolding distance_bin
distance_below r rmin dr n h = omega arith

pub dihedral_below : (x step : Float) (n : ℕ) → 0 < n → dihedral_bin x step n < n
unfolding dihedral_bin
dihedral_below x step n h = rw (ne_eqb n 0 (λ e. omega arith)) (mod-lt (nearest_bin (angle x) step) h)
