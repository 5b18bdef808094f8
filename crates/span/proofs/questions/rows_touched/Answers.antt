use mathlib.Core.Path.{◌≡◌, refl, ◌∙◌}
use mathlib.Core.Bool.{and-eq-true_iff}
use Prim.Native.Nat.{◌+◌, ◌-◌, ◌*◌}
use native.Mathlib.Omega.{arith}
use lib.ListN.{length}
use lib.Dec.{leb, ltb}
use borrow.Author.Tests.{ltb-true, leb-true}
use Rattle.lists.proofs.Counting.{yes, no}
use Rattle.reading.specs.Reading.{row_inside}
use Rattle.span.specs.Spans.{slab_in}
use Rattle.span.proofs.Touched.{no_bins, no_last, all_inside}
use Rattle.span.proofs.questions.rows_touched.Goals as goal
use Rattle.span.proofs.questions.rows_touched.Goals.{After-slab_inside}

pub returns-then-not-t : goal.returns-then-not-t
returns-then-not-t c =
    let a = c.args in
    no_bins a.file.now a.t a.first a.last a.omega (no refl c.if-not-t.true)

pub slab_inside-requires : goal.slab_inside-requires
slab_inside-requires c =
    let g = c.args.t.grid in
    ltb-true 0 g.n_omega ((and-eq-true_iff (ltb 0 g.n_r) (ltb 0 g.n_omega)).0 (yes refl c.if-not-t.false)).1

-- what was found of the last row
last_row : (c : After-slab_inside) → (let a = c.args in c.slab_inside.result ≡ row_inside a.file.now a.t (slab_in a.t.grid a.last a.omega))
unfolding row_inside
last_row c = c.slab_inside.ensures ∙ rw c.dihedral_bin-oi.ensures

pub returns-then-not-slab_inside : goal.returns-then-not-slab_inside
returns-then-not-slab_inside c =
    let a = c.args in
    no_last a.file.now a.t a.first a.last a.omega c.requires.0 (yes refl c.if-not-t.false) (no (last_row (goal.at.returns-then-not-slab_inside c).After-slab_inside) c.if-not-slab_inside.true)

pub entries_touched-requires : goal.entries_touched-requires
entries_touched-requires c =
    let a = c.args in
    let g = a.t.grid in
    let e : a.first + (a.last - a.first + 1 - 1) ≡ a.last = omega (arith, c.requires.0) in
    let p = a.last * g.n_omega + c.dihedral_bin-oi.result in
    let h = (and-eq-true_iff (ltb p a.t.rows) (leb (a.t.rows_start + p * 10 + 10) (length a.file.now))).0 (yes c.slab_inside.ensures c.if-not-slab_inside.false) in
    (ltb-true 0 g.n_omega ((and-eq-true_iff (ltb 0 g.n_r) (ltb 0 g.n_omega)).0 (yes refl c.if-not-t.false)).1, rw e (leb-true (a.t.rows_start + p * 10 + 10) (length a.file.now) h.1))

pub returns : goal.returns
returns c =
    let a = c.args in
    c.entries_touched.ensures
    ∙ rw c.dihedral_bin-oi.ensures
    (all_inside a.file.now a.t a.first a.last a.omega c.requires.0 (yes refl c.if-not-t.false) (a.last - a.first + 1) refl (yes (last_row (goal.at.returns c).After-slab_inside) c.if-not-slab_inside.false))
