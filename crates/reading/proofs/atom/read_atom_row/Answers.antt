use mathlib.Core.Path.{◌∙◌}
use mathlib.Core.Bool.{Bool, true, false}
use Prim.Native.Nat.{ℕ}
use lib.Ieee.{of_bits, div}
use borrow.Author.Tests.{ne_eqb}
use Rattle.search.specs.Lent.{lent_locator}
use Rattle.reading.specs.Resolve.{Picks}
use Rattle.reading.specs.Atom.{atom_combined, atom_search_in}
use Rattle.reading.specs.Internal.{way_of, table_for}
use Rattle.reading.proofs.Inside.{scalar-entry}
use Rattle.reading.proofs.AtomPicked.{vertex_way}
use Rattle.reading.proofs.AtomStages.{repulsive-entry, unknown-entry, mesh-entry}
use Rattle.reading.proofs.atom.read_atom_row.Goals as goal
use Rattle.reading.proofs.atom.read_atom_row.Goals.{Start}

abbrev find : Start → ℕ → Bool → Picks
find s = atom_search_in s.args.vertices.now (lent_locator s.args.locator.now) s.args.d

pub returns-then-e-eq0 : goal.returns-then-e-eq0
returns-then-e-eq0 c =
    let a = c.args in
    rw (← c.entry_inside-e.ensures, c.plain.ensures, c.widened.ensures)
    (scalar-entry a.file.now (table_for a.s) (atom_combined (way_of a.beta)) (find (goal.at.returns-then-e-eq0 c).Start) c.entry_inside-e.result c.if-e-eq0.true)

pub returns-then-e-eq1 : goal.returns-then-e-eq1
unfolding of_bits div
returns-then-e-eq1 c =
    let a = c.args in
    rw (← c.entry_inside-e.ensures, c.plain-then-e-eq1.ensures)
    (repulsive-entry a.file.now (table_for a.s) (atom_combined (way_of a.beta)) (find (goal.at.returns-then-e-eq1 c).Start) c.entry_inside-e.result c.if-e-eq0.false c.if-e-eq1.true)

pub returns-then-e-s : goal.returns-then-e-s
returns-then-e-s c =
    let a = c.args in
    rw (← c.entry_inside-e.ensures)
    (unknown-entry a.file.now (table_for a.s) (atom_combined (way_of a.beta)) (find (goal.at.returns-then-e-s c).Start) c.entry_inside-e.result c.if-e-eq0.false c.if-e-eq1.false c.if-e-s.true)

pub returns-then-e-eq3 : goal.returns-then-e-eq3
returns-then-e-eq3 c =
    let a = c.args in
    rw (← c.entry_inside-e.ensures, c.read_atom_interpolated.ensures)
    (mesh-entry a.file.now (table_for a.s) (atom_combined (way_of a.beta)) (find (goal.at.returns-then-e-eq3 c).Start) c.entry_inside-e.result c.if-e-eq0.false c.if-e-eq1.false true (rw c.if-e-eq3.true) c.if-e-s.false)

pub returns : goal.returns
returns c =
    let a = c.args in
    let v = c.entry_inside-e.result.level in
    rw (← c.entry_inside-e.ensures, c.read_atom_nearest.ensures)
    (vertex_way a.file.now (table_for a.s) (way_of a.beta) c.entry_inside-e.result.offset (find (goal.at.returns c).Start v false)
    ∙ (mesh-entry a.file.now (table_for a.s) (atom_combined (way_of a.beta)) (find (goal.at.returns c).Start) c.entry_inside-e.result c.if-e-eq0.false c.if-e-eq1.false false (ne_eqb _ 3 c.if-e-eq3.false) c.if-e-s.false))
