use Prim.Native.Nat.{◌+◌}
use native.Mathlib.Omega.{arith}
use mathlib.Core.Path.{◌≡◌, sym}
use mathlib.Core.Bool.{true}
use Rattle.std.proofs.lemmas.Result.{err_from_is_err_and}
use Rattle.lists.proofs.Counting.{yes, no}
use Rattle.reading.specs.Atom.{atom_combined}
use Rattle.reading.specs.Internal.{table_for, way_of, places_below, PlaceInside}
use Rattle.reading.proofs.AtomPicked.{corners_none, corners_out, corners_fit, corners_in, corners_weighted}
use Rattle.reading.proofs.atom_combine.atom_interpolated.Goals as goal
use Rattle.reading.proofs.atom_combine.atom_interpolated.Goals.{Else-not-places_below}

pub searched-requires : goal.searched-requires
searched-requires c = c.requires.1.number

pub returns-in_err-searched : goal.returns-in_err-searched
returns-in_err-searched c =
    let a = c.args in
    let p = err_from_is_err_and c.from_residual.result c.from_residual.ensures.1 in
    rw (p.1, p.2) (corners_none a.file.now (table_for a.s) (atom_combined (way_of a.beta) true) a.offset a.x _ c.in_err-searched.ensures)

pub places_below-requires : goal.places_below-requires
places_below-requires c = (c.requires.0, omega arith, c.requires.1.below (sym c.in_ok-searched.ensures))

pub returns-then-not-places_below : goal.returns-then-not-places_below
returns-then-not-places_below c =
    let a = c.args in
    corners_out a.file.now (table_for a.s) c.items_inside-held.result c.items_inside-held.ensures a.offset a.x (sym c.in_ok-searched.ensures) (atom_combined (way_of a.beta) true) (no c.places_below.ensures c.if-not-places_below.true)

-- all three energies are inside
inside : (c : Else-not-places_below) → (let a = c.args in places_below c.items_inside-held.result a.offset 0 a.x.face ≡ true)
inside c = yes c.places_below.ensures c.if-not-places_below.false

fits : (c : Else-not-places_below) → (let a = c.args in let start = a.s.energies.start in PlaceInside a.file.now start (a.offset + a.x.face.a) × PlaceInside a.file.now start (a.offset + a.x.face.b) × PlaceInside a.file.now start (a.offset + a.x.face.c))
fits c =
    let a = c.args in
    corners_fit a.file.now (table_for a.s) c.items_inside-held.result c.items_inside-held.ensures a.offset a.x (sym c.in_ok-searched.ensures) (inside c)

pub overflow_add-offset : goal.overflow_add-offset
overflow_add-offset c = omega (arith, c.requires.0, (c.requires.1.below (sym c.in_ok-searched.ensures)).0)

pub energy-p-requires : goal.energy-p-requires
energy-p-requires c = (fits (goal.at.energy-p-requires c).Else-not-places_below).0

pub overflow_add-offset-2 : goal.overflow_add-offset-2
overflow_add-offset-2 c = omega (arith, c.requires.0, (c.requires.1.below (sym c.in_ok-searched.ensures)).1)

pub energy-q-requires : goal.energy-q-requires
energy-q-requires c = (fits (goal.at.energy-q-requires c).Else-not-places_below).1

pub overflow_add-offset-3 : goal.overflow_add-offset-3
overflow_add-offset-3 c = omega (arith, c.requires.0, (c.requires.1.below (sym c.in_ok-searched.ensures)).2)

pub energy-r-requires : goal.energy-r-requires
energy-r-requires c = (fits (goal.at.energy-r-requires c).Else-not-places_below).2

pub returns-then-beta : goal.returns-then-beta
returns-then-beta c =
    let a = c.args in
    rw (c.if-beta.true, c.plain.ensures, c.three_average.ensures, c.energy-r.ensures, c.energy-q.ensures, c.energy-p.ensures) (corners_weighted a.file.now (table_for a.s) c.items_inside-held.result c.items_inside-held.ensures a.offset a.x (sym c.in_ok-searched.ensures) a.beta (inside (goal.at.returns-then-beta c).Else-not-places_below))

pub returns : goal.returns
returns c =
    let a = c.args in
    rw (c.if-beta.false, c.plain-2.ensures, c.three_terms.ensures, c.energy-r.ensures, c.energy-q.ensures, c.energy-p.ensures) (corners_in a.file.now (table_for a.s) c.items_inside-held.result c.items_inside-held.ensures a.offset a.x (sym c.in_ok-searched.ensures) (inside (goal.at.returns c).Else-not-places_below))
