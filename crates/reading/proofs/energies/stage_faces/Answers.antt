use mathlib.Core.Path.{◌≡◌, refl, sym}
use mathlib.Core.Bool.{true}
use Rattle.std.proofs.lemmas.Result.{err_from_is_err_and}
use Rattle.lists.proofs.Counting.{yes, no}
use Rattle.reading.specs.Resolve.{linear, joint}
use Rattle.reading.specs.Internal.{table_for, Small, face_places_below}
use Rattle.reading.proofs.Picked.{both_found, small, face-none, face_out, face_in, face_fits}
use Rattle.reading.proofs.Ready.{ready_none, ready_faces}
use Rattle.reading.proofs.energies.stage_faces.Goals as goal
use Rattle.reading.proofs.energies.stage_faces.Goals.{In_ok-joint}

found : (c : In_ok-joint) → (let a = c.args in joint a.x.number a.y.number ≡ 0)
found c = sym c.in_ok-joint.ensures

smalls : (c : In_ok-joint) → (let a = c.args in Small a.x.face × Small a.y.face)
smalls c =
    let b = both_found c.args.x.number c.args.y.number (found c) in
    (small c.args.n c.args.x.face c.requires.1 (c.requires.2.below b.0), small c.args.n c.args.y.face c.requires.1 (c.requires.3.below b.1))

pub joint-requires : goal.joint-requires
joint-requires c = (c.requires.2.number, c.requires.3.number)

pub returns-in_err-joint : goal.returns-in_err-joint
returns-in_err-joint c =
    let a = c.args in
    let p = err_from_is_err_and c.from_residual.result c.from_residual.ensures.1 in
    rw (p.1, p.2)
    (ready_none a.file.now a.s.energies.start _ _ _ refl (face-none a.file.now (table_for a.s) linear a.offset a.n a.x a.y _ c.in_err-joint.ensures))

pub face_places_below-requires : goal.face_places_below-requires
face_places_below-requires c = (c.requires.0, c.requires.1, (smalls (goal.at.face_places_below-requires c).In_ok-joint).0, (smalls (goal.at.face_places_below-requires c).In_ok-joint).1)

pub returns-then-not-face_places_below : goal.returns-then-not-face_places_below
returns-then-not-face_places_below c =
    let a = c.args in
    ready_none a.file.now a.s.energies.start _ _ _ refl
    (face_out a.file.now (table_for a.s) c.items_inside-held.result c.items_inside-held.ensures a.offset a.n a.x a.y (found (goal.at.returns-then-not-face_places_below c).In_ok-joint) linear (no c.face_places_below.ensures c.if-not-face_places_below.true))

pub returns : goal.returns
returns c =
    let a = c.args in
    let i : face_places_below c.items_inside-held.result a.offset a.n a.x.face a.y.face ≡ true = yes c.face_places_below.ensures c.if-not-face_places_below.false in
    ready_faces a.file.now a.s.energies.start _ _
    (face_fits a.file.now (table_for a.s) c.items_inside-held.result c.items_inside-held.ensures a.offset a.n a.x.face a.y.face i)
    (face_in a.file.now (table_for a.s) c.items_inside-held.result c.items_inside-held.ensures a.offset a.n a.x a.y (found (goal.at.returns c).In_ok-joint) i)
