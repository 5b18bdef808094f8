use Prim.Native.Nat.{◌+◌, ◌*◌, ◌≤◌}
use native.Mathlib.Omega.{arith}
use mathlib.Core.Path.{◌≡◌, refl, sym}
use Rattle.std.proofs.lemmas.Result.{err_from_is_err_and}
use Rattle.reading.specs.Resolve.{joint}
use Rattle.reading.specs.Internal.{table_for}
use Rattle.reading.proofs.Picked.{both_found, nearest_none, nearest_out, nearest_in_lem, energy_fits, pair_le}
use Rattle.reading.proofs.Ready.{ready_none, ready_pair}
use Rattle.reading.proofs.energies.stage_pair.Goals as goal
use Rattle.reading.proofs.energies.stage_pair.Goals.{In_ok-joint}

found : (c : In_ok-joint) → (let a = c.args in joint a.x.number a.y.number ≡ 0)
found c = sym c.in_ok-joint.ensures

-- the place of the pair
pair : (c : In_ok-joint) → (let a = c.args in a.x.vertex * a.n + a.y.vertex ≤ 429499351044)
pair c =
    let b = both_found c.args.x.number c.args.y.number (found c) in
    pair_le c.args.x.vertex c.args.y.vertex c.args.n (c.requires.2.below b.0) (c.requires.3.below b.1) c.requires.1

pub joint-requires : goal.joint-requires
joint-requires c = (c.requires.2.number, c.requires.3.number)

pub returns-in_err-joint : goal.returns-in_err-joint
returns-in_err-joint c =
    let a = c.args in
    let p = err_from_is_err_and c.from_residual.result c.from_residual.ensures.1 in
    rw (p.1, p.2)
    (ready_none a.file.now a.s.energies.start _ _ _ refl (nearest_none a.file.now (table_for a.s) a.offset a.n a.x a.y _ c.in_err-joint.ensures))

pub overflow_mul-place : goal.overflow_mul-place
overflow_mul-place c = omega (arith, pair (goal.at.overflow_mul-place c).In_ok-joint)

pub overflow_add-place : goal.overflow_add-place
overflow_add-place c = omega (arith, pair (goal.at.overflow_add-place c).In_ok-joint)

pub overflow_add-place-2 : goal.overflow_add-place-2
overflow_add-place-2 c = omega (arith, pair (goal.at.overflow_add-place-2 c).In_ok-joint, c.requires.0)

pub returns-then-held-place : goal.returns-then-held-place
returns-then-held-place c =
    let a = c.args in
    ready_none a.file.now a.s.energies.start _ _ _ refl
    (nearest_out a.file.now (table_for a.s) c.items_inside-held.result c.items_inside-held.ensures a.offset a.n a.x a.y (found (goal.at.returns-then-held-place c).In_ok-joint) c.if-held-place.true)

pub returns : goal.returns
returns c =
    let a = c.args in
    let l = c.if-held-place.false in
    ready_pair a.file.now a.s.energies.start _ _ _ _
    (energy_fits a.file.now (table_for a.s) c.items_inside-held.result c.items_inside-held.ensures _ (omega (arith, l)))
    (nearest_in_lem a.file.now (table_for a.s) c.items_inside-held.result c.items_inside-held.ensures a.offset a.n a.x a.y (found (goal.at.returns c).In_ok-joint) (omega (arith, l)))
