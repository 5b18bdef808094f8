use mathlib.Core.Path.{◌≡◌, refl, ◌∙◌}
use Prim.Native.Nat.{◌+◌, ◌*◌, ◌≤◌, min}
use native.Mathlib.Omega.{arith}
use borrow.Author.Tests.{lt-ltb, le-ltb}
use Rattle.reading.specs.Internal.{slab_of}
use Rattle.reading.proofs.Inside.{bins_some, bins_none, held_fits}
use Rattle.reading.proofs.resolve.row_place.Goals as goal
use Rattle.reading.proofs.resolve.row_place.Goals.{After-slab_below-s, Else-held-s}

pub returns-then-t : goal.returns-then-t
returns-then-t c = let g = c.args.t.grid in rw (bins_none g.n_r g.n_omega c.if-t.true) refl

pub slab_below-s-requires : goal.slab_below-s-requires
slab_below-s-requires c = let g = c.args.t.grid in (bins_some g.n_r g.n_omega c.if-t.false).1

-- the slab's number, or the number of rows held
slab : (c : After-slab_below-s) → (c.slab_below-s.result ≡ min (slab_of c.args.t.grid c.args.q.now.r c.args.q.now.omega) c.items_inside-held.result)
slab c = c.slab_below-s.ensures ∙ rw (c.dihedral_bin-oi.ensures, c.distance_bin-ri.ensures)

pub returns-then-held-s : goal.returns-then-held-s
returns-then-held-s c =
    let g = c.args.t.grid in
    let b = bins_some g.n_r g.n_omega c.if-t.false in
    let e = slab (goal.at.returns-then-held-s c).After-slab_below-s in
    rw (lt-ltb 0 g.n_r b.0, lt-ltb 0 g.n_omega b.1, ← c.items_inside-held.ensures, le-ltb (slab_of g c.args.q.now.r c.args.q.now.omega) c.items_inside-held.result (omega (arith, e, c.if-held-s.true))) refl

fits : (c : Else-held-s) → (let a = c.args in a.t.rows_start + c.slab_below-s.result * 10 + 10 ≤ a.length)
fits c =
    let a = c.args in
    held_fits a.t.rows_start 10 a.t.rows a.length (omega arith) c.slab_below-s.result c.items_inside-held.result c.items_inside-held.ensures (omega (arith, c.if-held-s.false))

pub overflow_mul-result : goal.overflow_mul-result
overflow_mul-result c = omega (arith, fits (goal.at.overflow_mul-result c).Else-held-s)

pub overflow_add-result : goal.overflow_add-result
overflow_add-result c = omega (arith, fits (goal.at.overflow_add-result c).Else-held-s)

pub returns : goal.returns
returns c =
    let g = c.args.t.grid in
    let b = bins_some g.n_r g.n_omega c.if-t.false in
    let e : c.slab_below-s.result ≡ slab_of g c.args.q.now.r c.args.q.now.omega = omega (arith, slab (goal.at.returns c).After-slab_below-s, c.if-held-s.false) in
    rw (lt-ltb 0 g.n_r b.0, lt-ltb 0 g.n_omega b.1, ← c.items_inside-held.ensures, ← e, lt-ltb c.slab_below-s.result c.items_inside-held.result (omega (arith, c.if-held-s.false))) refl
