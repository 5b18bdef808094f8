use mathlib.Core.Path.{◌≡◌}
use Prim.Native.Nat.{◌+◌, ◌*◌, ◌≤◌}
use native.Mathlib.Omega.{arith}
use lib.ListN.{length}
use Rattle.lists.specs.Lists.{joined, starts}
use Rattle.mesh.specs.Lent.{lent}
use Rattle.lists.proofs.Written.{nothing, pushed, joined_le, next_fits, starts_more}
use Rattle.search.specs.Cells.{faces_of, flat}
use Rattle.locator.specs.Internal.{faces_out}
use Rattle.locator.proofs.Blocks.{come, more-flat}
use Rattle.locator.proofs.faces.put_faces.Goals as goal
use Rattle.locator.proofs.faces.put_faces.Goals.{At-loop-v, In-loop-v}

-- what is written is no more than all of it
so_far : (l : At-loop-v) → l.loop-v.to ≤ 4294967295
so_far l =
    let a = l.args in
    let f = faces_of (lent a.mesh.now) a.n in
    omega (arith, l.requires.3, come 0 l.loop-v.to (joined l.loop-v.v f) l.loop-v.invariant.1, joined_le l.loop-v.v a.n f (omega arith))

fits : (c : In-loop-v) →
    let l = c.before in let a = c.args in
    3 * (c.loop-v.to + length (faces_of (lent a.mesh.now) a.n c.loop-v.v)) ≤ length a.out.now
fits c =
    let l = c.before in let a = c.args in
    let f = faces_of (lent a.mesh.now) a.n in
    omega (arith, c.requires.2, come 0 c.loop-v.to (joined c.loop-v.v f) c.loop-v.invariant.1, next_fits c.loop-v.v a.n f c.loop-v-test.true)

pub loop-v-init : goal.loop-v-init
unfolding joined flat starts
loop-v-init c = (nothing (omega arith), nothing (omega arith))

pub overflow_cast-offsets : goal.overflow_cast-offsets
overflow_cast-offsets c = omega (arith, so_far (goal.at.overflow_cast-offsets c).At-loop-v)

pub put_faces_of-to-requires : goal.put_faces_of-to-requires
put_faces_of-to-requires c = (c.requires.0, omega arith, omega (arith, fits (goal.at.put_faces_of-to-requires c).In-loop-v, c.loop-v.invariant.1.size))

pub loop-v-preserved : goal.loop-v-preserved
loop-v-preserved c = let a = c.args in let f = faces_of (lent a.mesh.now) a.n in let v = c.loop-v.v in
    let p = c.put_faces_of-to in
    let e : c.loop-v.to ≡ length (joined v f) = omega (arith, come 0 c.loop-v.to (joined v f) c.loop-v.invariant.1) in (
      rw (starts_more v f, ← e) (pushed c.loop-v.to c.loop-v.invariant.0 (omega arith)),
      more-flat 0 c.loop-v.to f v _ p.result c.loop-v.invariant.1 (fits (goal.at.loop-v-preserved c).In-loop-v) p.ensures.0 p.ensures.1,
    )

pub overflow_cast-offsets-2 : goal.overflow_cast-offsets-2
overflow_cast-offsets-2 c = omega (arith, so_far (goal.at.overflow_cast-offsets-2 c).At-loop-v)

pub returns : goal.returns
unfolding faces_out
returns c = let a = c.args in let f = faces_of (lent a.mesh.now) a.n in
    let full : c.loop-v.v ≡ a.n = omega arith in
    let o = rw full at c.loop-v.invariant.0 in
    let w = rw full at c.loop-v.invariant.1 in
    let e : c.loop-v.to ≡ length (joined a.n f) = omega (arith, come 0 c.loop-v.to (joined a.n f) w) in
    rw ((pushed c.loop-v.to o (omega arith)).is, w.is, starts_more a.n f, ← e)
