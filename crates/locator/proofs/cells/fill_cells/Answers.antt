use mathlib.Core.Path.{◌≡◌, refl, sym, ap, ◌∙◌}
use Prim.Native.Nat.{◌+◌, ◌*◌, ◌/◌, ◌%◌, ◌≤◌}
use native.Mathlib.Nat.{mul-pos, mod-le, zero-mod}
use native.Mathlib.Omega.{arith}
use lib.ListN.{length}
use Rattle.lists.specs.Lists.{joined, starts}
use Rattle.lists.proofs.Written.{nothing, pushed, chunk, joined-more, joined_le, next_fits, starts_more}
use Rattle.search.specs.Cells.{cell}
use Rattle.locator.specs.Internal.{cells_out}
use Rattle.locator.proofs.Keys.{spots, same-face}
use Rattle.locator.proofs.Rows.{keyed_row, keyed_column, row_below, same_row}
use Rattle.locator.proofs.cells.fill_cells.Goals as goal
use Rattle.locator.proofs.cells.fill_cells.Goals.{At-loop-c, In-loop-c}

-- what is written is no more than all of it
so_far : (l : At-loop-c) → l.loop-c.to ≤ 4294967295
so_far l =
    let a = l.args in
    omega (arith, l.loop-c.invariant.7.next, joined_le l.loop-c.c a.m (cell a.vertices.now a.n a.g) (omega arith))

-- a cell more fits
more : (c : In-loop-c) → let l = c.before in let a = c.args in
    c.loop-c.to + length (cell a.vertices.now a.n a.g c.loop-c.c) ≤ length a.out.now
more c =
    let l = c.before in let a = c.args in
    omega (arith, c.loop-c.invariant.7.next, next_fits c.loop-c.c a.m (cell a.vertices.now a.n a.g) c.loop-c-test.true)

pub loop-c-init : goal.loop-c-init
unfolding joined starts
loop-c-init c = let g = c.args.g in (
  refl,
  refl,
  omega arith,
  refl,
  (λ p. absurd (omega (arith, zero-mod (g * g)))),
  (λ p. absurd (omega (arith, zero-mod (g * g), mod-le (0 % (g * g)) g))),
  nothing (omega arith),
  nothing (omega arith),
)

pub fresh_row-held-requires : goal.fresh_row-held-requires
fresh_row-held-requires c = let a = c.args in let k = c.loop-c.c in
    let f = c.fresh_keys in (
      omega (arith, f.auto.keys, c.loop-c.invariant.0),
      omega (arith, c.loop-c.invariant.1),
      omega arith,
      omega arith,
      omega arith,
      omega (arith, c.loop-c.invariant.1, c.loop-c.invariant.2),
      (λ p. c.loop-c.invariant.5 p ∙ sym (keyed_row a.vertices.now a.n a.g (k / (a.g * a.g)) (k % (a.g * a.g) / a.g) _ f.ensures.0)),
    )

pub overflow_cast-offsets : goal.overflow_cast-offsets
overflow_cast-offsets c = omega (arith, so_far (goal.at.overflow_cast-offsets c).At-loop-c)

pub put_cell-to-requires : goal.put_cell-to-requires
put_cell-to-requires c = let a = c.args in let k = c.loop-c.c in
    let f = c.fresh_keys in let r = c.fresh_row-held in
    let e = keyed_column a.vertices.now a.n a.g k _ _ (omega arith) (omega arith) f.ensures.0 r.ensures.1 in (
      rw r.ensures.1 (row_below _ a.n (k % (a.g * a.g) / a.g) _ (omega (arith, f.auto.keys, c.loop-c.invariant.0))),
      omega (arith, spots a.g k (omega arith)),
      omega (arith, ap length e, more (goal.at.put_cell-to-requires c).In-loop-c, c.loop-c.invariant.7.size),
    )

pub loop-c-preserved : goal.loop-c-preserved
loop-c-preserved c = let a = c.args in let g = a.g in let k = c.loop-c.c in
    let f = c.fresh_keys in let r = c.fresh_row-held in let p = c.put_cell-to in
    let cells = cell a.vertices.now a.n g in
    let e = keyed_column a.vertices.now a.n g k _ _ (omega arith) (omega arith) f.ensures.0 r.ensures.1 in
    let h = rw e at p.ensures in
    let u : c.loop-c.to ≡ length (joined k cells) = omega (arith, c.loop-c.invariant.7.next) in (
      f.auto.keys ∙ c.loop-c.invariant.0,
      r.auto.row ∙ c.loop-c.invariant.1,
      omega (arith, r.ensures.0, r.auto.row, c.loop-c.invariant.1),
      f.ensures.1 ∙ c.loop-c.invariant.3,
      (λ z. rw (same-face (g * g) k (mul-pos {m = g} {n = g} (omega arith) (omega arith)) z) f.ensures.0),
      (λ z. let q = same_row g k (omega arith) z in rw (q.0, q.1) (r.ensures.1 ∙ keyed_row a.vertices.now a.n g (k / (g * g)) (k % (g * g) / g) _ f.ensures.0)),
      rw (starts_more k cells, ← u) (pushed c.loop-c.to c.loop-c.invariant.6 (omega arith)),
      rw (joined-more k cells) (chunk (cells k) _ p.result c.loop-c.invariant.7 (omega (arith, more (goal.at.loop-c-preserved c).In-loop-c)) h.0 h.1),
    )

pub returns : goal.returns
unfolding cells_out
returns c = let a = c.args in let f = cell a.vertices.now a.n a.g in
    let full : c.loop-c.c ≡ a.m = omega arith in
    let o = rw full at c.loop-c.invariant.6 in
    let w = rw full at c.loop-c.invariant.7 in
    let e : c.loop-c.to ≡ length (joined a.m f) = omega (arith, w.next) in
    (rw ((pushed c.loop-c.to o (omega arith)).is, w.is, starts_more a.m f, ← e), c.loop-c.invariant.3)
