use Rattle.std.proofs.Common.{◌≡◌, ◌+◌, ◌*◌, ◌<◌, true, arith}
use Rattle.lists.proofs.Places.{place}
use Rattle.mesh.specs.Lent.{lent}
use Rattle.mesh.specs.Levels.{vertex_count, per}
use Rattle.mesh.proofs.Sizes.{per_mono}
use Rattle.rows.specs.Words.{word_rows}
use Rattle.settling.specs.Settling.{from_level, verdict_of}
use Rattle.builder.specs.BuilderLists.{slabs, row_at, word_lists}
use Rattle.builder.specs.Internal.{start}
use Rattle.builder.proofs.Turns.{again, row_passes, read_row}
use Rattle.builder.proofs.slices.settle_rows.Goals as goal

pub settle_slab-t-requires : goal.settle_slab-t-requires
settle_slab-t-requires c =
    let p = c.requires in
    let b = c.args.b in
    let s = c.args.ri * b.grid.n_omega + c.loop-i.i in
    let at : s < slabs b.grid = omega (arith, p.slice_le) in
    (p.top_le, p.level_le, omega (arith, p.store_le, place s (slabs b.grid) (per b.level) (per b.top) at (per_mono b.level b.top p.level_le)))

pub loop-i-preserved : goal.loop-i-preserved
loop-i-preserved c =
    let a = c.args in
    let b = a.b in
    let lists = word_lists a.store.now a.words.now in
    let now = word_rows c.loop-i.words in
    let n = b.grid.n_omega in
    let base = a.ri * n in
    let i = c.loop-i.i in
    let f = verdict_of b.grid.threshold b.grid.beta (lent a.mesh.now) (vertex_count b.level) in
    let z : base + 0 ≡ base = omega arith in
    let held : from_level b.level (row_at b.top lists (base + i)) ≡ true =
    row_passes (from_level b.level) b.top lists base n i c.loop-i-test.true (rw z at c.requires.same_level) in
    let row = read_row b.top b.level (base + i) lists now (c.loop-i.invariant.same (base + i) (omega arith)) held in
    let e = c.settle_slab-t.ensures in
    again f b.level b.top base n lists (start b.packed) i c.loop-i.t _ now _ c.loop-i.invariant c.loop-i-test.true (rw row at e.0) (rw row at e.1)
