use Rattle.std.proofs.Common.{◌≡◌, ◌*◌, ◌∙◌, List, take, drop, le-leb, arith}
use lib.Ieee.{Float}
use Rattle.lists.proofs.Loops.{part_is}
use Rattle.mesh.specs.Lent.{lent}
use Rattle.mesh.specs.Levels.{vertex_count, per}
use Rattle.rows.specs.Rows.{Rows, resolution_at, row_with}
use Rattle.rows.specs.Words.{word_rows}
use Rattle.settling.specs.Settling.{verdict_of}
use Rattle.settling.specs.Internal.{tallied}
use Rattle.settling.proofs.Changes.{row_clear, same-packed, row_packed}
use Rattle.builder.proofs.slices.settle_slab.Goals as goal

pub returns : goal.returns
unfolding tallied
returns c =
    let a = c.args in
    let b = a.b in
    let e : List Float = take (per b.level) (drop (a.s * per b.top) a.store.now) in
    let rows : Rows = word_rows a.words.now in
    let x = resolution_at rows a.s in
    let v = verdict_of b.grid.threshold b.grid.beta (lent a.mesh.now) (vertex_count b.level) (row_with x e) in
    let found : c.verdict_of-v.result ≡ v =
    rw (c.per_level.ensures, c.per_level-2.ensures, part_is a.store.now (a.s * per b.top) (per b.level), c.resolution_in-row.ensures) at c.verdict_of-v.ensures
    ∙ rw (le-leb b.level 15 (omega arith)) in
    (c.tallied.ensures ∙ rw (c.resolution_in-row.ensures, found, row_clear x e b.level v, same-packed x e, row_packed x e b.level v), c.replace_word_by.ensures ∙ rw found)
