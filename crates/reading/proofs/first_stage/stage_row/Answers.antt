use Rattle.search.specs.Lent.{lent_locator}
use Rattle.reading.specs.Resolve.{linear}
use Rattle.reading.specs.Internal.{table_for}
use Rattle.table.proofs.Items.{entry_at, entry_at_lem}
use Rattle.reading.proofs.Inside.{entry_by_lem}
use Rattle.reading.proofs.Ready.{ready_same}
use Rattle.reading.proofs.first_stage.stage_row.Goals as goal

pub returns : goal.returns
returns c =
    let a = c.args in
    rw (entry_at_lem a.file.now a.at)
    (ready_same
    (rw (c.resolution_of-row.ensures, c.entry_inside-e.ensures, entry_at_lem a.file.now a.at) at c.stage_resolution.ensures)
    (entry_by_lem a.file.now (table_for a.s) a.vertices.now (lent_locator a.locator.now) linear a.q.now (entry_at a.file.now a.at)))
