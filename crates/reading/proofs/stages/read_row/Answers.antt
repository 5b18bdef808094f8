use Rattle.search.specs.Lent.{lent_locator}
use Rattle.reading.specs.Internal.{table_for, way_of}
use Rattle.table.proofs.Items.{entry_at, entry_at_lem}
use Rattle.reading.proofs.Inside.{entry_by_lem}
use Rattle.reading.proofs.stages.read_row.Goals as goal

pub returns : goal.returns
returns c =
    let a = c.args in
    rw (entry_at_lem a.file.now a.at, c.read_resolution.ensures, c.resolution_of-row.ensures, c.entry_inside-e.ensures, entry_at_lem a.file.now a.at)
    (entry_by_lem a.file.now (table_for a.s) a.vertices.now (lent_locator a.locator.now) (way_of a.beta) a.q.now (entry_at a.file.now a.at))
