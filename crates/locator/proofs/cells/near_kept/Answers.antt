use Rattle.locator.proofs.Rows.{near-once}
use Rattle.locator.proofs.cells.near_kept.Goals as goal

pub returns : goal.returns
returns c = near-once c.args.k c.args.i c.requires.0 c.requires.1
