use mathlib.Core.Path.{◌∙◌}
use Rattle.table.proofs.Accepted.{host-reads}
use Rattle.table.proofs.reader.read.Goals as goal

pub returns : goal.returns
returns c = c.read_over.ensures ∙ host-reads _
