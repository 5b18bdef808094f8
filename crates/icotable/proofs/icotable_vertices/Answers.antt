use borrow.Author.Tests.{le-leb, lt-leb}
use Rattle.icotable.proofs.icotable_vertices.Goals as goal

pub returns-then-level-le15 : goal.returns-then-level-le15
returns-then-level-le15 c = rw (le-leb _ 15 c.if-level-le15.true) c.vertex_count.ensures

pub returns : goal.returns
returns c = rw (lt-leb _ 15 c.if-level-le15.false)
