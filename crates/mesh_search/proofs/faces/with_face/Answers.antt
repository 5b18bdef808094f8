use Rattle.lists.proofs.Counting.{yes, no}
use Rattle.search.specs.Search.{fit_from}
use Rattle.mesh_search.proofs.faces.with_face.Goals as goal

pub returns-then-not-wanted : goal.returns-then-not-wanted
unfolding fit_from
returns-then-not-wanted c = rw (no c.wanted.ensures c.if-not-wanted.true)

pub returns : goal.returns
unfolding fit_from
returns c = rw (yes c.wanted.ensures c.if-not-wanted.false) c.better.ensures
