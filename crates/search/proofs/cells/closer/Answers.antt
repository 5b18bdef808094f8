use mathlib.Core.Path.{◌≡◌}
use Rattle.search.specs.Geometry.{vertex_at}
use Rattle.search.specs.Search.{squared}
use Rattle.search.proofs.Nearness.{closer_yes, closer_no}
use Rattle.search.proofs.cells.closer.Goals as goal
use Rattle.search.proofs.cells.closer.Goals.{After-dot-distance}

-- the distance
far : (c : After-dot-distance) → (let a = c.args in c.dot-distance.result ≡ squared a.p (vertex_at a.vertices.now a.v))
unfolding squared
far c = rw (c.dot-distance.ensures, c.difference-d.ensures, c.vertex_at.ensures)

pub returns-then-distance-best : goal.returns-then-distance-best
returns-then-distance-best c =
    let a = c.args in
    rw (far (goal.at.returns-then-distance-best c).After-dot-distance) (closer_yes a.vertices.now a.p a.best a.v c.requires.1 (rw (far (goal.at.returns-then-distance-best c).After-dot-distance) at c.if-distance-best.true))

pub returns : goal.returns
returns c =
    let a = c.args in
    closer_no a.vertices.now a.p a.best a.v c.requires.1 (rw (far (goal.at.returns c).After-dot-distance) at c.if-distance-best.false)
