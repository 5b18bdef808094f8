use Rattle.search.specs.Geometry.{cell_coordinate}
use Rattle.search.proofs.geometry.cell_coordinate.Goals as goal

pub returns : goal.returns
unfolding cell_coordinate
returns c = rw (c.to_u64.ensures, c.clamp.ensures, c.in_cells.ensures, c.of_u64.ensures)
