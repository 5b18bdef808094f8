use denote.Floats.{passes}
use Rattle.search.specs.Geometry.{in_cells}
use Rattle.search.proofs.Halves.{fused-half}
use Rattle.search.proofs.geometry.in_cells.Goals as goal

pub returns : goal.returns
unfolding in_cells
returns c = rw (c.of_u64.ensures, fused-half c.args.u (passes _ c.well_formed.1.0.1))
