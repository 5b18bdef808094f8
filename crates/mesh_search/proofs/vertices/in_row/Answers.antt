use lib.Ieee.{to_signed}
use lib.Ieee.Casts.{to_signed_in}
use Rattle.float.proofs.Powers.{read}
use Rattle.search.specs.Geometry.{over, in_cells}
use Rattle.search.specs.Cells.{cell_number}
use Rattle.mesh_search.proofs.vertices.in_row.Goals as goal

pub returns : goal.returns
unfolding cell_number
returns c = let a = c.args in
    let x = in_cells a.g (over a.u a.d) in
    rw (c.near.ensures, c.to_i64.ensures, c.in_cells.ensures, read (to_signed 63 x) (record { sfits = to_signed_in 63 x }))
