use lib.Ieee.{of_bits, div}
use Rattle.reading.specs.Internal.{face_corners}
use Rattle.reading.proofs.combine.face_least.Goals as goal

pub returns : goal.returns
unfolding face_corners of_bits div
returns c = rw (c.row_least.ensures, c.row_least-b.ensures, c.row_least-a.ensures)
