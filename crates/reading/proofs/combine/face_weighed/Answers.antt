use lib.Ieee.{of_bits, div}
use Rattle.reading.specs.Internal.{face_corners}
use Rattle.reading.proofs.combine.face_weighed.Goals as goal

pub returns : goal.returns
unfolding face_corners of_bits div
returns c = rw (c.row_weighed.ensures, c.row_weighed-b.ensures, c.row_weighed-a.ensures)
