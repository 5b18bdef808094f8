use native.Mathlib.Omega.{arith}
use Rattle.reading.proofs.Inside.{row_place_le}
use Rattle.reading.proofs.combine.face_places_below.Goals as goal

pub overflow_mul-x : goal.overflow_mul-x
overflow_mul-x c = omega (arith, row_place_le c.args.x.now.f.a c.args.x.now.n c.requires.2.0 c.requires.1)

pub places_below-requires : goal.places_below-requires
places_below-requires c = (c.requires.0, row_place_le c.args.x.now.f.a c.args.x.now.n c.requires.2.0 c.requires.1, c.requires.3)

pub overflow_mul-x-2 : goal.overflow_mul-x-2
overflow_mul-x-2 c = omega (arith, row_place_le c.args.x.now.f.b c.args.x.now.n c.requires.2.1 c.requires.1)

pub places_below-requires-2 : goal.places_below-requires-2
places_below-requires-2 c = (c.requires.0, row_place_le c.args.x.now.f.b c.args.x.now.n c.requires.2.1 c.requires.1, c.requires.3)

pub overflow_mul-x-3 : goal.overflow_mul-x-3
overflow_mul-x-3 c = omega (arith, row_place_le c.args.x.now.f.c c.args.x.now.n c.requires.2.2 c.requires.1)

pub places_below-requires-3 : goal.places_below-requires-3
places_below-requires-3 c = (c.requires.0, row_place_le c.args.x.now.f.c c.args.x.now.n c.requires.2.2 c.requires.1, c.requires.3)

pub returns : goal.returns
returns c = rw (c.places_below.ensures, c.places_below-2.ensures, c.places_below-3.ensures)
