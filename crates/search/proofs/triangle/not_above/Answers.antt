use lib.Dec.{T}
use lib.Ieee.{binary64, of_bits, fits}
use denote.Floats.{passes}
use Rattle.search.proofs.Signs.{not_above, above}
use Rattle.search.proofs.triangle.not_above.Goals as goal
use Rattle.search.proofs.triangle.not_above.Goals.{Start}

held : (c : Start) → T (fits binary64 c.args.m)
held c = passes _ c.well_formed.1.1.1.0.1

pub returns-then-p-m : goal.returns-then-p-m
unfolding of_bits
returns-then-p-m c =
    rw (c.if-not-asked.false, not_above c.args.x c.args.y c.args.m (held (goal.at.returns-then-p-m c).Start) c.if-p-m.true)

pub returns-then-m-p : goal.returns-then-m-p
unfolding of_bits fits
returns-then-m-p c =
    rw (above c.args.x c.args.y c.args.m (held (goal.at.returns-then-m-p c).Start) (of_bits binary64 0x01A5_6E1F_C2F8_F359) tt tt c.if-m-p.true)
