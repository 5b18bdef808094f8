use mathlib.Core.Bool.{and-eq-true_iff}
use Rattle.std.proofs.Common.{◌+◌, ◌*◌, ◌^◌, ◌<◌, ◌≤◌, ltb, leb, arith, ltb-true, leb-true}
use lib.Ieee.{binary64, to_bits}
use denote.Floats.{passes}
use Rattle.ieee.proofs.NextToOne.{root_next}
use Rattle.ieee.proofs.Steps.{plain-pattern}
use Rattle.ieee.proofs.roots.root_next_to_one.Goals as goal
use Rattle.ieee.proofs.roots.root_next_to_one.Goals.{Then-b}

-- the pattern is next to that of 1
next : (c : Then-b) → (1023 * 2 ^ 52 ≤ to_bits binary64 c.args.x + 2 ^ 26) × (to_bits binary64 c.args.x < 1023 * 2 ^ 52 + 2 ^ 26)
next c =
    let b = to_bits binary64 c.args.x in
    let k = (and-eq-true_iff (leb 0x3FEF_FFFF_FC00_0000 b) (ltb b 0x3FF0_0000_0400_0000)).0 c.if-b.true in
    (omega (arith, leb-true 0x3FEF_FFFF_FC00_0000 b k.0), omega (arith, ltb-true b 0x3FF0_0000_0400_0000 k.1))

pub float_from_bits-result : goal.float_from_bits-result
float_from_bits-result c = plain-pattern binary64 _ (omega (arith, (next c).1))

pub returns-then-b : goal.returns-then-b
returns-then-b c = root_next c.args.x (passes _ c.well_formed.0.1) (next c).0 (next c).1
