-- Worked values of the definitions, by computation.
use Rattle.std.specs.Prelude.{◌≡◌, true, false, pos, negsuc, refl}
use Rattle.std.specs.Float.{nan, inf, fin, binary64}
use Rattle.std.specs.Float.Ieee.{size, round, add, sub, mul, div, lt, is_nan, to_bits, of_bits, of_int, to_signed}
use Rattle.float.specs.Order.{farther, larger, rank, ordered}
use Rattle.float.specs.Whole.{integral, floored, ceiled}
use Rattle.float.specs.Exp.{bits, two_to, doublings, residue, halved, raised, scaled, exponential}
use Rattle.float.specs.Log.{ratio, combined, over, places, logarithm}

-- the floors of -0.5 and -0.0, and the ceiling of -0.5
directions : (floored (fin true 1 (negsuc 0)) ≡ fin true 1 (pos 0)) × (floored (fin true 0 (pos 0)) ≡ fin true 0 (pos 0)) × (ceiled (fin true 1 (negsuc 0)) ≡ fin true 0 (pos 0))
unfolding integral round
directions = (refl, refl, refl)

-- the larger of 1 and a NaN, and of -0 and +0
largest : (larger (fin false 1 (pos 0)) nan ≡ fin false 1 (pos 0)) × (larger (fin true 0 (pos 0)) (fin false 0 (pos 0)) ≡ fin true 0 (pos 0))
unfolding farther is_nan lt
largest = (refl, refl)

-- -0 is before +0 and not after it, and the NaN is not before +infinity
total : (ordered (fin true 0 (pos 0)) (fin false 0 (pos 0)) ≡ true) × (ordered (fin false 0 (pos 0)) (fin true 0 (pos 0)) ≡ false) × (ordered nan (inf false) ≡ false)
unfolding rank to_bits
total = (refl, refl, refl)

-- E(-708), E(709), E(-0.0) and E(-1.75)
exponentials : (to_bits binary64 (exponential (bits 0xC086_2000_0000_0000)) ≡ 0x0017_C8AB_2288_C9AC)
    × (to_bits binary64 (exponential (bits 0x4086_2800_0000_0000)) ≡ 0x7FDD_422D_2BE5_DC9B)
    × (to_bits binary64 (exponential (bits 0x8000_0000_0000_0000)) ≡ 0x3FF0_0000_0000_0000)
    × (to_bits binary64 (exponential (bits 0xBFFC_0000_0000_0000)) ≡ 0x3FC6_3E39_7E02_2072)
unfolding to_bits of_bits exponential is_nan lt scaled raised halved mul add residue sub doublings integral two_to to_signed
exponentials = (refl, refl, refl, refl)

-- floor(k / 2) for 3, -3 and -1075
halves : (halved (pos 3) ≡ pos 1) × (halved (negsuc 2) ≡ negsuc 1) × (halved (negsuc 1074) ≡ negsuc 537)
unfolding halved
halves = (refl, refl, refl)

-- E(-709), which is subnormal; at -745.1332191019411 and at the next number down, the last result above 0 and the first 0; E(-745.2) and E(-746)
far_below : (to_bits binary64 (exponential (bits 0xC086_2800_0000_0000)) ≡ 0x0008_BFE5_5DE0_2338)
    × (to_bits binary64 (exponential (bits 0xC087_4910_D52D_3051)) ≡ 1)
    × (to_bits binary64 (exponential (bits 0xC087_4910_D52D_3052)) ≡ 0)
    × (to_bits binary64 (exponential (bits 0xC087_4999_9999_999A)) ≡ 0)
    × (to_bits binary64 (exponential (bits 0xC087_5000_0000_0000)) ≡ 0)
unfolding to_bits of_bits exponential is_nan lt scaled raised halved mul add residue sub doublings integral two_to to_signed
far_below = (refl, refl, refl, refl, refl)

-- at 709.782712893384 and at the next number up, the last finite result and the first infinity; E(709.79) and E(710)
far_above : (to_bits binary64 (exponential (bits 0x4086_2E42_FEFA_39EF)) ≡ 0x7FEF_FFFF_FFFF_FF2A)
    × (to_bits binary64 (exponential (bits 0x4086_2E42_FEFA_39F0)) ≡ 0x7FF0_0000_0000_0000)
    × (to_bits binary64 (exponential (bits 0x4086_2E51_EB85_1EB8)) ≡ 0x7FF0_0000_0000_0000)
    × (to_bits binary64 (exponential (bits 0x4086_3000_0000_0000)) ≡ 0x7FF0_0000_0000_0000)
unfolding to_bits of_bits exponential is_nan lt scaled raised halved mul add residue sub doublings integral two_to to_signed
far_above = (refl, refl, refl, refl)

-- the logarithms of 1, of 2 ^ -1074, of 1.4142135623730951 and of the next number, whose m is halved
logarithms : (to_bits binary64 (logarithm (bits 0x3FF0_0000_0000_0000)) ≡ 0)
    × (to_bits binary64 (logarithm (bits 1)) ≡ 0xC087_4385_446D_71C3)
    × (to_bits binary64 (logarithm (bits 0x3FF6_A09E_667F_3BCD)) ≡ 0x3FD6_2E42_FEFA_39F1)
    × (to_bits binary64 (logarithm (bits 0x3FF6_A09E_667F_3BCE)) ≡ 0x3FD6_2E42_FEFA_39F3)
unfolding to_bits of_bits logarithm combined ratio over places size lt mul add sub div of_int
logarithms = (refl, refl, refl, refl)
