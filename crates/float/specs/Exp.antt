-- The exponential E(y), by the document's own steps, each rounded once. The numbers in hexadecimal are bit patterns.
use Rattle.std.specs.Prelude.{ℕ, ◌/◌, false, cond, List, [], ◌∷◌, ℤ, pos, negsuc, ◌-ℤ◌, from_bits, is_nan, Float}
use Rattle.std.specs.Float.{nan, inf, binary64}
use Rattle.std.specs.Float.Ieee.{up, down, round, add, sub, mul, lt, to_signed}
use Rattle.float.specs.Whole.{floored}

-- 2 ^ k, rounded: an infinity above 2 ^ 1023, and 0 below 2 ^ -1074 (S2.13)
unfoldable pub two_to : ℤ → Float
two_to k = round binary64 false (up k) (down k)

abbrev pub bits : ℕ → Float
bits = from_bits binary64

-- 1/j! for j from 12 down to 0 (S2.13)
abbrev pub inverse_factorials : List ℕ
inverse_factorials =
    0x3E21_EED8_EFF8_D898 ∷ 0x3E5A_E645_67F5_44E4 ∷ 0x3E92_7E4F_B778_9F5C ∷ 0x3EC7_1DE3_A556_C734
    ∷ 0x3EFA_01A0_1A01_A01A ∷ 0x3F2A_01A0_1A01_A01A ∷ 0x3F56_C16C_16C1_6C17 ∷ 0x3F81_1111_1111_1111
    ∷ 0x3FA5_5555_5555_5555 ∷ 0x3FC5_5555_5555_5555 ∷ 0x3FE0_0000_0000_0000 ∷ 0x3FF0_0000_0000_0000
    ∷ 0x3FF0_0000_0000_0000 ∷ []

-- p, then p * r + c for each c of the list (S2.13)
abbrev pub horner : Float → Float → List ℕ → Float
horner r p [] = p
horner r p (c ∷ cs) = horner r (add binary64 (mul binary64 p r) (bits c)) cs

-- ln 2 is H + W, of which H has few digits (S2.13)
abbrev pub H : ℕ
H = 0x3FE6_2E42_FEE0_0000

abbrev pub W : ℕ
W = 0x3DEA_39EF_3579_3C76

-- k = floor(y * L + 0.5) (S2.13)
unfoldable pub doublings : Float → Float
doublings y = floored (add binary64 (mul binary64 y (bits 0x3FF7_1547_652B_82FE)) (bits 0x3FE0_0000_0000_0000))

-- (y - k * H) - k * W (S2.13)
unfoldable pub residue : Float → Float → Float
residue y k =
    sub binary64 (sub binary64 y (mul binary64 k (bits H))) (mul binary64 k (bits W))

-- floor(k / 2), where negsuc n is -(n + 1) (S2.13)
unfoldable pub halved : ℤ → ℤ
halved (pos n) = pos (n / 2)
halved (negsuc n) = negsuc (n / 2)

-- p is multiplied by 2 ^ h and then by 2 ^ (k - h), with h = floor(k / 2) (S2.13)
unfoldable pub raised : Float → ℤ → Float
raised p k = let h = halved k in mul binary64 (mul binary64 p (two_to h)) (two_to (k -ℤ h))

-- p = 1/13! and then the steps down to 1/0!, raised by k
unfoldable pub scaled : Float → Float → Float
scaled y k = raised (horner (residue y k) (bits 0x3DE6_1246_13A8_6D09) inverse_factorials) (to_signed 63 k)

-- E(y): NaN for a NaN, 0 for y below -745.2, infinity above 709.79 (S2.13)
unfoldable pub exponential : Float → Float
exponential y =
    cond (is_nan y) nan
    (cond (lt y (bits 0xC087_4999_9999_999A)) (bits 0)
    (cond (lt (bits 0x4086_2E51_EB85_1EB8) y) (inf false) (scaled y (doublings y))))
