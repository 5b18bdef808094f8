-- The logarithm, by the document's own steps, each rounded once. The numbers in hexadecimal are bit patterns.
use Rattle.std.specs.Prelude.{ℕ, zero, suc, ◌+◌, ◌-◌, true, false, cond, List, [], ◌∷◌, pos, ◌+ℤ◌, neg_ℤ, Float}
use Rattle.std.specs.Float.{nan, inf, fin, binary64}
use Rattle.std.specs.Float.Ieee.{size, add, sub, mul, div, lt, of_int}
use Rattle.float.specs.Exp.{bits, horner, H, W}

-- 1/(2j+1) for j from 9 down to 0 (S2.16)
abbrev pub inverse_odds : List ℕ
inverse_odds =
    0x3FAA_F286_BCA1_AF28 ∷ 0x3FAE_1E1E_1E1E_1E1E ∷ 0x3FB1_1111_1111_1111 ∷ 0x3FB3_B13B_13B1_3B14
    ∷ 0x3FB7_45D1_745D_1746 ∷ 0x3FBC_71C7_1C71_C71C ∷ 0x3FC2_4924_9249_2492 ∷ 0x3FC9_9999_9999_999A
    ∷ 0x3FD5_5555_5555_5555 ∷ 0x3FF0_0000_0000_0000 ∷ []

-- s = (m - 1)/(m + 1) (S2.16)
unfoldable pub ratio : Float → Float
ratio m = div binary64 (sub binary64 m (bits 0x3FF0_0000_0000_0000)) (add binary64 m (bits 0x3FF0_0000_0000_0000))

-- e·H + ((2·s)·q + e·W); q is the Horner sum in t = s·s, begun at 1/21 (S2.16)
unfoldable pub combined : Float → Float → Float
combined s e =
    let q = horner (mul binary64 s s) (bits 0x3FA8_6186_1861_8618) inverse_odds in
    add binary64 (mul binary64 e (bits H)) (add binary64 (mul binary64 (mul binary64 (bits 0x4000_0000_0000_0000) s) q) (mul binary64 e (bits W)))

-- n / 2 ^ k, which is not rounded
unfoldable pub over : ℕ → ℕ → Float
over n k = fin false n (neg_ℤ (pos k))

-- How many digits of n stand behind the point in m = n / 2 ^ k, so that n * 2 ^ e is m * 2 ^ (e + k): all but the leading one, and m is in [1,2);
-- but where that m is above 1.4142135623730951 one more, which halves it and raises the exponent by one. (S2.16)
unfoldable pub places : ℕ → ℕ
places n = let k = size n - 1 in cond (lt (bits 0x3FF6_A09E_667F_3BCD) (over n k)) (k + 1) k

-- a NaN or an argument below 0 gives NaN, a zero of either sign minus infinity, and infinity infinity (S2.16)
unfoldable pub logarithm : Float → Float
logarithm nan = nan
logarithm (inf s) = cond s nan (inf false)
logarithm (fin s zero e) = inf true
logarithm (fin true (suc n) e) = nan
logarithm (fin false (suc n) e) = let k = places (suc n) in combined (ratio (over (suc n) k)) (of_int binary64 (e +ℤ pos k))
