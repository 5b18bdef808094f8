-- IEEE 754's fusedMultiplyAdd at binary64: x * y + z, rounded once. Definitions only.
use Rattle.std.specs.Prelude.{◌*◌, Float}
use Rattle.std.specs.Float.{nan, inf, fin, binary64}
use Rattle.std.specs.Float.Ieee.{up, down, unlike, sum, add, mul}

-- Of three finite numbers the product is kept as an exact fraction, and the exact sum is handed to `round` once, by `sum`, which gives an exact zero its sign.
-- Beside finite factors a z that is none is the result. A factor that is no finite number makes the product exact, so that the rounded operations serve. (S2.5)
unfoldable pub fused : Float → Float → Float → Float
unfolding sum add mul
fused nan y z = add binary64 (mul binary64 nan y) z
fused (inf s) y z = add binary64 (mul binary64 (inf s) y) z
fused (fin s m e) nan z = add binary64 (mul binary64 (fin s m e) nan) z
fused (fin s m e) (inf t) z = add binary64 (mul binary64 (fin s m e) (inf t)) z
fused (fin s m e) (fin t n d) nan = nan
fused (fin s m e) (fin t n d) (inf u) = inf u
fused (fin s m e) (fin t n d) (fin u k g) = sum binary64 (unlike s t) (m * up e * (n * up d) * down g) u (k * up g * (down e * down d)) (down e * down d * down g)
