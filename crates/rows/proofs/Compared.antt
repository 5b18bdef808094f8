-- Rows as they compare: the bits of narrowed energies. Assumes nothing.
use mathlib.Core.Path.{◌≡◌, ap, ◌∙◌}
use Prim.Native.Nat.{◌^◌, ◌<◌}
use lib.Dec.{T}
use lib.Ieee.{Float, binary32, is_nan, fits, nan_bits, to_bits}
use lib.Ieee.Bits.{of_bits-to_bits, to_bits-lt, nan_bits_is}
use Rattle.ieee.specs.Narrow.{narrowed}
use Rattle.ieee.proofs.Fields.{narrowed_fits, narrowed-number}
use Rattle.rows.specs.Rows.{narrow_bits}

-- ---- bits of 32 digits, and a NaN's only where the number is one

pub bits_lt : (x : Float) → T (fits binary32 x) → to_bits binary32 x < 256 ^ 4
bits_lt x h = to_bits-lt binary32 x h

pub bits_nan : (x : Float) → T (fits binary32 x) → nan_bits binary32 (to_bits binary32 x) ≡ is_nan x
bits_nan x h = nan_bits_is binary32 (to_bits binary32 x) ∙ ap is_nan (of_bits-to_bits binary32 x h)

pub narrow_lt : (x : Float) → narrow_bits x < 256 ^ 4
narrow_lt x = bits_lt (narrowed x) (narrowed_fits x)

pub narrow_nan : (x : Float) → nan_bits binary32 (narrow_bits x) ≡ is_nan x
narrow_nan x = bits_nan (narrowed x) (narrowed_fits x) ∙ narrowed-number x
