-- Checks of narrowing's cases (request 2) by computation: the rows of docs/NARROWING.md. Not in the starred table.
use Rattle.std.specs.Prelude.{◌≡◌, refl, ℕ}
use Rattle.std.specs.Float.Ieee.{of_bits}
use Rattle.ieee.specs.Cases.{narrow_case}
use Rattle.test_marks.specs.Computed.{f64}

abbrev case : ℕ → ℕ
case b = narrow_case (f64 b)

-- 2 ^ 128 - 2 ^ 103 overflows, and the number before it, which is above the largest f32, does not
pub overflows : case 0x47EF_FFFF_F000_0000 ≡ 1
unfolding of_bits narrow_case
overflows = refl

pub under_bound : case 0x47EF_FFFF_EFFF_FFFF ≡ 2
unfolding of_bits narrow_case
under_bound = refl

-- exact values: 1 and -0
pub exact : case 0x3FF0_0000_0000_0000 ≡ 2
unfolding of_bits narrow_case
exact = refl

pub none_discarded : case 0x8000_0000_0000_0000 ≡ 2
unfolding of_bits narrow_case
none_discarded = refl

-- 16,777,217 and 16,777,219, and the number after the first
pub half-even : case 0x4170_0000_1000_0000 ≡ 3
unfolding of_bits narrow_case
half-even = refl

pub half-odd : case 0x4170_0000_3000_0000 ≡ 4
unfolding of_bits narrow_case
half-odd = refl

pub above_half : case 0x4170_0000_1000_0001 ≡ 5
unfolding of_bits narrow_case
above_half = refl

-- subnormal results: 2 ^ -150, the number after it, and half a last place below the least normal number
pub least_half : case 0x3690_0000_0000_0000 ≡ 3
unfolding of_bits narrow_case
least_half = refl

pub least_above : case 0x3690_0000_0000_0001 ≡ 5
unfolding of_bits narrow_case
least_above = refl

pub to_normal : case 0x380F_FFFF_E000_0000 ≡ 4
unfolding of_bits narrow_case
to_normal = refl

-- in no case
pub infinity : case 0xFFF0_0000_0000_0000 ≡ 0
unfolding of_bits narrow_case
infinity = refl

pub no_number : case 0x7FF8_0000_0000_0000 ≡ 0
unfolding of_bits narrow_case
no_number = refl
