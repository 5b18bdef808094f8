-- Checks of the questions 1 to 5 by computation: one or two settings for each answer, and pairs that fail at once. Not in the starred table.
-- Numbers in hexadecimal are bit patterns.
use Rattle.std.specs.Prelude.{◌≡◌, refl, ℕ}
use Rattle.std.specs.Float.{binary64}
use Rattle.std.specs.Float.Ieee.{of_bits}
use Rattle.lists.specs.Questions.{ask}
use Rattle.mesh.specs.Levels.{per}
use Rattle.grid.specs.Settings.{in_range, levels_valid, counts_valid, own_count, slabs_fit, question, fresh_question}
use Rattle.grid.specs.declared.Grid.{Grid}

-- rmin, rmax, dr, omega step, threshold, beta by their bits, and the counts
abbrev settings : ℕ → ℕ → ℕ → ℕ → ℕ → ℕ → ℕ → ℕ → Grid
settings rmin rmax dr step threshold beta n m = record {
  rmin = of_bits binary64 rmin;
  rmax = of_bits binary64 rmax;
  dr = of_bits binary64 dr;
  omega_step = of_bits binary64 step;
  threshold = of_bits binary64 threshold;
  beta = of_bits binary64 beta;
  n_r = n;
  n_omega = m;
}

pub record Asked : Type 0 where
  -- rmin 0, rmax 1, dr 1, step 6, threshold 0.1, beta 1, top level 0
  pub accepted : fresh_question (settings 0 0x3FF0_0000_0000_0000 0x3FF0_0000_0000_0000 0x4018_0000_0000_0000 0x3FB9_9999_9999_999A 0x3FF0_0000_0000_0000 0 0) 0 ≡ 0
  -- a threshold of -0.0 is not below 0
  pub threshold_zero : fresh_question (settings 0 0x3FF0_0000_0000_0000 0x3FF0_0000_0000_0000 0x4018_0000_0000_0000 0x8000_0000_0000_0000 0x3FF0_0000_0000_0000 0 0) 0 ≡ 0
  -- rmax is not above rmin
  pub equal_ends : fresh_question (settings 0 0 0x3FF0_0000_0000_0000 0x4018_0000_0000_0000 0x3FB9_9999_9999_999A 0x3FF0_0000_0000_0000 0 0) 0 ≡ 1
  -- dr 0 and top level 16: 1 is asked first
  pub range_before_level : fresh_question (settings 0 0x3FF0_0000_0000_0000 0 0x4018_0000_0000_0000 0x3FB9_9999_9999_999A 0x3FF0_0000_0000_0000 0 0) 16 ≡ 1
  -- top level 16
  pub level : fresh_question (settings 0 0x3FF0_0000_0000_0000 0x3FF0_0000_0000_0000 0x4018_0000_0000_0000 0x3FB9_9999_9999_999A 0x3FF0_0000_0000_0000 0 0) 16 ≡ 2
  -- top level 16 and a step of 20, which gives no bin: 2 is asked before 3
  pub level_before_counts : fresh_question (settings 0 0x3FF0_0000_0000_0000 0x3FF0_0000_0000_0000 0x4034_0000_0000_0000 0x3FB9_9999_9999_999A 0x3FF0_0000_0000_0000 0 0) 16 ≡ 2
  -- a step of 20
  pub no_bin : fresh_question (settings 0 0x3FF0_0000_0000_0000 0x3FF0_0000_0000_0000 0x4034_0000_0000_0000 0x3FB9_9999_9999_999A 0x3FF0_0000_0000_0000 0 0) 0 ≡ 3
  -- rmax is infinite: above rmin, but no count comes of it
  pub endless : fresh_question (settings 0 0x7FF0_0000_0000_0000 0x3FF0_0000_0000_0000 0x4018_0000_0000_0000 0x3FB9_9999_9999_999A 0x3FF0_0000_0000_0000 0 0) 0 ≡ 3
  -- "rmin 0, rmax 1.79e308, dr 1.1e308: 4"
  pub own_count : fresh_question (settings 0 0x7FEF_DCF1_58AD_BB99 0x7FE3_94A5_79B6_8FE3 0x4018_0000_0000_0000 0x3FB9_9999_9999_999A 0x3FF0_0000_0000_0000 0 0) 0 ≡ 4
  -- the table's own rmax falls into the next binade: it gives three bins for two
  pub own_count_finite : fresh_question (settings 0x433F_FFFF_FFFF_FFFF 0x4340_0000_0000_0001 0x4000_0000_0000_0000 0x4018_0000_0000_0000 0x3FB9_9999_9999_999A 0x3FF0_0000_0000_0000 0 0) 0 ≡ 4
  -- the same at the top level 15 with 41,887 dihedral bins, which is too many slabs: 4 is asked first
  pub own_count_before_room : fresh_question (settings 0x433F_FFFF_FFFF_FFFF 0x4340_0000_0000_0001 0x4000_0000_0000_0000 0x3F23_A92A_3055_3261 0x3FB9_9999_9999_999A 0x3FF0_0000_0000_0000 0 0) 15 ≡ 4
  -- 65,535 distance bins at level 15
  pub room : fresh_question (settings 0 0x40EF_FFE0_0000_0000 0x3FF0_0000_0000_0000 0x4018_0000_0000_0000 0x3FB9_9999_9999_999A 0x3FF0_0000_0000_0000 0 0) 15 ≡ 5
  -- and at level 0
  pub room_at_zero : fresh_question (settings 0 0x40EF_FFE0_0000_0000 0x3FF0_0000_0000_0000 0x4018_0000_0000_0000 0x3FB9_9999_9999_999A 0x3FF0_0000_0000_0000 0 0) 0 ≡ 0
  -- a held builder with its own counts
  pub held : question (settings 0 0x3FF0_0000_0000_0000 0x3FF0_0000_0000_0000 0x4018_0000_0000_0000 0x3FB9_9999_9999_999A 0x3FF0_0000_0000_0000 1 1) 0 0 ≡ 0
  -- with another count
  pub held_counts : question (settings 0 0x3FF0_0000_0000_0000 0x3FF0_0000_0000_0000 0x4018_0000_0000_0000 0x3FB9_9999_9999_999A 0x3FF0_0000_0000_0000 2 1) 0 0 ≡ 3
  -- with its current level above the top
  pub held_level : question (settings 0 0x3FF0_0000_0000_0000 0x3FF0_0000_0000_0000 0x4018_0000_0000_0000 0x3FB9_9999_9999_999A 0x3FF0_0000_0000_0000 1 1) 0 1 ≡ 2

pub asked : Asked
unfolding ask question fresh_question in_range levels_valid counts_valid own_count slabs_fit per
asked = record {
  accepted = refl;
  threshold_zero = refl;
  equal_ends = refl;
  range_before_level = refl;
  level = refl;
  level_before_counts = refl;
  no_bin = refl;
  endless = refl;
  own_count = refl;
  own_count_finite = refl;
  own_count_before_room = refl;
  room = refl;
  room_at_zero = refl;
  held = refl;
  held_counts = refl;
  held_level = refl;
}
