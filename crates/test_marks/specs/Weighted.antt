-- Checks of the weighted reading (request 1) by computation. Not in the starred table.
use Rattle.std.specs.Prelude.{◌≡◌, refl, List, ◌∷◌, ℕ, replicate, Float}
use Rattle.std.specs.Float.{binary64}
use Rattle.std.specs.Float.Ieee.{to_bits}
use Rattle.float.specs.Order.{farther}
use Rattle.float.specs.Exp.{exponential, scaled, raised, halved, doublings, residue, two_to}
use Rattle.float.specs.Log.{logarithm}
use Rattle.float.specs.Log as log
use Rattle.search.specs.declared.Weights.{Weights}
use Rattle.reading.specs.Resolve.{over_corners, boltzmann_average}
use Rattle.test_marks.specs.Computed.{f64, computed}

abbrev one : Float
one = f64 0x3FF0_0000_0000_0000

abbrev first_alone : Weights
first_alone = record { a = one; b = f64 0; c = f64 0 }

abbrev halves : Weights
halves = record { a = f64 0x3FE0_0000_0000_0000; b = f64 0x3FE0_0000_0000_0000; c = f64 0 }

abbrev average : Weights → Weights → List ℕ → ℕ
average a b es = to_bits binary64 (boltzmann_average one a b es)

-- corners of weight 0 are dropped, whatever their energies: the first one, 1.0, alone, beside eight of minus infinity
pub dropped : computed (average first_alone first_alone (0x3F80_0000 ∷ replicate 8 0xFF80_0000)) ≡ 0x3FF0_0000_0000_0000
unfolding computed boltzmann_average over_corners farther exponential scaled raised halved doublings residue two_to logarithm log.combined log.ratio log.places log.over
dropped = refl

-- an infinite minimum, minus infinity too, answers infinity
pub lowest : computed (average halves first_alone (0xFF80_0000 ∷ replicate 8 0)) ≡ 0x7FF0_0000_0000_0000
unfolding computed boltzmann_average over_corners farther exponential scaled raised halved doublings residue two_to logarithm log.combined log.ratio log.places log.over
lowest = refl

-- two energies of one value, 0.5 each: that value
pub even : computed (average halves first_alone (replicate 9 0x4000_0000)) ≡ 0x4000_0000_0000_0000
unfolding computed boltzmann_average over_corners farther exponential scaled raised halved doublings residue two_to logarithm log.combined log.ratio log.places log.over
even = refl
