-- The energy of a long-range tail (document 02, paper 9): prefactor times the sum of coefficient · E(-kappa · r) / r^power, each step rounded once.
-- Definitions only.
use Rattle.std.specs.Prelude.{cond, List, [], ◌∷◌, length, eqb, Float}
use Rattle.std.specs.Float.{binary64}
use Rattle.std.specs.Float.Ieee.{of_bits, neg, add, mul, div}
use Rattle.float.specs.Exp.{exponential}
use Rattle.float.specs.Power.{power}
use Rattle.table.specs.Tail.{Term, Tail}

-- "The oracle uses this power and E." "The tail at a distance of 0 follows IEEE division."
unfoldable pub term_energy : Float → Term → Float
term_energy r t = div binary64 (mul binary64 t.coefficient (exponential (mul binary64 (neg t.kappa) r))) (power r t.power)

-- the energies of terms, in their order, added to s
unfoldable pub sum_from : Float → Float → List Term → Float
sum_from r s [] = s
sum_from r s (t ∷ ts) = sum_from r (add binary64 s (term_energy r t)) ts

-- "The terms' sum starts at -0.0." The tail "is 0.0 without terms"
unfoldable pub tail_rule : Tail → Float → Float
tail_rule t r =
    cond (eqb (length t.terms) 0) (of_bits binary64 0)
    (mul binary64 t.prefactor (sum_from r (of_bits binary64 0x8000_0000_0000_0000) t.terms))
