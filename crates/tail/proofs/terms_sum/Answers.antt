use mathlib.Core.Path.{refl, sym, ◌∙◌}
use native.Mathlib.Numerals.{unary_clauses}
use native.Mathlib.Omega.{arith}
use lib.Ieee.{of_bits, neg}
use Rattle.tail.proofs.Laws.{sum_next, sum_end}
use Rattle.tail.proofs.terms_sum.Goals as goal

pub loop-i-init : goal.loop-i-init
unfolding of_bits neg
loop-i-init c = simp unary_clauses refl

pub loop-i-preserved : goal.loop-i-preserved
loop-i-preserved c =
    let a = c.args in
    rw c.term_energy-sum.ensures (sum_next a.r a.file.now c.loop-i.sum a.terms.start a.terms.count c.loop-i.i (omega arith) ∙ c.loop-i.invariant)

pub returns : goal.returns
returns c =
    let a = c.args in
    sym (sum_end a.r a.file.now c.loop-i.sum _ _ (omega arith)) ∙ c.loop-i.invariant
