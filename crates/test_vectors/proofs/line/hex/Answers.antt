use Rattle.std.proofs.Common.{◌∙◌, arith}
use Rattle.test_vectors.proofs.Laws.{no_digit, too_large, one_more, at_end}
use Rattle.test_vectors.proofs.line.hex.Goals as goal

pub returns-in_err-d : goal.returns-in_err-d
returns-in_err-d c =
    let l = c.loop-letter in
    c.from_residual.ensures ∙ no_digit c.args.text.now l.n l.letter-index (omega arith) c.in_err-d.ensures.value ∙ l.invariant

pub returns-then-n-ge1152921504606846976 : goal.returns-then-n-ge1152921504606846976
returns-then-n-ge1152921504606846976 c =
    let l = c.loop-letter in
    too_large c.args.text.now l.n l.letter-index (omega arith) _ c.in_ok-d.ensures.value c.if-n-ge1152921504606846976.true ∙ l.invariant

pub overflow_add-n : goal.overflow_add-n
overflow_add-n c = omega (arith, c.in_ok-d.ensures.small, c.from.ensures)

pub loop-letter-preserved : goal.loop-letter-preserved
loop-letter-preserved c =
    let l = c.loop-letter in
    rw c.from.ensures (one_more c.args.text.now l.n l.letter-index (omega arith) _ c.in_ok-d.ensures.value c.if-n-ge1152921504606846976.false) ∙ l.invariant

pub returns : goal.returns
returns c =
    let l = c.loop-letter in
    at_end c.args.text.now l.n l.letter-index (omega arith) ∙ l.invariant
