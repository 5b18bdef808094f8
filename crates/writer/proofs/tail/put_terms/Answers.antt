use native.Mathlib.Nat.{sub-zero}
use native.Mathlib.Omega.{arith}
use lib.ListN.{length}
use Rattle.table.specs.Tail.{term_bytes}
use Rattle.table.proofs.Lengths.{packed-length}
use Rattle.table.proofs.OfTail.{term-length}
use Rattle.writer.specs.Tailed.{term_at, terms_of}
use Rattle.writer.specs.LentTail.{lent_tail}
use Rattle.writer.proofs.Puts.{begun, step, fits, ended}
use Rattle.writer.proofs.OfTail.{handed_many, bytes_turn, bytes_end}
use Rattle.writer.proofs.tail.put_terms.Goals as goal

pub loop-i-init : goal.loop-i-init
loop-i-init c =
    let t = lent_tail c.args.tail.now in
    rw sub-zero (begun c.args.out.now c.args.at _ (omega (arith, c.requires.1, packed-length term_bytes 20 term-length (terms_of t), handed_many t)))

pub put_term-requires : goal.put_term-requires
put_term-requires c =
    let t = lent_tail c.args.tail.now in
    let term = term_at t.coefficients t.kappas t.powers c.loop-i.i in
    omega (
      arith,
      fits c.loop-i.invariant (term_bytes term) _ (bytes_turn t.coefficients t.kappas t.powers c.loop-i.i (length t.coefficients) (omega arith)),
      term-length term,
    )

pub loop-i-preserved : goal.loop-i-preserved
loop-i-preserved c =
    let t = lent_tail c.args.tail.now in
    let term = term_at t.coefficients t.kappas t.powers c.loop-i.i in
    step c.loop-i.invariant (term_bytes term) _ _ _ (bytes_turn t.coefficients t.kappas t.powers c.loop-i.i (length t.coefficients) (omega arith))
    c.put_term.ensures (omega (arith, term-length term))

pub returns : goal.returns
returns c =
    let t = lent_tail c.args.tail.now in
    ended c.loop-i.invariant (bytes_end t.coefficients t.kappas t.powers c.loop-i.i (length t.coefficients) (omega arith))
