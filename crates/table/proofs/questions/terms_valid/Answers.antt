use mathlib.Core.Path.{sym}
use native.Mathlib.Omega.{arith}
use Rattle.lists.proofs.Counting.{no}
use Rattle.table.specs.Tail.{term_of, term_valid}
use Rattle.table.proofs.Items.{every_fails}
use Rattle.table.proofs.questions.terms_valid.Goals as goal

pub returns-then-not-term_valid : goal.returns-then-not-term_valid
returns-then-not-term_valid c =
    let a = c.args in
    sym (every_fails term_of 20 a.file.now term_valid a.terms.start a.terms.count c.loop-i.i (omega arith) (no c.term_valid.ensures c.if-not-term_valid.true))
