use mathlib.Core.Path.{◌≡◌}
use Prim.Native.Nat.{◌-◌}
use lib.ListN.{length}
use Rattle.lists.specs.Lists.{every}
use Rattle.table.specs.Tail.{term_valid}
use Rattle.writer.specs.Tailed.{terms_from, terms_of}
use Rattle.writer.specs.LentTail.{lent_tail}
use Rattle.writer.proofs.tail.terms_fine.Given as goal

abbrev pub invariant-loop-i : goal.invariant-loop-i
invariant-loop-i l =
    let t = lent_tail l.tail in
    every term_valid (terms_from t.coefficients t.kappas t.powers l.i (length t.coefficients - l.i)) ≡ every term_valid (terms_of t)
