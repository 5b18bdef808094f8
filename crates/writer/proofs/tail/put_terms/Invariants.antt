use Prim.Native.Nat.{◌-◌}
use lib.ListN.{length}
use Rattle.table.specs.Bytes.{packed}
use Rattle.table.specs.Tail.{term_bytes}
use Rattle.writer.specs.Tailed.{terms_from, terms_of}
use Rattle.writer.specs.LentTail.{lent_tail}
use Rattle.writer.proofs.Puts.{Left}
use Rattle.writer.proofs.tail.put_terms.Given as goal

abbrev pub invariant-loop-i : goal.invariant-loop-i
invariant-loop-i l =
    let t = lent_tail l.tail in
    Left l.initial.out l.at (packed term_bytes (terms_of t)) l.out l.to (packed term_bytes (terms_from t.coefficients t.kappas t.powers l.i (length t.coefficients - l.i)))
