use Rattle.std.proofs.Common.{sym, arith}
use Rattle.words.proofs.Zipped.{kind_fits}
use Rattle.lent.proofs.Entries.{gather_asked}
use Rattle.lent.proofs.records.gather.Goals as goal

pub record_at-requires : goal.record_at-requires
record_at-requires c =
    let a = gather_asked _ _ (sym c.in_ok-gather_question.ensures) in
    (omega (arith, a.0), omega (arith, kind_fits _ c.args.words.now c.loop-i.i a.1 (omega arith) a.0))
