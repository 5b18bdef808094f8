use Rattle.rows.proofs.InWords.{kind_at, level_at, value_at}
use Rattle.lent.proofs.records.record_at.Goals as goal

pub returns : goal.returns
returns c =
    let a = c.args in
    rw (kind_at a.words.now a.s, level_at a.words.now a.s, value_at a.words.now a.s, c.word_kind.ensures, c.word_level.ensures, c.word_value.ensures)
