use mathlib.Core.Path.{sym}
use lib.ListN.{length}
use Rattle.lists.proofs.Counting.{yes, no}
use Rattle.rows.specs.Rows.{Rows, rows_of}
use Rattle.words.proofs.Back.{words_short, words_done, roomy}
use Rattle.words.proofs.rows_to_words.Goals as goal
use Rattle.words.proofs.rows_to_words.Goals.{Start}

-- the rows that were lent
abbrev lists : Start → Rows
lists s = rows_of s.args.kinds.now s.args.levels.now s.args.values.now

pub returns-then-not-move_long : goal.returns-then-not-move_long
returns-then-not-move_long c =
    sym (words_short c.args.rows (lists (goal.at.returns-then-not-move_long c).Start) c.args.words.now (no c.move_long.ensures c.if-not-move_long.true))

pub put_words-requires : goal.put_words-requires
put_words-requires c =
    let a = c.args in
    roomy a.rows (length a.kinds.now) (length a.levels.now) (length a.values.now) (length a.words.now) (yes c.move_long.ensures c.if-not-move_long.false)

pub returns : goal.returns
returns c =
    rw (c.put_words.ensures, words_done c.args.rows (lists (goal.at.returns c).Start) c.args.words.now (yes c.move_long.ensures c.if-not-move_long.false))
