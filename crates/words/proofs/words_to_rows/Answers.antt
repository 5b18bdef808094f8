use mathlib.Core.Path.{◌≡◌, sym}
use mathlib.Core.Bool.{true}
use lib.ListN.{length}
use Rattle.lists.proofs.Counting.{yes, no}
use Rattle.rows.specs.Rows.{Rows, rows_of}
use Rattle.words.specs.Moves.{move_room}
use Rattle.words.proofs.Back.{rows_short, rows-rest, rows_done, roomy}
use Rattle.words.proofs.words_to_rows.Goals as goal
use Rattle.words.proofs.words_to_rows.Goals.{Start, Else-not-move_long}

-- the lists that were lent
abbrev lists : Start → Rows
lists s = rows_of s.args.kinds.now s.args.levels.now s.args.values.now

pub returns-then-not-move_long : goal.returns-then-not-move_long
returns-then-not-move_long c =
    sym (rows_short c.args.rows (lists (goal.at.returns-then-not-move_long c).Start) c.args.words.now (no c.move_long.ensures c.if-not-move_long.true))

-- all of them are long enough
long : (c : Else-not-move_long) → move_room c.args.rows (lists (goal.at.Else-not-move_long c).Start) c.args.words.now ≡ true
long c = yes c.move_long.ensures c.if-not-move_long.false

pub returns-then-not-rests_clear : goal.returns-then-not-rests_clear
returns-then-not-rests_clear c =
    sym (rows-rest c.args.rows (lists (goal.at.returns-then-not-rests_clear c).Start) c.args.words.now (long (goal.at.returns-then-not-rests_clear c).Else-not-move_long) (no c.rests_clear.ensures c.if-not-rests_clear.true))

pub put_rows-requires : goal.put_rows-requires
put_rows-requires c =
    let a = c.args in
    let r = roomy a.rows (length a.kinds.now) (length a.levels.now) (length a.values.now) (length a.words.now) (long (goal.at.put_rows-requires c).Else-not-move_long) in
    (r.3, r.0, r.1, r.2, yes c.rests_clear.ensures c.if-not-rests_clear.false)

pub returns : goal.returns
returns c =
    let e = c.before.before.before.before.before.before.before.before.before.before.before.before in
    rw (c.put_rows.ensures, rows_done c.args.rows (lists (goal.at.returns c).Start) c.args.words.now (long (goal.at.returns c).Else-not-move_long) (yes c.rests_clear.ensures c.if-not-rests_clear.false))
