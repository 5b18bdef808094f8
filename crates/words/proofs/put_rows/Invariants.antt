use mathlib.Core.Path.{◌≡◌}
use mathlib.Core.List.{map}
use lib.ListN.{length, take}
use Rattle.lists.specs.Lists.{put}
use Rattle.rows.specs.Words.{word_kind, word_level, word_value}
use Rattle.words.proofs.put_rows.Given as goal

abbrev pub invariant-loop-i : goal.invariant-loop-i
invariant-loop-i l = (length l.kinds ≡ length l.initial.kinds) × (length l.levels ≡ length l.initial.levels) × (length l.values ≡ length l.initial.values) × (l.kinds ≡ put l.initial.kinds 0 (map word_kind (take l.i l.words))) × (l.levels ≡ put l.initial.levels 0 (map word_level (take l.i l.words))) × (l.values ≡ put l.initial.values 0 (map word_value (take l.i l.words)))
