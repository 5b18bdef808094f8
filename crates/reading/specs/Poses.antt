-- Many readings in one call: the poses of a list, each read as by a call of its own. Definitions only.
use Rattle.std.specs.Prelude.{List, [], ◌∷◌, ℕ, ◌+◌, ◌*◌, ◌/◌, min, length, get_or, Float}
use Rattle.std.specs.Float.{nan}
use Rattle.lists.specs.Lists.{put, joined}
use Rattle.search.specs.Search.{Locator}
use Rattle.table.specs.declared.Table.{Table}
use Rattle.reading.specs.Resolve.{ReadingValues, Query, Way, linear, boltzmann}
use Rattle.reading.specs.Reading.{reading_by}

-- eight numbers a pose: the distance, the dihedral angle, and x, y, z of both directions
unfoldable pub pose_at : List Float → ℕ → Query
pose_at poses i =
    let k = i * 8 in
    record {
      r = get_or poses k nan;
      omega = get_or poses (k + 1) nan;
      a = record { x = get_or poses (k + 2) nan; y = get_or poses (k + 3) nan; z = get_or poses (k + 4) nan };
      b = record { x = get_or poses (k + 5) nan; y = get_or poses (k + 6) nan; z = get_or poses (k + 7) nan };
    }

-- no beta: the plain sum; otherwise the first entry counts, for every pose
unfoldable pub way_by : List Float → Way
way_by [] = linear
way_by (beta ∷ _) = boltzmann beta

-- as many poses as the shortest list has room for: eight numbers, one number and three numbers each
unfoldable pub poses_held : ℕ → ℕ → ℕ → ℕ
poses_held poses numbers answers = min (poses / 8) (min numbers (answers / 3))

-- the answers, three a pose
abbrev pub shown : ReadingValues → List Float
shown v = v.energy ∷ v.distance_a ∷ v.distance_b ∷ []

-- what the call leaves: how many poses it answered, and both lists
pub record ReadingsOut : Type 0 where
  pub count : ℕ
  pub numbers : List ℕ
  pub answers : List Float

-- the first n poses answered by their values; entries beyond stay as they were
abbrev pub answered : ℕ → (ℕ → ReadingValues) → List ℕ → List Float → ReadingsOut
answered n value numbers answers =
    record {
      count = n;
      numbers = put numbers 0 (joined n (λ i. (value i).number ∷ []));
      answers = put answers 0 (joined n (λ i. shown (value i)));
    }

-- each pose by the single reading's own definition
unfoldable pub readings_out : List ℕ → Table → List Float → Locator → Way → List Float → List ℕ → List Float → ReadingsOut
readings_out file t vertices l way poses numbers answers =
    answered (poses_held (length poses) (length numbers) (length answers)) (λ i. reading_by file t vertices l way (pose_at poses i)) numbers answers
