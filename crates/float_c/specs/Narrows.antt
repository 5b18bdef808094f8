-- The narrowing of a list into another.
use Rattle.std.specs.Prelude.{ℕ, min, List, ◌++◌, map, Float, length, take, drop}
use Rattle.ieee.specs.Narrow.{narrowed}

-- out, its first n entries replaced by those of xs, narrowed
abbrev pub narrowed_to : ℕ → List Float → List Float → List Float
narrowed_to n xs out = take n (map narrowed xs) ++ drop n out

-- as many as both lists have
abbrev pub narrowed_all : List Float → List Float → List Float
narrowed_all xs out = narrowed_to (min (length xs) (length out)) xs out
