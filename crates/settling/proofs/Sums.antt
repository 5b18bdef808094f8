-- A turn of the sum's loop, and its end. Assumes nothing.
use Rattle.std.proofs.Common.{◌≡◌, ℕ, ◌+◌, ◌<◌, ◌≤◌, List, length, get_or, drop, add-one, drop_of_length-le, drop-cons}
use lib.Ieee.{Float, nan, binary64, add}
use Rattle.settling.specs.Gradient.{sum_from}

-- a sum, of what is left
pub sum_turn : (l : List Float) (i : ℕ) (x : Float) → i < length l → sum_from x (drop i l) ≡ sum_from (add binary64 x (get_or l i nan)) (drop (i + 1) l)
unfolding sum_from
sum_turn l i x h = rw (add-one, drop-cons l i nan)

pub sum_end : (l : List Float) (i : ℕ) (x : Float) → length l ≤ i → sum_from x (drop i l) ≡ x
unfolding sum_from
sum_end l i x h = rw (drop_of_length-le l h)
