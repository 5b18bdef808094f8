-- BuilderLists of numbers beyond their end. Assumes nothing.
use mathlib.Core.Path.{◌≡◌, sym}
use mathlib.Core.List.{List}
use Prim.Native.Nat.{ℕ, ◌≤◌}
use lib.ListN.{length, get_or, set, get_or-eq_default}
use lib.Seq.{set_out}

pub read_beyond : (l : List ℕ) (s : ℕ) → length l ≤ s → 0 ≡ get_or l s 0
read_beyond l s h = sym (get_or-eq_default l 0 h)

pub set_beyond : (l : List ℕ) (s x : ℕ) → length l ≤ s → l ≡ set l s x
set_beyond l s x h = sym (set_out l s x h)
