-- Cell numbers below 0. Assumes nothing.
use mathlib.Core.Path.{◌≡◌}
use mathlib.Core.Bool.{Bool, true, false, cond, true≢false}
use Prim.Native.Nat.{ℕ, zero, suc, ◌+◌}
use native.Mathlib.Omega.{arith}
use lib.Dec.{eqb}
use lib.IntN.{negsuc}
use lib.Signed.{le_z}
use borrow.Author.Tests.{leb-true, ne_eqb}
use Rattle.search.specs.Cells.{near}

pub near-below : (m i : ℕ) (t : Bool) → le_z (negsuc 0) (negsuc m) ≡ t → near (negsuc m) i ≡ cond t (eqb i 0) false
unfolding near
near-below zero i true e = let z : 0 + i ≡ i = omega arith in rw z
near-below zero i false e = absurd (true≢false e)
near-below (suc m) i true e = absurd (let z = leb-true (suc m) 0 e in omega arith)
near-below (suc m) i false e = rw (ne_eqb (suc m + i) 0 (λ e. absurd (omega arith)))
