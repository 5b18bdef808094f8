-- Questions that were all answered yes. Assumes nothing.
use mathlib.Core.Path.{◌≡◌, refl}
use mathlib.Core.Bool.{Bool, true, false, cond}
use Prim.Native.Nat.{ℕ, ◌<◌}
use native.Mathlib.Omega.{arith}
use lib.Dec.{eqb}
use borrow.Author.Tests.{eqb-true, eqb-false}
use Rattle.lists.specs.Questions.{ask, first}

ask_by : (q : Bool) (n r : ℕ) → 0 < n → cond q r n ≡ 0 → (q ≡ true) × (r ≡ 0)
ask_by true n r p e = (refl, e)
ask_by false n r p e = absurd (omega arith)

-- a chain of questions gave 0: the first one was answered yes, and so were the rest
pub ask_yes : {q : Bool} {n r : ℕ} → 0 < n → ask q n r ≡ 0 → (q ≡ true) × (r ≡ 0)
unfolding ask
ask_yes {q} {n} {r} p e = ask_by q n r p e

first_by : (n r : ℕ) (t : Bool) → eqb n 0 ≡ t → cond t r n ≡ 0 → (n ≡ 0) × (r ≡ 0)
first_by n r true t e = (eqb-true n 0 t, e)
first_by n r false t e = (e, absurd (eqb-false n 0 t e))

pub first_yes : {n r : ℕ} → first n r ≡ 0 → (n ≡ 0) × (r ≡ 0)
unfolding first
first_yes {n} {r} e = first_by n r (eqb n 0) refl e
