-- What is accepted in a run does not depend on its order.
use mathlib.Core.Path.{◌≡◌, refl, ◌∙◌, ap}
use mathlib.Core.Bool.{Bool, true, false, ◌&&◌, ◌||◌}
use mathlib.Core.List.{List, [], ◌∷◌}
use Prim.Native.Nat.{ℕ, suc}
use native.Mathlib.Omega.{arith}
use lib.ListN.{length}
use lib.Dec.{eqb}
use Rattle.ledger.specs.Ledger.{Call, set_call, settle_call, write_call}
use Rattle.ledger.specs.Replies.{Reply, number}
use Rattle.ledger.specs.Order.{Reordered, nothing, same, exchanged, then, moved, accepted_in}

pub moved-many : {A : Type 0} {cs ds : List Call} (p : Reordered cs ds) (xs : List A) → length cs ≡ length xs → length ds ≡ length (moved p xs)
unfolding moved
moved-many nothing xs h = h
moved-many (same p) [] h = absurd (omega arith)
moved-many (same p) (x ∷ xs) h = ap suc (moved-many p xs (omega arith))
moved-many exchanged [] h = absurd (omega arith)
moved-many exchanged (x ∷ []) h = absurd (omega arith)
moved-many exchanged (x ∷ y ∷ xs) h = h
moved-many (then p q) xs h = moved-many q (moved p xs) (moved-many p xs h)

or_exchanged : (a b c : Bool) → a || (b || c) ≡ b || (a || c)
or_exchanged true true c = refl
or_exchanged true false c = refl
or_exchanged false b c = refl

pub accepted_moved : {cs ds : List Call} (p : Reordered cs ds) (ri oi : ℕ) (rs : List Reply) → length cs ≡ length rs → accepted_in ri oi ds (moved p rs) ≡ accepted_in ri oi cs rs
unfolding moved accepted_in
accepted_moved nothing ri oi rs h = refl
accepted_moved (same p) ri oi [] h = absurd (omega arith)
accepted_moved (same {c = set_call rj oj e} p) ri oi (r ∷ rs) h = rw (accepted_moved p ri oi rs (omega arith)) refl
accepted_moved (same {c = settle_call rj} p) ri oi (r ∷ rs) h = refl
accepted_moved (same {c = write_call t out} p) ri oi (r ∷ rs) h = refl
accepted_moved exchanged ri oi [] h = absurd (omega arith)
accepted_moved exchanged ri oi (x ∷ []) h = absurd (omega arith)
accepted_moved (exchanged {ri = rj} {oi = oj} {rj = rk} {oj = ok} {cs = cs}) ri oi (x ∷ y ∷ rs) h =
    or_exchanged (eqb (number y) 0 && (eqb ri rk && eqb oi ok)) (eqb (number x) 0 && (eqb ri rj && eqb oi oj)) (accepted_in ri oi cs rs)
accepted_moved (then p q) ri oi rs h = accepted_moved q ri oi (moved p rs) (moved-many p rs h) ∙ accepted_moved p ri oi rs h
