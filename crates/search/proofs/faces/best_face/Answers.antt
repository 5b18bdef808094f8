use mathlib.Core.Path.{◌≡◌, refl, ◌∙◌}
use mathlib.Core.Bool.{Bool, true, false, ◌||◌, true≢false}
use mathlib.Core.Logic.{◌⊎◌, inl, inr}
use Prim.Native.Nat.{ℕ, ◌+◌, ◌%◌, ◌≤◌, ◌<◌}
use native.Mathlib.Omega.{arith}
use lib.ListN.{length}
use lib.Dec.{ltb, eqb}
use lib.Ieee.{of_bits}
use borrow.Author.Tests.{ltb-false, eqb-false}
use Rattle.ieee.proofs.Pack.{le_or_lt}
use Rattle.search.specs.Internal.{limit_of, sift_over}
use Rattle.search.proofs.Sifting.{told_room, told_inside, told_best}
use Rattle.search.proofs.faces.best_face.Goals as goal
use Rattle.search.proofs.faces.best_face.Goals.{After-sift-w, Else-w-is_empty}

-- what the pass answered
passed : (c : After-sift-w) → (let a = c.args in
    c.sift-w.result ≡ sift_over a.vertices.now (limit_of a.n (length a.vertices.now)) a.p 0 (record { count = 0; at = 0 }) a.faces.now)
passed c = rw (c.sift-w.ensures, c.limit_of.ensures)

neither : (s t : Bool) → (s || t) ≡ false → (s ≡ false) × (t ≡ false)
neither true t h = absurd (true≢false h)
neither false t h = (refl, h)

-- the two tests
tests : (c : Else-w-is_empty) → (ltb 1 c.sift-w.result.count || eqb (length c.args.faces.now) 0) ≡ false
tests c = rw (← c.is_empty.ensures) c.if-w-is_empty.false

-- there is a face, and none or one that p is not past
few : (c : Else-w-is_empty) → c.sift-w.result.count ≤ 1
few c = ltb-false 1 c.sift-w.result.count (neither (ltb 1 c.sift-w.result.count) (eqb (length c.args.faces.now) 0) (tests c)).0

some : (c : Else-w-is_empty) → 3 ≤ length c.args.faces.now
some c =
    three (length c.args.faces.now) c.requires (eqb-false (length c.args.faces.now) 0 (neither (ltb 1 c.sift-w.result.count) (eqb (length c.args.faces.now) 0) (tests c)).1)
  where
    three : (n : ℕ) → n % 3 ≡ 0 → (n ≡ 0 → ⊥) → 3 ≤ n
    three n m z = by (le_or_lt 3 n)
      where
        by : (3 ≤ n) ⊎ (n < 3) → 3 ≤ n
        by (inl h) = h
        by (inr h) = absurd (z (omega arith))

-- the place is one of the list's
room : (c : Else-w-is_empty) → c.sift-w.result.at + 3 ≤ length c.args.faces.now
room c =
    let a = c.args in
    told_room a.vertices.now a.n a.p a.faces.now c.sift-w.result (passed (goal.at.Else-w-is_empty c).After-sift-w) (few c) (some c)

pub offset_bounds-faces-w : goal.offset_bounds-faces-w
offset_bounds-faces-w c = omega (arith, room (goal.at.offset_bounds-faces-w c).Else-w-is_empty)

pub bounds-faces-w : goal.bounds-faces-w
bounds-faces-w c = omega (arith, room (goal.at.bounds-faces-w c).Else-w-is_empty)

pub overflow_add-w : goal.overflow_add-w
overflow_add-w c = omega (arith, room (goal.at.overflow_add-w c).Else-w-is_empty)

pub offset_bounds-faces-w-2 : goal.offset_bounds-faces-w-2
offset_bounds-faces-w-2 c = omega (arith, room (goal.at.offset_bounds-faces-w-2 c).Else-w-is_empty)

pub bounds-faces-w-2 : goal.bounds-faces-w-2
bounds-faces-w-2 c = omega (arith, room (goal.at.bounds-faces-w-2 c).Else-w-is_empty)

pub overflow_add-w-2 : goal.overflow_add-w-2
overflow_add-w-2 c = omega (arith, room (goal.at.overflow_add-w-2 c).Else-w-is_empty)

pub offset_bounds-faces-w-3 : goal.offset_bounds-faces-w-3
offset_bounds-faces-w-3 c = omega (arith, room (goal.at.offset_bounds-faces-w-3 c).Else-w-is_empty)

pub bounds-faces-w-3 : goal.bounds-faces-w-3
bounds-faces-w-3 c = omega (arith, room (goal.at.bounds-faces-w-3 c).Else-w-is_empty)

pub better-fit-requires : goal.better-fit-requires
better-fit-requires c =
    let a = c.args in
    let w = c.sift-w.result in
    let r = room (goal.at.better-fit-requires c).Else-w-is_empty in
    let in_list = told_inside a.vertices.now a.n a.p a.faces.now w (passed (goal.at.better-fit-requires c).After-sift-w) (few (goal.at.better-fit-requires c).Else-w-is_empty) in
    rw c.face_of-face.ensures (in_list w.at (omega (arith, r)), in_list (w.at + 1) (omega (arith, r)), in_list (w.at + 2) (omega (arith, r)))

pub returns-then-fit-w : goal.returns-then-fit-w
unfolding of_bits
returns-then-fit-w c =
    let a = c.args in
    let w = c.sift-w.result in
    c.fitted.ensures
    ∙ told_best a.vertices.now a.n a.p a.faces.now w (passed (goal.at.returns-then-fit-w c).After-sift-w) (few (goal.at.returns-then-fit-w c).Else-w-is_empty) (some (goal.at.returns-then-fit-w c).Else-w-is_empty) a.near c.better-fit.result
    (rw (c.better-fit.ensures, c.no_fit.ensures, c.face_of-face.ensures)) c.if-fit-w.true
