-- A list narrowed into another, in the words of `narrowed_all`. Assumes nothing.
use Prim.Native.Nat.{ℕ, zero, suc, ◌+◌, ◌-◌, min}
use native.Mathlib.Omega.{arith}
use mathlib.Core.Path.{◌≡◌, refl, ap, ◌∙◌}
use mathlib.Core.List.{List, [], ◌∷◌, ◌++◌, map}
use lib.Ieee.{Float}
use lib.ListN.{length, take, drop, length-map}
use lib.Seq.{length-take-le}
use Rattle.lists.specs.Lists.{put}
use Rattle.lists.proofs.Loops.{part_least}
use Rattle.ieee.specs.Narrow.{narrowed}
use Rattle.float_c.specs.Narrows.{narrowed_all}

map-take : (n : ℕ) (xs : List Float) → map narrowed (take n xs) ≡ take n (map narrowed xs)
map-take zero xs = refl
map-take (suc n) [] = refl
map-take (suc n) (x ∷ xs) = ap (λ (l : List Float). narrowed x ∷ l) (map-take n xs)

pub all-put : (xs out : List Float) → put out 0 (map narrowed (take (length out) xs)) ≡ narrowed_all xs out
unfolding put
all-put xs out =
    let n : ℕ = min (length xs) (length out) in
    let z : n - 0 ≡ n = omega arith in
    let l : 0 + length (map narrowed (take n xs)) ≡ n = omega (arith, length-map (take n xs) narrowed, length-take-le n xs (omega arith)) in
    rw (← part_least xs (length out) n refl, z) (ap (λ (k : ℕ). map narrowed (take n xs) ++ drop k out) l ∙ ap (λ (y : List Float). y ++ drop n out) (map-take n xs))
