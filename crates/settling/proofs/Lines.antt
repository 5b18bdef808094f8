-- Lines of a slab: their weights, and the gradient along them. Assumes nothing.
use Rattle.std.proofs.Common.{◌≡◌, ℕ, zero, suc, ◌+◌, ◌-◌, ◌*◌, ◌<◌, ◌≤◌, ◌⊎◌, List, [], ◌∷◌, ◌++◌, map, length, get_or, take, drop, set, refl, ap, ◌∙◌, inl, inr, add-one, arith, length-append, length-take-le, take_at}
use mathlib.Core.List.{map-append}
use lib.ListN.{length-map, get_or-append}
use lib.Seq.{get_or_at}
use lib.Ieee.{Float, nan, binary64, mul, neg}
use Rattle.ieee.proofs.Pack.{le_or_lt}
use Rattle.mesh.specs.Mesh.{Mesh}
use Rattle.lists.specs.Lists.{put}
use Rattle.lists.proofs.Written.{put_push}
use Rattle.float.specs.Exp.{exponential}
use Rattle.settling.specs.Gradient.{weight}
use Rattle.settling.specs.Internal.{line_of, line_exponents, line_weights, line_gradient}

module _ (f : Float → Float) (e : List Float) (from step : ℕ) where
  pub length_line : (n : ℕ) → length (line_of f e from step n) ≡ n
  unfolding line_of
  length_line zero = refl
  length_line (suc n) = length-append (line_of f e from step n) (f (get_or e (from + step * n) nan) ∷ []) ∙ omega (arith, length_line n)

  -- one entry more
  pub line_turn : (d out : List Float) (i : ℕ) → out ≡ put d 0 (line_of f e from step i) → i < length d
      → set out i (f (get_or e (from + step * i) nan)) ≡ put d 0 (line_of f e from step (i + 1))
  unfolding line_of
  line_turn d out i q h =
      let n : 0 + length (line_of f e from step i) ≡ i = omega (arith, length_line i) in
      rw (q, add-one) (rw n at (put_push d 0 (line_of f e from step i) (f (get_or e (from + step * i) nan)) (omega (arith, n))))

  -- an entry of a line
  last_or : (n i : ℕ) → (i < n → get_or (line_of f e from step n) i nan ≡ f (get_or e (from + step * i) nan)) → i < suc n → (n ≤ i) ⊎ (i < n)
      → get_or (line_of f e from step n ++ (f (get_or e (from + step * n) nan) ∷ [])) i nan ≡ f (get_or e (from + step * i) nan)
  last_or n i r h (inl k) =
      let same : i ≡ n = omega arith in
      rw same (get_or_at (line_of f e from step n) (f (get_or e (from + step * n) nan)) [] nan n (length_line n))
  last_or n i r h (inr k) =
      get_or-append (line_of f e from step n) (f (get_or e (from + step * n) nan) ∷ []) nan i (omega (arith, length_line n)) ∙ r k

  pub line_at : (n i : ℕ) → i < n → get_or (line_of f e from step n) i nan ≡ f (get_or e (from + step * i) nan)
  unfolding line_of
  line_at zero i h = absurd (omega arith)
  line_at (suc n) i h = last_or n i (line_at n i) h (le_or_lt n i)

-- the first entries of an array that was written from its beginning
pub head_part : (d w l : List Float) (n : ℕ) → w ≡ put d 0 l → length l ≡ n → take n w ≡ l
unfolding put
head_part d w l n e h = rw e (take_at l (drop (0 + length l) d) n h)

-- the weights are E of the exponents
pub weights_are : (beta : Float) (e : List Float) (from step n : ℕ) → map exponential (line_exponents beta e from step n) ≡ line_weights beta e from step n
unfolding line_of weight
weights_are beta e from step zero = refl
weights_are beta e from step (suc n) = map-append exponential (line_exponents beta e from step n) _ ∙ rw (weights_are beta e from step n)

pub weighed_line : (m : Mesh) (beta : Float) (e : List Float) (from step n : ℕ) (g r : Float) (d w : List Float) → r ≡ line_gradient m n (map exponential (take n w)) g → w ≡ put d 0 (line_exponents beta e from step n)
    → r ≡ line_gradient m n (line_weights beta e from step n) g
weighed_line m beta e from step n g r d w h k =
    h ∙ ap (λ (l : List Float). line_gradient m n l g) (ap (map exponential) (head_part d w (line_exponents beta e from step n) n k (length_line (mul binary64 (neg beta)) e from step n)) ∙ weights_are beta e from step n)

-- the first n entries, after E was put in their places
pub weighed_part : (w p rest : List Float) (n : ℕ) → p ≡ map exponential (take (n - 0) w) → n ≤ length w → take (n - 0) (p ++ rest) ≡ map exponential (take n w)
weighed_part w p rest n e h =
    let z : n - 0 ≡ n = omega arith in
    let e' : p ≡ map exponential (take n w) = rw z at e in
    rw (z, e') (take_at (map exponential (take n w)) rest n (length-map (take n w) exponential ∙ length-take-le n w h))
