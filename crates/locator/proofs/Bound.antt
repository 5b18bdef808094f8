-- A vertex of a mesh is in at most 15 faces: the two other vertices of each are neighbours of it, and there are at most 15 pairs of these.
use mathlib.Core.Path.{◌≡◌, refl, sym, ap, ◌∙◌}
use mathlib.Core.Bool.{Bool, true, false, cond, ◌&&◌, ◌||◌, and-eq-true_iff}
use mathlib.Core.List.{[], ◌∷◌}
use mathlib.Core.Logic.{⊎_elim}
use Prim.Native.Nat.{ℕ, zero, suc, ◌+◌, ◌*◌, ◌/◌, ◌%◌, ◌≤◌, ◌<◌}
use native.Mathlib.Nat.{mul-le-mul_right, eq-or-lt_of_le, le_of_suc-le-suc, not-suc-le-zero}
use native.Mathlib.Omega.{arith}
use lib.ListN.{length}
use lib.Dec.{ltb, eqb}
use borrow.Author.Tests.{eq-eqb, ne_eqb, lt-ltb, le-ltb, eqb-true, ltb-true}
use Rattle.lists.specs.Lists.{joined, any_up_to, sum}
use Rattle.mesh.specs.Mesh.{Mesh, degree, neighbour, within, lists}
use Rattle.mesh.specs.Faces.{face, is_face, has}
use Rattle.mesh.specs.declared.Face.{Face}
use Rattle.lists.proofs.Sums.{one, count, sum_eq, sum_le, sum-add, sum_const, sum-grid, sum-mul, sum-none}
use Rattle.lists.proofs.Written.{length-joined}
use Rattle.search.specs.Cells.{faces_of}
use Rattle.locator.specs.Internal.{wanted, touches, block}
use Rattle.locator.proofs.Blocks.{piece, block_is, faces_of_is}

-- what the mesh rule says of the lists
pub record Rule (n : ℕ) (l : Mesh) : Type 0 where
  pub six : (v : ℕ) → v < n → degree l v ≤ 6
  pub inside : (v k : ℕ) → v < n → k < degree l v → neighbour l v k < n
  pub once : (v j k : ℕ) → v < n → j < k → k < degree l v → neighbour l v j ≡ neighbour l v k → ⊥
  pub back : (v k : ℕ) → v < n → k < degree l v → lists l (neighbour l v k) v ≡ true

-- ---- sums

-- of all w, only a counts
sum_pick : (n a : ℕ) (f : ℕ → ℕ) → a < n → sum n (λ w. one (eqb a w) * f w) ≡ f a
unfolding sum
sum_pick zero a f h = absurd (not-suc-le-zero h)
sum_pick (suc n) a f h = ⊎_elim here (λ k. there (sum_pick n a f k) k) (eq-or-lt_of_le (le_of_suc-le-suc h))
  where
    none : (k : ℕ) → k ≤ a → sum k (λ w. one (eqb a w) * f w) ≡ 0
    none zero l = refl
    none (suc k) l = let e : eqb a k ≡ false = ne_eqb a k (λ q. absurd (omega arith)) in rw e (omega (arith, none k (omega arith)))

    here : a ≡ n → sum n (λ w. one (eqb a w) * f w) + one (eqb a n) * f n ≡ f a
    here e = rw (eq-eqb a n e) (omega (arith, none n (omega arith), ap f e))

    there : sum n (λ w. one (eqb a w) * f w) ≡ f a → a < n → sum n (λ w. one (eqb a w) * f w) + one (eqb a n) * f n ≡ f a
    there p k = let e : eqb a n ≡ false = ne_eqb a n (λ q. absurd (omega arith)) in rw e (omega arith)

any_false : (d : ℕ) (p : ℕ → Bool) → ((x : ℕ) → x < d → p x ≡ false) → any_up_to d p ≡ false
unfolding any_up_to
any_false zero p h = refl
any_false (suc d) p h = rw (any_false d p (λ x l. h x (omega arith)), h d (omega arith))

pub any_where : (d : ℕ) (p : ℕ → Bool) → any_up_to d p ≡ true → (x : ℕ) × (x < d) × (p x ≡ true)
unfolding any_up_to
any_where zero p e = absurd (let z : ◌≡◌ {A = ℕ} 0 1 = ap (λ (t : Bool). cond t 1 0) e in omega arith)
any_where (suc d) p e = by (any_up_to d p) refl e (λ q. any_where d p q)
  where
    by : (t : Bool) → any_up_to d p ≡ t → t || p d ≡ true → (any_up_to d p ≡ true → (x : ℕ) × (x < d) × (p x ≡ true)) → (x : ℕ) × (x < suc d) × (p x ≡ true)
    by true q h r = let w = r q in (w.0, omega (arith, w.1), w.2)
    by false q h r = (d, omega arith, h)

-- a sum over the places of a list of distinct numbers is one over the numbers
spread : (n d : ℕ) (e f : ℕ → ℕ) → ((x : ℕ) → x < d → e x < n) → ((j k : ℕ) → j < k → k < d → e j ≡ e k → ⊥)
    → sum d (λ x. f (e x)) ≡ sum n (λ w. one (any_up_to d (λ x. eqb (e x) w)) * f w)
unfolding sum any_up_to
spread n zero e f h u = sym (sum-none n (λ w. 0 * f w) (λ w. omega arith))
spread n (suc d) e f h u =
    omega (
      arith,
      spread n d e f (λ x l. h x (omega arith)) (λ j k l m. u j k l (omega arith)),
      sum_pick n (e d) f (h d (omega arith)),
      sum-add n (λ w. one (any_up_to d (λ x. eqb (e x) w)) * f w) (λ w. one (eqb (e d) w) * f w),
      sum_eq n (λ w. one (any_up_to d (λ x. eqb (e x) w)) * f w + one (eqb (e d) w) * f w) (λ w. one (any_up_to d (λ x. eqb (e x) w) || eqb (e d) w) * f w) (λ w l. split w),
    )
  where
    split : (w : ℕ) → one (any_up_to d (λ x. eqb (e x) w)) * f w + one (eqb (e d) w) * f w ≡ one (any_up_to d (λ x. eqb (e x) w) || eqb (e d) w) * f w
    split w = by (eqb (e d) w) (any_up_to d (λ x. eqb (e x) w)) refl refl
      where
        by : (t s : Bool) → eqb (e d) w ≡ t → any_up_to d (λ x. eqb (e x) w) ≡ s → one s * f w + one t * f w ≡ one (s || t) * f w
        by false true p q = omega arith
        by false false p q = omega arith
        by true false p q = omega arith
        by true true p q =
            let no : any_up_to d (λ x. eqb (e x) w) ≡ false = any_false d (λ x. eqb (e x) w) (λ x l. ne_eqb (e x) w (λ z. u x d l (omega arith) (z ∙ sym (eqb-true (e d) w p)))) in
            absurd (let z : ◌≡◌ {A = ℕ} 0 1 = ap (λ (t : Bool). cond t 1 0) (sym no ∙ q) in omega arith)

-- pairs a < b of numbers that β holds of: c (c - 1) / 2
pairs : (n : ℕ) (β : ℕ → Bool) → 2 * sum n (λ a. sum n (λ b. one (ltb a b && (β a && β b)))) + count n β ≡ count n β * count n β
unfolding sum
pairs zero β = refl
pairs (suc n) β =
    omega (
      arith,
      pairs n β,
      sum-add n (λ a. sum n (λ b. one (ltb a b && (β a && β b)))) (λ a. one (ltb a n && (β a && β n))),
      sum_eq n (λ a. one (ltb a n && (β a && β n))) (λ a. one (β a) * one (β n)) (λ a l. below a l),
      sum-mul n (one (β n)) (λ a. one (β a)),
      above n (omega arith),
      last,
      square,
    )
  where
    both : (s t : Bool) → one (s && t) ≡ one s * one t
    both true t = omega arith
    both false t = omega arith

    below : (a : ℕ) → a < n → one (ltb a n && (β a && β n)) ≡ one (β a) * one (β n)
    below a l = rw (lt-ltb a n l) (both (β a) (β n))

    above : (k : ℕ) → k ≤ n → sum k (λ b. one (ltb n b && (β n && β b))) ≡ 0
    above zero l = refl
    above (suc k) l = let e : ltb n k ≡ false = le-ltb n k (omega arith) in rw e (omega (arith, above k (omega arith)))

    last : one (ltb n n && (β n && β n)) ≡ 0
    last = let e : ltb n n ≡ false = le-ltb n n (omega arith) in rw e

    square : (count n β + one (β n)) * (count n β + one (β n)) ≡ count n β * count n β + 2 * (count n β * one (β n)) + one (β n)
    square = by (β n)
      where
        by : (t : Bool) → (count n β + one t) * (count n β + one t) ≡ count n β * count n β + 2 * (count n β * one t) + one t
        by true = omega arith
        by false = omega arith

sum_scale : (n k : ℕ) (f : ℕ → ℕ) → sum n (λ i. k * f i) ≡ k * sum n f
unfolding sum
sum_scale zero k f = omega arith
sum_scale (suc n) k f = let h : k * (sum n f + f n) ≡ k * sum n f + k * f n = omega arith in omega (arith, sum_scale n k f, h)

-- a sum over triples in which v is one of the three
module _ (n v : ℕ) (hv : v < n) (a : ℕ → ℕ → ℕ) (b : ℕ → ℕ → ℕ → ℕ) (q1 q2 q3 : ℕ → ℕ → ℕ)
    (h : (i j k : ℕ) → i < n → j < n → k < n → a i j * b i j k ≤ one (eqb v i) * q1 j k + one (eqb v j) * q2 i k + one (eqb v k) * q3 i j) where
  inner : (i j : ℕ) → i < n → j < n → a i j * sum n (b i j) ≤ one (eqb v i) * sum n (q1 j) + one (eqb v j) * sum n (q2 i) + q3 i j
  inner i j li lj =
      omega (
        arith,
        sum_scale n (a i j) (b i j),
        sum_le n (λ k. a i j * b i j k) (λ k. one (eqb v i) * q1 j k + one (eqb v j) * q2 i k + one (eqb v k) * q3 i j) (λ k lk. h i j k li lj lk),
        sum-add n (λ k. one (eqb v i) * q1 j k + one (eqb v j) * q2 i k) (λ k. one (eqb v k) * q3 i j),
        sum-add n (λ k. one (eqb v i) * q1 j k) (λ k. one (eqb v j) * q2 i k),
        sum_scale n (one (eqb v i)) (q1 j),
        sum_scale n (one (eqb v j)) (q2 i),
        sum_pick n v (λ k. q3 i j) hv,
      )

  middle : (i : ℕ) → i < n → sum n (λ j. a i j * sum n (b i j)) ≤ one (eqb v i) * sum n (λ j. sum n (q1 j)) + sum n (q2 i) + sum n (q3 i)
  middle i li =
      omega (
        arith,
        sum_le n (λ j. a i j * sum n (b i j)) (λ j. one (eqb v i) * sum n (q1 j) + one (eqb v j) * sum n (q2 i) + q3 i j) (λ j lj. inner i j li lj),
        sum-add n (λ j. one (eqb v i) * sum n (q1 j) + one (eqb v j) * sum n (q2 i)) (λ j. q3 i j),
        sum-add n (λ j. one (eqb v i) * sum n (q1 j)) (λ j. one (eqb v j) * sum n (q2 i)),
        sum_scale n (one (eqb v i)) (λ j. sum n (q1 j)),
        sum_pick n v (λ j. sum n (q2 i)) hv,
      )

  triples : sum n (λ i. sum n (λ j. a i j * sum n (b i j))) ≤ sum n (λ j. sum n (q1 j)) + sum n (λ i. sum n (q2 i)) + sum n (λ i. sum n (q3 i))
  triples =
      omega (
        arith,
        sum_le n (λ i. sum n (λ j. a i j * sum n (b i j))) (λ i. one (eqb v i) * sum n (λ j. sum n (q1 j)) + sum n (q2 i) + sum n (q3 i)) (λ i li. middle i li),
        sum-add n (λ i. one (eqb v i) * sum n (λ j. sum n (q1 j)) + sum n (q2 i)) (λ i. sum n (q3 i)),
        sum-add n (λ i. one (eqb v i) * sum n (λ j. sum n (q1 j))) (λ i. sum n (q2 i)),
        sum_pick n v (λ i. sum n (λ j. sum n (q1 j))) hv,
      )

-- ---- faces

module _ {n : ℕ} {l : Mesh} (r : Rule n l) where
  -- neighbours of each other
  pub mutual' : (v w : ℕ) → v < n → lists l v w ≡ true → lists l w v ≡ true
  unfolding lists within
  mutual' v w h e =
      let x = any_where (degree l v) (λ j. eqb (neighbour l v j) w) e in
      rw (← eqb-true (neighbour l v x.0) w x.2) (r.back v x.0 h x.1)

  -- a sum over v's places is one over v's neighbours
  around : (v : ℕ) (f : ℕ → ℕ) → v < n → sum (degree l v) (λ x. f (neighbour l v x)) ≡ sum n (λ w. one (lists l v w) * f w)
  unfolding lists within
  around v f h = spread n (degree l v) (neighbour l v) f (λ x lx. r.inside v x h lx) (λ j k lj lk. r.once v j k h lj lk)

  few : (v : ℕ) → v < n → count n (lists l v) ≤ 6
  few v h =
      omega (
        arith,
        r.six v h,
        around v (λ w. 1) h,
        sum_const (degree l v) 1,
        sum_eq n (λ w. one (lists l v w) * 1) (λ w. one (lists l v w)) (λ w lw. omega arith),
      )

  -- pairs of v's neighbours
  pairs_of : (v : ℕ) → v < n → sum n (λ a. sum n (λ b. one (ltb a b && (lists l v a && lists l v b)))) ≤ 15
  pairs_of v h =
      let c = count n (lists l v) in
      omega (arith, pairs n (lists l v), few v h, mul-le-mul_right {m = c} {n = 6} c (few v h))

  -- a pair of v's neighbours, and where it lies to v
  pair_b : ℕ → ℕ → ℕ → Bool
  pair_b v a b = ltb a b && (lists l v a && lists l v b)

  q1 : ℕ → ℕ → ℕ → ℕ
  q1 v a b = one (ltb v a && pair_b v a b)

  q2 : ℕ → ℕ → ℕ → ℕ
  q2 v a b = one (ltb a v && ltb v b && pair_b v a b)

  q3 : ℕ → ℕ → ℕ → ℕ
  q3 v a b = one (ltb b v && pair_b v a b)

  apart : (v a b : ℕ) → q1 v a b + q2 v a b + q3 v a b ≤ one (pair_b v a b)
  unfolding q1 q2 q3 pair_b
  apart v a b = by (ltb v a) (ltb a v) (ltb v b) (ltb b v) (ltb a b) (lists l v a && lists l v b) refl refl refl refl refl
    where
      by : (s t x y z p : Bool) → ltb v a ≡ s → ltb a v ≡ t → ltb v b ≡ x → ltb b v ≡ y → ltb a b ≡ z
          → one (s && (z && p)) + one (t && x && (z && p)) + one (y && (z && p)) ≤ one (z && p)
      by s t x y false p e1 e2 e3 e4 e5 = zeros s t x y
        where
          zeros : (s t x y : Bool) → one (s && false) + one (t && x && false) + one (y && false) ≤ 0
          zeros s t x y = omega (arith, z1 s, z1 (t && x), z1 y)
            where
              z1 : (s : Bool) → one (s && false) ≡ 0
              z1 true = refl
              z1 false = refl
      by s t x y true false e1 e2 e3 e4 e5 = omega (arith, z1 s, z1 (t && x), z1 y)
        where
          z1 : (s : Bool) → one (s && false) ≡ 0
          z1 true = refl
          z1 false = refl
      by true true x y true true e1 e2 e3 e4 e5 = absurd (omega (arith, ltb-true v a e1, ltb-true a v e2))
      by true false x true true true e1 e2 e3 e4 e5 = absurd (omega (arith, ltb-true v a e1, ltb-true b v e4, ltb-true a b e5))
      by true false x false true true e1 e2 e3 e4 e5 = omega arith
      by false t true true true true e1 e2 e3 e4 e5 = absurd (omega (arith, ltb-true v b e3, ltb-true b v e4))
      by false true true false true true e1 e2 e3 e4 e5 = omega arith
      by false false true false true true e1 e2 e3 e4 e5 = omega arith
      by false true false true true true e1 e2 e3 e4 e5 = omega arith
      by false true false false true true e1 e2 e3 e4 e5 = omega arith
      by false false false true true true e1 e2 e3 e4 e5 = omega arith
      by false false false false true true e1 e2 e3 e4 e5 = omega arith

  -- a face with v in it is a pair of v's neighbours
  claim : (v i j k : ℕ) → i < n → j < n → k < n
      → one (lists l i j) * (one (lists l i k) * one (wanted l i j k v)) ≤ one (eqb v i) * q1 v j k + one (eqb v j) * q2 v i k + one (eqb v k) * q3 v i j
  unfolding wanted is_face has q1 q2 q3 pair_b
  claim v i j k hi hj hk = by (lists l i j) (lists l i k) (wanted l i j k v) refl refl refl
    where
      goal : ℕ → Type 0
      goal x = x ≤ one (eqb v i) * q1 v j k + one (eqb v j) * q2 v i k + one (eqb v k) * q3 v i j

      one' : lists l i j ≡ true → lists l i k ≡ true → ltb i j ≡ true → ltb j k ≡ true → lists l j k ≡ true
          → (s t x : Bool) → eqb i v ≡ s → eqb j v ≡ t → eqb k v ≡ x → s || (t || x) ≡ true → goal 1
      one' e1 e2 e3 e4 e5 true t x p q u h =
          let e = eqb-true i v p in
          let f : eqb v i ≡ true = eq-eqb v i (sym e) in
          let g : ltb v j && (ltb j k && (lists l v j && lists l v k)) ≡ true = rw (← e, e3, e4, e1, e2) in
          rw (f, g) (omega arith)
      one' e1 e2 e3 e4 e5 false true x p q u h =
          let e = eqb-true j v q in
          let f : eqb v j ≡ true = eq-eqb v j (sym e) in
          let m : lists l j i ≡ true = mutual' i j hi e1 in
          let o : ltb i k ≡ true = lt-ltb i k (omega (arith, ltb-true i j e3, ltb-true j k e4)) in
          let g : ltb i v && ltb v k && (ltb i k && (lists l v i && lists l v k)) ≡ true = rw (← e, e3, e4, o, m, e5) in
          rw (f, g) (omega arith)
      one' e1 e2 e3 e4 e5 false false true p q u h =
          let e = eqb-true k v u in
          let f : eqb v k ≡ true = eq-eqb v k (sym e) in
          let m : lists l k i ≡ true = mutual' i k hi e2 in
          let o : lists l k j ≡ true = mutual' j k hj e5 in
          let g : ltb j v && (ltb i j && (lists l v i && lists l v j)) ≡ true = rw (← e, e4, e3, m, o) in
          rw (f, g) (omega arith)
      one' e1 e2 e3 e4 e5 false false false p q u h = absurd (let z : ◌≡◌ {A = ℕ} 0 1 = ap (λ (t : Bool). cond t 1 0) h in omega arith)

      by : (s t w : Bool) → lists l i j ≡ s → lists l i k ≡ t → wanted l i j k v ≡ w → goal (one s * (one t * one w))
      by false t w p q u = omega arith
      by true false w p q u = omega arith
      by true true false p q u = omega arith
      by true true true p q u =
          let a = (and-eq-true_iff (is_face l i j k) (has v (face i j k))).0 u in
          let b = (and-eq-true_iff (ltb i j) (ltb j k && lists l j k)).0 a.0 in
          let d = (and-eq-true_iff (ltb j k) (lists l j k)).0 b.1 in
          one' p q b.0 d.0 d.1 (eqb i v) (eqb j v) (eqb k v) refl refl refl a.1

  length-block : (v i : ℕ) → length (block l v i) ≡ sum (degree l i) (λ x. sum (degree l i) (λ y. one (wanted l i (neighbour l i x) (neighbour l i y) v)))
  unfolding sum
  length-block v i =
      ap length (block_is l v i) ∙ length-joined (degree l i * degree l i) (piece l v i)
      ∙ sum_eq (degree l i * degree l i) (λ q. length (piece l v i q)) (λ q. one (wanted l i (neighbour l i (q / degree l i)) (neighbour l i (q % degree l i)) v))
      (λ q lq. single (wanted l i (neighbour l i (q / degree l i)) (neighbour l i (q % degree l i)) v) _)
      ∙ grid (degree l i)
    where
      single : (b : Bool) (f : Face) → length (cond b (f ∷ []) []) ≡ one b
      single true f = refl
      single false f = refl

      grid : (d : ℕ) → sum (d * d) (λ q. one (wanted l i (neighbour l i (q / d)) (neighbour l i (q % d)) v)) ≡ sum d (λ x. sum d (λ y. one (wanted l i (neighbour l i x) (neighbour l i y) v)))
      grid zero = refl
      grid (suc d) = sum-grid (suc d) (suc d) (λ x y. one (wanted l i (neighbour l i x) (neighbour l i y) v)) (omega arith)

  length-faces : (v : ℕ) → length (faces_of l n v)
      ≡ sum n (λ i. sum n (λ j. one (lists l i j) * sum n (λ k. one (lists l i k) * one (wanted l i j k v))))
  length-faces v =
      ap length (faces_of_is l n v) ∙ length-joined n (block l v)
      ∙ sum_eq n (λ i. length (block l v i)) (λ i. sum n (λ j. one (lists l i j) * sum n (λ k. one (lists l i k) * one (wanted l i j k v))))
      (λ i li. length-block v i
      ∙ sum_eq (degree l i) (λ x. sum (degree l i) (λ y. one (wanted l i (neighbour l i x) (neighbour l i y) v)))
      (λ x. sum n (λ k. one (lists l i k) * one (wanted l i (neighbour l i x) k v)))
      (λ x lx. around i (λ k. one (wanted l i (neighbour l i x) k v)) li)
      ∙ around i (λ j. sum n (λ k. one (lists l i k) * one (wanted l i j k v))) li)

  pub fifteen : (v : ℕ) → v < n → length (faces_of l n v) ≤ 15
  unfolding pair_b
  fifteen v h =
      omega (
        arith,
        length-faces v,
        pairs_of v h,
        triples n v h (λ i j. one (lists l i j)) (λ i j k. one (lists l i k) * one (wanted l i j k v)) (q1 v) (q2 v) (q3 v) (λ i j k hi hj hk. claim v i j k hi hj hk),
        sum-add n (λ a. sum n (q1 v a)) (λ a. sum n (q2 v a)),
        sum-add n (λ a. sum n (q1 v a) + sum n (q2 v a)) (λ a. sum n (q3 v a)),
        sum_le n (λ a. sum n (q1 v a) + sum n (q2 v a) + sum n (q3 v a)) (λ a. sum n (λ b. one (pair_b v a b)))
            (λ a la. omega (
              arith,
              sum-add n (q1 v a) (q2 v a),
              sum-add n (λ b. q1 v a b + q2 v a b) (q3 v a),
              sum_le n (λ b. q1 v a b + q2 v a b + q3 v a b) (λ b. one (pair_b v a b)) (λ b lb. apart v a b),
            )),
      )

  -- so the faces of n vertices fill at most 45 n places
  pub room : 3 * length (joined n (faces_of l n)) ≤ 45 * n
  room = omega (arith, length-joined n (faces_of l n), sum_le n (λ v. length (faces_of l n v)) (λ v. 15) (λ v h. fifteen v h), sum_const n 15)

-- a vertex that none of v's neighbours is, and that is not v, does not touch v
pub untouching : (l : Mesh) (n v i : ℕ) → ((v w : ℕ) → v < n → lists l v w ≡ true → lists l w v ≡ true) → i < n → (i ≡ v → ⊥)
    → ((k : ℕ) → k < degree l v → neighbour l v k ≡ i → ⊥) → touches l i v ≡ false
unfolding touches lists within
untouching l n v i back hi nv none = rw (ne_eqb i v nv) (by (lists l i v) refl)
  where
    by : (t : Bool) → lists l i v ≡ t → lists l i v ≡ false
    by false e = e
    by true e =
        let x = any_where (degree l v) (λ j. eqb (neighbour l v j) i) (back i v hi e) in
        absurd (none x.0 x.1 (eqb-true (neighbour l v x.0) i x.2))
