-- The gradient along columns and rows is that of `compute_gradient`. Assumes nothing.
use Rattle.std.proofs.Common.{◌≡◌, ℕ, zero as none, suc, ◌+◌, ◌*◌, ◌<◌, ◌≤◌, Bool, true, false, cond, T, eqb, ◌⊎◌, List, [], ◌∷◌, map, get_or, take, sym, refl, ap, ◌∙◌, inl, inr, true≢false, mul_comm, add_comm, one-mul, arith, length-take, get_or-take, le-ltb, lt-ltb}
use Rattle.lists.proofs.Counting.{chosen}
use lib.ListN.{length-map, get_or-eq_default}
use lib.Ieee.{Float, nan, inf, fin, binary64, up, down, round, of_bits, neg, sub, mul, div, lt, is_nan}
use lib.Ieee.Fits.{div-fits}
use Rattle.ieee.proofs.Pack.{le_or_lt}
use Rattle.float.specs.Order.{magnitude}
use Rattle.float.specs.Exp.{exponential}
use Rattle.lists.specs.Lists.{for_each}
use Rattle.mesh.specs.Mesh.{Mesh, degree, neighbour, angle_to, mesh_of}
use Rattle.float.proofs.Order.{clear, round_clear}
use Rattle.settling.specs.Gradient.{zero, weight, steeper, along_neighbours, pair_weight, gradient_of, gradient, atom_gradient}
use Rattle.settling.specs.Internal.{line_weights, line_gradient, lines_gradient}
use Rattle.settling.proofs.Largest.{Slope, larger_swap}
use Rattle.settling.proofs.Orders.{Commute, loops_commute, each_split, each_swap, each_same}
use Rattle.settling.proofs.Lines.{length_line, line_at}

-- ---- what a step of the gradient is is a slope

-- the least angle that is not passed over
abbrev least : Float
least = of_bits binary64 0x3D71_9799_812D_EA11

quotient_clear : (z angle : Float) → lt least angle ≡ true → T (clear (div binary64 (magnitude z) angle))
unfolding lt of_bits div magnitude
quotient_clear nan angle h = tt
quotient_clear (inf s) nan h = tt
quotient_clear (inf s) (inf t) h = tt
quotient_clear (inf s) (fin true n d) h = absurd (true≢false (sym h))
quotient_clear (inf s) (fin false n d) h = tt
quotient_clear (fin s m e) nan h = tt
quotient_clear (fin s m e) (inf true) h = absurd (true≢false (sym h))
quotient_clear (fin s m e) (inf false) h = tt
quotient_clear (fin s m e) (fin true n d) h = absurd (true≢false (sym h))
quotient_clear (fin s m e) (fin false n d) h =
    let P : Float → Type 0 = λ x. T (clear x) in
    chosen P (eqb n 0) (cond (eqb m 0) nan (inf false)) (round binary64 false (m * up e * down d) (n * up d * down e))
    (λ _. chosen P (eqb m 0) nan (inf false) (λ _. tt) tt)
    (round_clear binary64 (m * up e * down d) (n * up d * down e))

slope : (z angle : Float) → lt least angle ≡ true → Slope (div binary64 (magnitude z) angle)
slope z angle h = record { held = div-fits binary64 (magnitude z) angle; clear = quotient_clear z angle h }

-- ---- steps commute, and so do loops of them

steeper_by : (x y a u v b : Float) (p q : Bool) → lt least a ≡ p → lt least b ≡ q → Commute (steeper x y a) (steeper u v b)
unfolding steeper
steeper_by x y a u v b true true p q s = rw (p, q) (larger_swap s (div binary64 (magnitude (sub binary64 u v)) b) (div binary64 (magnitude (sub binary64 x y)) a) (slope (sub binary64 u v) b q) (slope (sub binary64 x y) a p))
steeper_by x y a u v b true false p q s = rw (p, q)
steeper_by x y a u v b false true p q s = rw (p, q)
steeper_by x y a u v b false false p q s = rw (p, q)

steeper_commutes : (x y a u v b : Float) → Commute (steeper x y a) (steeper u v b)
steeper_commutes x y a u v b = steeper_by x y a u v b (lt least a) (lt least b) refl refl

along_commutes : (m : Mesh) (v w : ℕ) (f g : ℕ → Float) (x y : Float) → Commute (along_neighbours m v f x) (along_neighbours m w g y)
unfolding along_neighbours
along_commutes m v w f g x y =
    loops_commute (degree m v) (degree m w) (λ k h. steeper x (f (neighbour m v k)) (angle_to m v k) h) (λ k h. steeper y (g (neighbour m w k)) (angle_to m w k) h)
    (λ j k. steeper_commutes x (f (neighbour m v j)) (angle_to m v j) y (g (neighbour m w k)) (angle_to m w k))

-- weights that agree at the neighbours
along_same : (m : Mesh) (v : ℕ) (f g : ℕ → Float) (x y : Float) → ((k : ℕ) → k < degree m v → f (neighbour m v k) ≡ g (neighbour m v k)) → x ≡ y → (s : Float)
    → along_neighbours m v f x s ≡ along_neighbours m v g y s
unfolding along_neighbours
along_same m v f g x y h e s =
    each_same (degree m v) (λ k t. steeper x (f (neighbour m v k)) (angle_to m v k) t) (λ k t. steeper y (g (neighbour m v k)) (angle_to m v k) t)
    (λ k t l. rw (h k l, e)) s

-- ---- the gradient by lines

map_at : {A B : Type 0} (f : A → B) (l : List A) (i : ℕ) (x : A) → get_or (map f l) i (f x) ≡ f (get_or l i x)
map_at f [] i x = refl
map_at f (a ∷ l) none x = refl
map_at f (a ∷ l) (suc i) x = map_at f l i x

weight-none : (beta : Float) → weight beta nan ≡ nan
unfolding weight exponential mul is_nan
weight-none beta = by (neg beta)
  where
    by : (b : Float) → exponential (mul binary64 b nan) ≡ nan
    by nan = refl
    by (inf s) = refl
    by (fin s k d) = refl

module _ (m : Mesh) (n : ℕ) (beta : Float) (e : List Float) where
  at : ℕ → ℕ → Float
  at = pair_weight n (map (weight beta) e)

  -- the turns of `compute_gradient`: the neighbours of the first vertex, and those of the second
  first : ℕ → ℕ → Float → Float
  first i j = along_neighbours m i (λ k. at k j) (at i j)

  second : ℕ → ℕ → Float → Float
  second i j = along_neighbours m j (λ k. at i k) (at i j)

  by_parts : gradient m n beta e ≡ for_each n (λ i. for_each n (second i)) (for_each n (λ j. for_each n (λ i. first i j)) zero)
  unfolding gradient gradient_of first second at
  by_parts =
      each_same n (λ i. for_each n (λ j g. second i j (first i j g))) (λ i g. for_each n (second i) (for_each n (first i) g))
      (λ i s l. each_split n (second i) (first i) (λ j k. along_commutes m j i (λ t. at i t) (λ t. at t k) (at i j) (at i k)) s) zero
      ∙ each_split n (λ i. for_each n (second i)) (λ i. for_each n (first i))
      (λ i k. loops_commute n n (second i) (first k) (λ j l. along_commutes m j k (λ t. at i t) (λ t. at t l) (at i j) (at k l))) zero
      ∙ ap (for_each n (λ i. for_each n (second i)))
      (each_swap n n first (λ i j k l. along_commutes m i k (λ t. at t j) (λ t. at t l) (at i j) (at k l)) zero)

  -- an entry of the slab, and where it stands in a line; beyond a line's end there is no vertex
  entry : (i j k : ℕ) → i < n → j < n → k ≡ i * n + j → weight beta (get_or e k nan) ≡ at i j
  unfolding at pair_weight
  entry i j k hi hj q = rw (q, lt-ltb i n hi, lt-ltb j n hj) (sym (rw (weight-none beta) at (map_at (weight beta) e (i * n + j) nan)))

  past : (from step k : ℕ) → n ≤ k → get_or (line_weights beta e from step n) k nan ≡ nan
  past from step k h = get_or-eq_default (line_weights beta e from step n) nan (omega (arith, length_line (weight beta) e from step n))

  in_row : (i j : ℕ) → i < n → get_or (line_weights beta e (n * i) 1 n) j nan ≡ at i j
  unfolding at pair_weight
  in_row i j hi = by (le_or_lt n j)
    where
      by : (n ≤ j) ⊎ (j < n) → get_or (line_weights beta e (n * i) 1 n) j nan ≡ at i j
      by (inl h) = past (n * i) 1 j h ∙ rw (lt-ltb i n hi, le-ltb j n h)
      by (inr h) = line_at (weight beta) e (n * i) 1 n j h ∙ entry i j (n * i + 1 * j) hi h (simp (mul_comm, one-mul))

  in_column_lem : (i j : ℕ) → j < n → get_or (line_weights beta e (1 * j) n n) i nan ≡ at i j
  unfolding at pair_weight
  in_column_lem i j hj = by (le_or_lt n i)
    where
      by : (n ≤ i) ⊎ (i < n) → get_or (line_weights beta e (1 * j) n n) i nan ≡ at i j
      by (inl h) = past (1 * j) n i h ∙ rw (le-ltb i n h)
      by (inr h) = line_at (weight beta) e (1 * j) n n i h ∙ entry i j (1 * j + n * i) h hj (simp (mul_comm, one-mul, add_comm))

  rows : (s : Float) → lines_gradient m n beta e n 1 s ≡ for_each n (λ i. for_each n (second i)) s
  unfolding lines_gradient line_gradient second
  rows s =
      each_same n (λ t. line_gradient m n (line_weights beta e (n * t) 1 n)) (λ i. for_each n (second i))
      (λ i t hi. each_same n (λ v. along_neighbours m v (λ k. get_or (line_weights beta e (n * i) 1 n) k nan) (get_or (line_weights beta e (n * i) 1 n) v nan)) (second i)
      (λ j u hj. along_same m j (λ k. get_or (line_weights beta e (n * i) 1 n) k nan) (λ k. at i k) (get_or (line_weights beta e (n * i) 1 n) j nan) (at i j)
      (λ k l. in_row i (neighbour m j k) hi) (in_row i j hi) u) t) s

  columns : (s : Float) → lines_gradient m n beta e 1 n s ≡ for_each n (λ j. for_each n (λ i. first i j)) s
  unfolding lines_gradient line_gradient first
  columns s =
      each_same n (λ t. line_gradient m n (line_weights beta e (1 * t) n n)) (λ j. for_each n (λ i. first i j))
      (λ j t hj. each_same n (λ v. along_neighbours m v (λ k. get_or (line_weights beta e (1 * j) n n) k nan) (get_or (line_weights beta e (1 * j) n n) v nan)) (λ i. first i j)
      (λ i u hi. along_same m i (λ k. get_or (line_weights beta e (1 * j) n n) k nan) (λ k. at k j) (get_or (line_weights beta e (1 * j) n n) i nan) (at i j)
      (λ k l. in_column_lem (neighbour m i k) j hj) (in_column_lem i j hj) u) t) s

  pub by_lines_lem : lines_gradient m n beta e n 1 (lines_gradient m n beta e 1 n zero) ≡ gradient m n beta e
  by_lines_lem = ap (lines_gradient m n beta e n 1) (columns zero) ∙ rows (for_each n (λ j. for_each n (λ i. first i j)) zero) ∙ sym by_parts

  -- ---- against an atom: one line, from the first place on

  in_line : (j : ℕ) → get_or (line_weights beta e 0 1 n) j nan ≡ get_or (map (weight beta) (take n e)) j nan
  in_line j = by (le_or_lt n j)
    where
      by : (n ≤ j) ⊎ (j < n) → get_or (line_weights beta e 0 1 n) j nan ≡ get_or (map (weight beta) (take n e)) j nan
      by (inl h) = past 0 1 j h ∙ sym (get_or-eq_default (map (weight beta) (take n e)) nan (omega (arith, length-map (take n e) (weight beta), length-take n e)))
      by (inr h) =
          let z : 0 + 1 * j ≡ j = omega arith in
          line_at (weight beta) e 0 1 n j h ∙ rw (z, ← get_or-take n e j nan h) (sym (rw (weight-none beta) at (map_at (weight beta) (take n e) j nan)))

  pub by_line : line_gradient m n (line_weights beta e 0 1 n) zero ≡ line_gradient m n (map (weight beta) (take n e)) zero
  unfolding line_gradient
  by_line =
      each_same n (λ v. along_neighbours m v (λ k. get_or (line_weights beta e 0 1 n) k nan) (get_or (line_weights beta e 0 1 n) v nan))
      (λ v. along_neighbours m v (λ k. get_or (map (weight beta) (take n e)) k nan) (get_or (map (weight beta) (take n e)) v nan))
      (λ j t h. along_same m j (λ k. get_or (line_weights beta e 0 1 n) k nan) (λ k. get_or (map (weight beta) (take n e)) k nan) (get_or (line_weights beta e 0 1 n) j nan) (get_or (map (weight beta) (take n e)) j nan)
      (λ k l. in_line (neighbour m j k)) (in_line j) t) zero

-- a gradient looks at the links alone
pub gradient-links : (m : Mesh) (n : ℕ) (beta : Float) (e : List Float)
    → gradient (mesh_of [] m.counts m.neighbours m.angles) n beta e ≡ gradient m n beta e
unfolding gradient gradient_of along_neighbours
gradient-links m n beta e = refl

pub atom_links : (m : Mesh) (n : ℕ) (beta : Float) (e : List Float)
    → atom_gradient (mesh_of [] m.counts m.neighbours m.angles) n beta e ≡ atom_gradient m n beta e
unfolding atom_gradient line_gradient along_neighbours
atom_links m n beta e = refl
