-- A key says what its cell numbers say.
use mathlib.Core.Path.{◌≡◌, refl, sym, ◌∙◌}
use mathlib.Core.Bool.{Bool, true, false, cond, not, ◌&&◌, true≢false}
use mathlib.Core.List.{List, [], ◌∷◌}
use Prim.Native.Nat.{ℕ, zero, suc, ◌+◌, ◌*◌, ◌/◌, ◌%◌, ◌≤◌, ◌<◌}
use native.Mathlib.Nat.{mod-lt, div-lt_iff_lt-mul, mul-pos, div-add-mod', div-eq_of_lt-le}
use native.Mathlib.Omega.{arith}
use lib.ListN.{length, get_or, set}
use lib.Seq.{get_or-set_same, get_or-set_other}
use lib.Dec.{leb, ltb}
use lib.IntN.{ℤ, pos, negsuc}
use lib.Signed.{le_z}
use lib.Ieee.{Float, le}
use borrow.Author.Count.{below_more}
use borrow.Author.Tests.{le-leb, lt-leb, leb-true, leb-false, ltb-true, ltb-false, ne_eqb}
use Rattle.lists.specs.Lists.{filter, below}
use Rattle.lists.proofs.Written.{filter-append}
use Rattle.search.specs.Geometry.{vertex_at, cube_face_project}
use Rattle.search.specs.Geometry as Geometry
use Rattle.search.specs.Cells.{near, cell_number, near_cell, in_cell, cell}
use Rattle.locator.specs.Internal.{kept, near_kept, key_of, vertex_key, Keyed}

pub kept_le : (c : ℤ) → kept c ≤ 65535
unfolding kept
kept_le (pos c) = by (ltb c 65533) refl
  where
    by : (t : Bool) → ltb c 65533 ≡ t → cond t (c + 2) 65535 ≤ 65535
    by true e = omega (arith, ltb-true c 65533 e)
    by false e = omega arith
kept_le (negsuc zero) = omega arith
kept_le (negsuc (suc c)) = omega arith

-- cell numbers below 0
pub kept-below : (m : ℕ) (t : Bool) → le_z (negsuc 0) (negsuc m) ≡ t → kept (negsuc m) ≡ cond t 1 0
unfolding kept
kept-below zero true e = refl
kept-below zero false e = absurd (true≢false e)
kept-below (suc m) true e = absurd (let z = leb-true (suc m) 0 e in omega arith)
kept-below (suc m) false e = refl

shifted : (c i : ℕ) → leb (i + 1) (c + 2) && leb (c + 2) (i + 3) ≡ leb c (i + 1) && leb i (c + 1)
shifted c i = by (leb c (i + 1)) (leb i (c + 1)) refl refl
  where
    by : (s t : Bool) → leb c (i + 1) ≡ s → leb i (c + 1) ≡ t → leb (i + 1) (c + 2) && leb (c + 2) (i + 3) ≡ s && t
    by true true p q = rw (le-leb (i + 1) (c + 2) (omega (arith, leb-true i (c + 1) q)), le-leb (c + 2) (i + 3) (omega (arith, leb-true c (i + 1) p)))
    by true false p q = rw (lt-leb (i + 1) (c + 2) (omega (arith, leb-false i (c + 1) q)))
    by false t p q = rw (lt-leb (c + 2) (i + 3) (omega (arith, leb-false c (i + 1) p))) (none (leb (i + 1) (c + 2)))
      where
        none : (b : Bool) → b && false ≡ false
        none true = refl
        none false = refl

pub near-kept : (c : ℤ) (i : ℕ) → i < 65500 → near_kept (kept c) i ≡ near c i
unfolding kept near_kept near
near-kept (pos c) i h = by (ltb c 65533) refl
  where
    by : (t : Bool) → ltb c 65533 ≡ t → leb (i + 1) (cond t (c + 2) 65535) && leb (cond t (c + 2) 65535) (i + 3) ≡ leb c (i + 1) && leb i (c + 1)
    by true e = shifted c i
    by false e =
        let l = ltb-false c 65533 e in
        rw (lt-leb 65535 (i + 3) (omega arith), le-leb (i + 1) 65535 (omega arith), lt-leb c (i + 1) (omega arith))
near-kept (negsuc zero) zero h = refl
near-kept (negsuc zero) (suc i) h = rw (lt-leb (suc i + 1) 1 (omega arith), ne_eqb (0 + suc i) 0 (λ e. absurd (omega arith)))
near-kept (negsuc (suc c)) i h = rw (lt-leb (i + 1) 0 (omega arith), ne_eqb (suc c + i) 0 (λ e. absurd (omega arith)))

none-near : (i : ℕ) → near_kept 0 i ≡ false
unfolding near_kept
none-near i = rw (lt-leb (i + 1) 0 (omega arith))

-- a key's two parts
parts : (u w : ℕ) → w ≤ 65535 → ((u * 65536 + w) / 65536 ≡ u) × ((u * 65536 + w) % 65536 ≡ w)
parts u w h = (omega arith, omega arith)

-- a key is near a row and a column where its cell numbers are
key_near : (g i j : ℕ) (u w d : Float) → i < 65500 → j < 65500
    → near_kept (key_of g u w d / 65536) i && near_kept (key_of g u w d % 65536) j ≡ not (le d Geometry.zero) && (near (cell_number g u d) i && near (cell_number g w d) j)
unfolding key_of
key_near g i j u w d hi hj = by (le d Geometry.zero)
  where
    by : (t : Bool) → (let k = cond t 0 (kept (cell_number g u d) * 65536 + kept (cell_number g w d)) in near_kept (k / 65536) i && near_kept (k % 65536) j)
        ≡ not t && (near (cell_number g u d) i && near (cell_number g w d) j)
    by true = rw (none-near i)
    by false =
        let p = parts (kept (cell_number g u d)) (kept (cell_number g w d)) (kept_le (cell_number g w d)) in
        rw (p.0, p.1, near-kept (cell_number g u d) i hi, near-kept (cell_number g w d) j hj)

pub filter_eq : (p q : ℕ → Bool) (n : ℕ) → ((v : ℕ) → v < n → p v ≡ q v) → filter p (below n) ≡ filter q (below n)
unfolding filter below
filter_eq p q zero h = refl
filter_eq p q (suc n) h =
    filter-append p (below n) (n ∷ []) ∙ rw (filter_eq p q n (λ v l. h v (omega arith)), h n (omega arith)) (sym (filter-append q (below n) (n ∷ [])))

-- where c's row and column are
pub spots : (g c : ℕ) → 0 < g → (c % (g * g) / g < g) × (c % (g * g) % g < g)
spots g c h =
    ((div-lt_iff_lt-mul {k = g} {x = c % (g * g)} {y = g} h).1 (mod-lt c {m = g * g} (mul-pos h h)), mod-lt (c % (g * g)) {m = g} h)

pub keyed_cell : (vs : List Float) (n g c : ℕ) (keys : List ℕ) → 0 < g → g < 65500 → Keyed vs n g (c / (g * g)) keys
    → filter (λ v. near_kept (get_or keys v 0 / 65536) (c % (g * g) / g) && near_kept (get_or keys v 0 % 65536) (c % (g * g) % g)) (below n) ≡ cell vs n g c
unfolding cell in_cell near_cell vertex_key
keyed_cell vs n g c keys h hg k =
    let x = spots g c h in
    let i = c % (g * g) / g in
    let j = c % (g * g) % g in
    filter_eq (λ v. near_kept (get_or keys v 0 / 65536) i && near_kept (get_or keys v 0 % 65536) j) (in_cell vs g c) n (λ v l.
    let s = cube_face_project (c / (g * g)) (vertex_at vs v) in
    rw (k.each v l) (key_near g i j s.u s.w s.d (omega arith) (omega arith)))

-- a cell that is not the first of its face has the face of the cell before it
pub same-face : (a c : ℕ) → 0 < a → 0 < (c + 1) % a → (c + 1) / a ≡ c / a
same-face a c h p =
    let e = div-add-mod' (c + 1) a in
    sym (div-eq_of_lt-le {k = (c + 1) / a} a {m = c} (omega arith) (omega (arith, mod-lt (c + 1) {m = a} h)))

-- a key more
pub one_more : (f : ℕ → ℕ) (keys : List ℕ) (v x : ℕ) → ((k : ℕ) → k < v → get_or keys k 0 ≡ f k) → v < length keys → x ≡ f v
    → (k : ℕ) → k < v + 1 → get_or (set keys v x) k 0 ≡ f k
one_more f keys v x h l e =
    below_more (λ k. get_or (set keys v x) k 0 ≡ f k) v
    (λ k lk. get_or-set_other keys v k x 0 (λ z. absurd (omega arith)) ∙ h k lk)
    (get_or-set_same keys v x 0 l ∙ e)
