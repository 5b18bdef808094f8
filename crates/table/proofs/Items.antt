-- The items of a section, one after another. Assumes nothing.
use mathlib.Core.Path.{◌≡◌, refl, sym, ap, ◌∙◌}
use mathlib.Core.Bool.{Bool, true, false, cond, ◌&&◌, ◌||◌, and-true, and_assoc}
use mathlib.Core.List.{List, [], ◌∷◌}
use Prim.Native.Nat.{ℕ, zero, suc, ◌+◌, ◌*◌, ◌-◌, ◌≤◌, ◌<◌}
use native.Mathlib.Nat.{add-zero}
use native.Mathlib.Numerals.{add-one}
use native.Mathlib.Omega.{arith}
use lib.ListN.{length, get_or, take, drop}
use lib.Seq.{drop-drop}
use lib.Dec.{leb, eqb}
use lib.Ieee.{binary64, of_bits}
use borrow.Author.Tests.{eqb-true}
use Rattle.lists.specs.Lists.{every, all_up_to}
use Rattle.lists.proofs.Counting.{all_fails}
use Rattle.mesh.proofs.Laws.{count_le, per_le}
use Rattle.table.specs.Bytes.{number_of, number_at, items}
use Rattle.table.specs.Tail.{Term, term_of}
use Rattle.table.specs.File.{Entry, entry_of}
use Rattle.table.specs.Read.{tiled}
use Rattle.table.specs.Internal.{each_of, placed_at, next_place}
use Rattle.table.proofs.Numbers.{number-suc, no_bytes}

-- a test of each number below n + 1: of the first, and of the others
all_front : (p : ℕ → Bool) (n : ℕ) → all_up_to (suc n) p ≡ p 0 && all_up_to n (λ k. p (suc k))
unfolding all_up_to
all_front p zero = sym (and-true (p 0))
all_front p (suc n) = rw (all_front p n) (and_assoc (p 0) (all_up_to n (λ k. p (suc k))) (p (suc n)))

all_same : (p q : ℕ → Bool) (n : ℕ) → ((k : ℕ) → p k ≡ q k) → all_up_to n p ≡ all_up_to n q
unfolding all_up_to
all_same p q zero h = refl
all_same p q (suc n) h = rw (all_same p q n h, h n) refl

module _ {A : Type 0} (dec : List ℕ → A) (w : ℕ) (file : List ℕ) where
  pub items_cons : (at n : ℕ) → 0 < n → items dec w file at n ≡ dec (take w (drop at file)) ∷ items dec w file (at + w) (n - 1)
  unfolding items
  items_cons at zero h = absurd (omega arith)
  items_cons at (suc n) h = let e : suc n - 1 ≡ n = omega arith in rw e

  pub items-many : (at n : ℕ) → length (items dec w file at n) ≡ n
  unfolding items
  items-many at zero = refl
  items-many at (suc n) = ap suc (items-many (at + w) n)

  -- a test of every item, as one of each number below their count
  pub every_up_to : (p : A → Bool) (at n : ℕ) → every p (items dec w file at n) ≡ all_up_to n (λ k. p (dec (take w (drop (at + k * w) file))))
  unfolding every items all_up_to
  every_up_to p at zero = refl
  every_up_to p at (suc n) =
      let first : at + 0 * w ≡ at = omega arith in
      rw (all_front (λ k. p (dec (take w (drop (at + k * w) file)))) n, first, every_up_to p (at + w) n)
      (ap (λ (b : Bool). p (dec (take w (drop at file))) && b)
      (all_same (λ k. p (dec (take w (drop (at + w + k * w) file)))) (λ k. p (dec (take w (drop (at + suc k * w) file)))) n
      (λ k. let e : at + w + k * w ≡ at + suc k * w = omega arith in rw e refl)))

  pub every_fails : (p : A → Bool) (at n i : ℕ) → i < n → p (dec (take w (drop (at + i * w) file))) ≡ false → every p (items dec w file at n) ≡ false
  every_fails p at n i l e = every_up_to p at n ∙ all_fails (λ k. p (dec (take w (drop (at + k * w) file)))) i n l e

-- a test of each of the first 2·i numbers, two more of them
pub two_more : (p : ℕ → Bool) (i : ℕ) (h : Bool) → h ≡ all_up_to (i * 2) p → (h && (p (i * 2) && p (i * 2 + 1))) ≡ all_up_to ((i + 1) * 2) p
unfolding all_up_to
two_more p i h e =
    let n : (i + 1) * 2 ≡ suc (suc (i * 2)) = omega arith in
    rw (n, e, add-one) (sym (and_assoc (all_up_to (i * 2) p) (p (i * 2)) (p (suc (i * 2)))))

-- and one more, or none
pub one_more : (p : ℕ → Bool) (i n : ℕ) (h : Bool) → h ≡ all_up_to (i * 2) p → n ≡ i * 2 + 1 → (h && p (i * 2)) ≡ all_up_to n p
unfolding all_up_to
one_more p i n h e l = rw (l, e, add-one) refl

-- ---- rows

-- w bytes from the a-th on, of the first n
window : (a w n : ℕ) (l : List ℕ) → a + w ≤ n → take w (drop a (take n l)) ≡ take w (drop a l)
window a w zero l h = let e : w ≡ 0 = omega arith in rw e
window zero zero (suc n) l h = refl
window zero (suc w) (suc n) [] h = refl
window zero (suc w) (suc n) (x ∷ l) h = ap (λ (r : List ℕ). x ∷ r) (window zero w n l (omega arith))
window (suc a) w (suc n) [] h = refl
window (suc a) w (suc n) (x ∷ l) h = window a w n l (omega arith)

part_at : (a w n : ℕ) (file : List ℕ) (at : ℕ) → a + w ≤ n → number_of (take w (drop a (take n (drop at file)))) ≡ number_at w file (at + a)
unfolding number_at
part_at a w n file at h = rw (window a w n (drop at file) h, drop-drop)

byte_is : (file : List ℕ) (at : ℕ) → number_at 1 file at ≡ get_or file at 0
byte_is file at = omega (arith, number-suc 0 file at (at + 1) (omega arith), no_bytes file (at + 1))

-- the row at a byte
abbrev pub entry_at : List ℕ → ℕ → Entry
entry_at file at = record { kind = get_or file at 0; level = get_or file (at + 1) 0; offset = number_at 4 file (at + 2); scalar = number_at 4 file (at + 6) }

pub entry_at_lem : (file : List ℕ) (at : ℕ) → entry_of (take 10 (drop at file)) ≡ entry_at file at
unfolding entry_of
entry_at_lem file at =
    let k : number_of (take 1 (take 10 (drop at file))) ≡ get_or file at 0 = part_at 0 1 10 file at (omega arith) ∙ byte_is file (at + 0) ∙ rw (add-zero at) in
    rw (k, part_at 1 1 10 file at (omega arith), byte_is file (at + 1), part_at 2 4 10 file at (omega arith), part_at 6 4 10 file at (omega arith))

-- the term at a byte
pub term_at_lem : (file : List ℕ) (at : ℕ)
    → ◌≡◌ {A = Term} (term_of (take 20 (drop at file)))
    (record { coefficient = of_bits binary64 (number_at 8 file at); kappa = of_bits binary64 (number_at 8 file (at + 8)); power = number_at 4 file (at + 16) })
unfolding term_of
term_at_lem file at =
    let x : number_of (take 8 (take 20 (drop at file))) ≡ number_at 8 file at = part_at 0 8 20 file at (omega arith) ∙ rw (add-zero at) in
    rw (x, part_at 8 8 20 file at (omega arith), part_at 16 4 20 file at (omega arith))

-- ---- tiling

-- the step of `tiled`, over its two tests
stops : (a b x y : Bool) → a || b ≡ false → cond a x (b && y) ≡ false
stops false false x y e = refl
stops false true x y e = absurd (let z : ◌≡◌ {A = ℕ} 1 0 = ap (λ (t : Bool). cond t 1 0) e in omega arith)
stops true b x y e = absurd (let z : ◌≡◌ {A = ℕ} 1 0 = ap (λ (t : Bool). cond t 1 0) e in omega arith)

module _ (each : ℕ → ℕ) (n : ℕ) (rs : List Entry) (f o : ℕ) (v : ℕ) where
  goes : (a b : Bool) → (b ≡ true → f ≡ o) → a || b ≡ true → cond a (tiled each o n rs) (b && tiled each (o + each v) n rs) ≡ tiled each (cond a o (f + each v)) n rs
  goes true b h e = refl
  goes false true h e = rw (h refl)
  goes false false h e = absurd (let z : ◌≡◌ {A = ℕ} 0 1 = ap (λ (t : Bool). cond t 1 0) e in omega arith)

module _ (each : ℕ → ℕ) (file : List ℕ) (e o at n : ℕ) (l : 0 < n) where
  pub tiled_stop : placed_at (get_or file at 0) (number_at 4 file (at + 2)) o ≡ false → tiled each o e (items entry_of 10 file at n) ≡ false
  unfolding tiled
  tiled_stop h = rw (items_cons entry_of 10 file at n l, entry_at_lem file at) (stops (leb (get_or file at 0) 1) (eqb (number_at 4 file (at + 2)) o) _ _ h)

  pub tiled_next : placed_at (get_or file at 0) (number_at 4 file (at + 2)) o ≡ true
      → tiled each o e (items entry_of 10 file at n)
      ≡ tiled each (next_place each (get_or file at 0) (get_or file (at + 1) 0) (number_at 4 file (at + 2)) o) e (items entry_of 10 file (at + 10) (n - 1))
  unfolding tiled
  tiled_next h =
      rw (items_cons entry_of 10 file at n l, entry_at_lem file at)
      (goes each e (items entry_of 10 file (at + 10) (n - 1)) (number_at 4 file (at + 2)) o (get_or file (at + 1) 0)
      (leb (get_or file at 0) 1) (eqb (number_at 4 file (at + 2)) o) (eqb-true (number_at 4 file (at + 2)) o) h)

pub tiled_end : (each : ℕ → ℕ) (file : List ℕ) (e o at n : ℕ) → n ≤ 0 → tiled each o e (items entry_of 10 file at n) ≡ eqb o e
unfolding tiled items
tiled_end each file e o at n h = let z : n ≡ 0 = omega arith in rw z

-- the energies of a row whose level is a byte
pub each_le : (pairs : Bool) (v : ℕ) → v < 256 → each_of pairs v ≤ 655362 * 655362
each_le true v h = per_le v 256 h
each_le false v h = omega (arith, count_le v 256 h)
