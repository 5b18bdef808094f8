-- A word's parts, and the rows that a list of words stands for. Assumes nothing.
use mathlib.Core.Path.{◌≡◌, refl, ap}
use mathlib.Core.List.{List, [], ◌∷◌, map}
use Prim.Native.Nat.{ℕ, zero, suc, ◌≤◌}
use native.Mathlib.Omega.{arith}
use lib.ListN.{get_or, set, length, length-map, get_or-map}
use Rattle.rows.specs.declared.SlabResolution.{SlabResolution}
use Rattle.rows.specs.Rows.{kind_of, level_of, value_of, resolution_of, resolution_at, replaced, known, row_known}
use Rattle.rows.specs.Words.{word_of, word_value, word_level, word_kind, word_rows}

-- ---- a word's parts are the numbers that it was made of

pub word_kind_lem : (k l v : ℕ) → l ≤ 255 → v ≤ 4294967295 → word_kind (word_of k l v) ≡ k
unfolding word_kind word_of
word_kind_lem k l v h i = omega arith

pub word_level_lem : (k l v : ℕ) → l ≤ 255 → v ≤ 4294967295 → word_level (word_of k l v) ≡ l
unfolding word_level word_of
word_level_lem k l v h i = omega arith

pub word_value_lem : (k l v : ℕ) → v ≤ 4294967295 → word_value (word_of k l v) ≡ v
unfolding word_value word_of
word_value_lem k l v i = omega arith

-- .. and a word is that of its parts, whatever it is
pub word-parts : (w : ℕ) → word_of (word_kind w) (word_level w) (word_value w) ≡ w
unfolding word_kind word_level word_value word_of
word-parts w = omega arith

-- ---- lists

pub map-set : {A B : Type 0} (f : A → B) (xs : List A) (s : ℕ) (x : A) → map f (set xs s x) ≡ set (map f xs) s (f x)
map-set f [] s x = refl
map-set f (y ∷ xs) zero x = refl
map-set f (y ∷ xs) (suc s) x = ap (◌∷◌ (f y)) (map-set f xs s x)

-- a slab's numbers are its word's parts, beyond the list too
pub kind_at : (ws : List ℕ) (s : ℕ) → get_or (word_rows ws).kinds s 0 ≡ word_kind (get_or ws s 0)
unfolding word_rows word_kind
kind_at ws s = get_or-map word_kind ws s 0

pub level_at : (ws : List ℕ) (s : ℕ) → get_or (word_rows ws).levels s 0 ≡ word_level (get_or ws s 0)
unfolding word_rows word_level
level_at ws s = get_or-map word_level ws s 0

pub value_at : (ws : List ℕ) (s : ℕ) → get_or (word_rows ws).values s 0 ≡ word_value (get_or ws s 0)
unfolding word_rows word_value
value_at ws s = get_or-map word_value ws s 0

pub resolution_in : (ws : List ℕ) (s : ℕ) → let w = get_or ws s 0 in resolution_at (word_rows ws) s ≡ resolution_of (word_kind w) (word_level w) (word_value w)
unfolding resolution_at
resolution_in ws s = rw (kind_at ws s, level_at ws s, value_at ws s)

pub known_in : (top : ℕ) (ws : List ℕ) (s : ℕ) → row_known top (word_rows ws) s ≡ known top (word_kind (get_or ws s 0)) (word_level (get_or ws s 0))
known_in top ws s = rw (kind_at ws s, level_at ws s)

-- each list is as long as that of the words
pub kinds_long : (ws : List ℕ) → length (word_rows ws).kinds ≡ length ws
unfolding word_rows
kinds_long ws = length-map ws word_kind

pub levels_long : (ws : List ℕ) → length (word_rows ws).levels ≡ length ws
unfolding word_rows
levels_long ws = length-map ws word_level

pub values_long : (ws : List ℕ) → length (word_rows ws).values ≡ length ws
unfolding word_rows
values_long ws = length-map ws word_value

-- a word replaced is its row replaced
pub replaced_in : (ws : List ℕ) (s : ℕ) (x : SlabResolution) → level_of x ≤ 255 → value_of x ≤ 4294967295
    → word_rows (set ws s (word_of (kind_of x) (level_of x) (value_of x))) ≡ replaced (word_rows ws) s x
unfolding word_rows replaced
replaced_in ws s x h i =
    let w = word_of (kind_of x) (level_of x) (value_of x) in
    rw (map-set word_kind ws s w, map-set word_level ws s w, map-set word_value ws s w, word_kind_lem (kind_of x) (level_of x) (value_of x) h i, word_level_lem (kind_of x) (level_of x) (value_of x) h i, word_value_lem (kind_of x) (level_of x) (value_of x) i)

-- the words can be had from the rows: no two lists of words stand for the same
pub words_of : (ws : List ℕ) (s : ℕ) → let r = word_rows ws in word_of (get_or r.kinds s 0) (get_or r.levels s 0) (get_or r.values s 0) ≡ get_or ws s 0
words_of ws s = rw (kind_at ws s, level_at ws s, value_at ws s) (word-parts (get_or ws s 0))
