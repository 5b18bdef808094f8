-- Numbers and lists as bytes. Definitions only.
use Rattle.std.specs.Prelude.{List, [], ◌∷◌, ◌++◌, ℕ, zero, suc, ◌+◌, ◌*◌, ◌/◌, ◌%◌, length, take, drop}

-- "Little-endian": a number in w bytes, and the number that bytes are
unfoldable pub bytes_of : ℕ → ℕ → List ℕ
bytes_of zero x = []
bytes_of (suc w) x = x % 256 ∷ bytes_of w (x / 256)

unfoldable pub number_of : List ℕ → ℕ
number_of [] = 0
number_of (b ∷ bs) = number_of bs * 256 + b

-- the number in the w bytes from place at on
unfoldable pub number_at : ℕ → List ℕ → ℕ → ℕ
number_at w file at = number_of (take w (drop at file))

module _ {A : Type 0} where
  unfoldable pub packed : (A → List ℕ) → List A → List ℕ
  packed enc [] = []
  packed enc (x ∷ xs) = enc x ++ packed enc xs

  -- "sections, each after a u32 count"
  unfoldable pub section : (A → List ℕ) → List A → List ℕ
  section enc xs = bytes_of 4 (length xs) ++ packed enc xs

  -- n items of w bytes each, from place at on
  unfoldable pub items : (List ℕ → A) → ℕ → List ℕ → ℕ → ℕ → List A
  items dec w file at zero = []
  items dec w file at (suc n) = dec (take w (drop at file)) ∷ items dec w file (at + w) n
