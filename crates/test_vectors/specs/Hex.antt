-- Upper-case hexadecimal.
use Rattle.std.specs.Prelude.{ℕ, ◌+◌, ◌-◌, ◌*◌, ◌^◌, cond, List, [], ◌∷◌, leb, ltb, Option, Some, None}

-- the value of a digit, 0 to 9 and A to F
unfoldable pub digit : ℕ → Option ℕ
digit b = cond (ltb b 48) None (cond (leb b 57) (Some (b - 48)) (cond (ltb b 65) None (cond (leb b 70) (Some (b - 65 + 10)) None)))

-- the number whose digits so far make n, with a next letter of the value d and what they make with it
unfoldable pub add_digit : ℕ → Option ℕ → (ℕ → Option ℕ) → Option ℕ
add_digit n None rest = None
add_digit n (Some d) rest = cond (leb (2 ^ 60) n) None (rest (16 * n + d))

-- the number whose digits so far make n, with more letters behind them; none where one is no digit or 64 bits do not hold it
unfoldable pub word : ℕ → List ℕ → Option ℕ
word n [] = Some n
word n (b ∷ bs) = add_digit n (digit b) (λ m. word m bs)
