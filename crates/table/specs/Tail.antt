-- The long-range tail of a table (document 02, paper 9), and its bytes. Definitions only.
use Rattle.std.specs.Prelude.{Bool, cond, ◌&&◌, ◌||◌, List, [], ◌∷◌, ◌++◌, ℕ, ◌+◌, ◌*◌, length, take, drop, leb, eqb, Float}
use Rattle.std.specs.Float.{binary64}
use Rattle.std.specs.Float.Ieee.{of_bits, to_bits}
use Rattle.std.specs.Float.Ieee.Scale.{finite}
use Rattle.lists.specs.Lists.{every}
use Rattle.table.specs.Bytes.{bytes_of, number_of, section}

-- "the terms (coefficient, kappa as f64, power as u32 at most 2,147,483,647)"
pub record Term : Type 0 where
  pub coefficient : Float
  pub kappa : Float
  pub power : ℕ

pub record Tail : Type 0 where
  pub terms : List Term
  pub prefactor : Float

abbrev pub no_tail : Tail
no_tail = record { terms = []; prefactor = of_bits binary64 0 }

unfoldable pub term_bytes : Term → List ℕ
term_bytes t = bytes_of 8 (to_bits binary64 t.coefficient) ++ (bytes_of 8 (to_bits binary64 t.kappa) ++ bytes_of 4 t.power)

unfoldable pub term_of : List ℕ → Term
term_of bs =
    record {
      coefficient = of_bits binary64 (number_of (take 8 bs));
      kappa = of_bits binary64 (number_of (take 8 (drop 8 bs)));
      power = number_of (take 4 (drop 16 bs));
    }

-- "A sixth section after its count holds the terms ..; after them stands the prefactor as f64." "No terms means no section and no stored prefactor"
abbrev pub sixth : List Term → Float → List ℕ
sixth [] x = []
sixth (y ∷ ys) x = section term_bytes (y ∷ ys) ++ bytes_of 8 (to_bits binary64 x)

abbrev pub tail_bytes : Tail → List ℕ
tail_bytes t = sixth t.terms t.prefactor

-- the bytes of the sixth section of so many terms and of the prefactor behind it
abbrev pub tail_size : ℕ → ℕ
tail_size k = cond (eqb k 0) 0 (k * 20 + 12)

-- 23, of a term: no value that is not finite, and no power that is too large
unfoldable pub term_valid : Term → Bool
term_valid t = finite t.coefficient && (finite t.kappa && leb t.power 2147483647)

-- 23, "where there are terms": of each of them, and of the prefactor
unfoldable pub tail_valid : Tail → Bool
tail_valid t = eqb (length t.terms) 0 || (every term_valid t.terms && finite t.prefactor)
