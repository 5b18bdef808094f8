-- The number in some bytes of a file, byte by byte. Assumes nothing.
use mathlib.Core.Path.{◌≡◌, refl, ◌∙◌}
use mathlib.Core.List.{List, []}
use mathlib.Core.Logic.{⊎_elim}
use Prim.Native.Nat.{ℕ, suc, ◌+◌, ◌*◌, ◌≤◌}
use native.Mathlib.Numerals.{add-one}
use native.Mathlib.Omega.{arith}
use lib.ListN.{length, get_or, get_or-eq_default, drop_of_length-le}
use lib.Seq.{drop-cons, take_all}
use Rattle.ieee.proofs.Pack.{le_or_lt}
use Rattle.table.specs.Bytes.{number_of, number_at}

pub beyond : (file : List ℕ) (i : ℕ) → length file ≤ i → get_or file i 0 ≡ 0
beyond file i h = get_or-eq_default file 0 h

pub no_bytes : (file : List ℕ) (at : ℕ) → number_at 0 file at ≡ 0
unfolding number_at number_of
no_bytes file at = refl

-- the lowest byte, and the others
first : (w : ℕ) (file : List ℕ) (at : ℕ) → number_at (suc w) file at ≡ number_at w file (at + 1) * 256 + get_or file at 0
unfolding number_at number_of
first w file at =
    ⊎_elim
    (λ h. rw (drop_of_length-le file h, beyond file at h, drop_of_length-le file {i = at + 1} (omega arith), take_all {A = ℕ} w [] (omega arith)))
    (λ l. rw (drop-cons file at 0 l, add-one))
    (le_or_lt (length file) at)

pub number-suc : (w : ℕ) (file : List ℕ) (at next : ℕ) → next ≡ at + 1 → number_at (suc w) file at ≡ number_at w file next * 256 + get_or file at 0
number-suc w file at next e = rw e (first w file at)

-- the highest bytes of more than four
above : (w : ℕ) (file : List ℕ) (at : ℕ)
    → number_at (suc (suc (suc (suc w)))) file at
    ≡ (((number_at w file (at + 4) * 256 + get_or file (at + 3) 0) * 256 + get_or file (at + 2) 0) * 256 + get_or file (at + 1) 0) * 256 + get_or file at 0
above w file at =
    omega (
      arith,
      number-suc (suc (suc (suc w))) file at (at + 1) (omega arith),
      number-suc (suc (suc w)) file (at + 1) (at + 2) (omega arith),
      number-suc (suc w) file (at + 2) (at + 3) (omega arith),
      number-suc w file (at + 3) (at + 4) (omega arith),
    )

pub four : (file : List ℕ) (at : ℕ) → number_at 4 file at ≡ ((get_or file (at + 3) 0 * 256 + get_or file (at + 2) 0) * 256 + get_or file (at + 1) 0) * 256 + get_or file at 0
four file at = above 0 file at ∙ omega (arith, no_bytes file (at + 4))

-- beyond the end
pub none_there : (file : List ℕ) (at : ℕ) → length file ≤ at → number_at 4 file at ≡ 0
none_there file at h =
    omega (arith, four file at, beyond file at h, beyond file (at + 1) (omega arith), beyond file (at + 2) (omega arith), beyond file (at + 3) (omega arith))

pub eight : (file : List ℕ) (at : ℕ) → number_at 8 file at ≡ number_at 4 file (at + 4) * 4294967296 + number_at 4 file at
eight file at = above 4 file at ∙ omega (arith, four file at)
