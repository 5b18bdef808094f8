-- One record of a list, the numbers and the word that it stands for, and what an accepted bridge may count on. Assumes nothing.
use mathlib.Core.Path.{◌≡◌, refl, sym, ◌∙◌, ap}
use mathlib.Core.Bool.{true}
use mathlib.Core.List.{List}
use Prim.Native.Nat.{ℕ, zero, suc, ◌≤◌, ◌+◌}
use native.Mathlib.Omega.{arith}
use lib.ListN.{length, get_or, set, length-set, get_or-map}
use borrow.Author.Tests.{leb-true}
use Rattle.lists.specs.Lists.{for_each}
use Rattle.lists.proofs.Asking.{ask_yes}
use Rattle.lists.proofs.Loops.{each_turn}
use Rattle.rows.specs.Words.{word_of}
use Rattle.words.specs.Moves.{rests_clear}
use Rattle.lent.specs.declared.RowRecord.{RowRecord}
use Rattle.lent.specs.Records.{columns, record_at, word_in, words_in, gather_number, copied}

abbrev pub none : RowRecord
none = record { kind = 0; level = 0; value = 0 }

-- an accepted gather: as many words as records, none of which has a rest
pub gather_asked : (n : ℕ) (ws : List ℕ) → gather_number n ws ≡ 0 → (n ≤ length ws) × (rests_clear n ws ≡ true)
unfolding gather_number
gather_asked n ws e =
    let six = ask_yes (omega arith) e in
    let fifteen = ask_yes (omega arith) six.1 in
    (leb-true n (length ws) six.0, fifteen.0)

-- ---- the first n entries copied

pub copied_more : {A : Type 0} (f : ℕ → A) (xs : List A) (n : ℕ) (x : A) → x ≡ f n → set (copied n f xs) n x ≡ copied (n + 1) f xs
copied_more f xs n x e = ap (λ y. set (copied n f xs) n y) e ∙ each_turn (λ s ys. set ys s (f s)) n xs (copied n f xs) refl

pub length-copied : {A : Type 0} (n : ℕ) (f : ℕ → A) (xs : List A) → length (copied n f xs) ≡ length xs
unfolding for_each
length-copied zero f xs = refl
length-copied (suc n) f xs = length-set (copied n f xs) n (f n) ∙ length-copied n f xs

-- ---- one record

-- a record read is its three numbers
pub read : (ys : List RowRecord) (i : ℕ) → get_or ys i none ≡ record_at (columns ys) i
read ys i = rw (get_or-map (λ (r : RowRecord). r.kind) ys i none, get_or-map (λ (r : RowRecord). r.level) ys i none, get_or-map (λ (r : RowRecord). r.value) ys i none)

-- .. and its word that of the list's words
pub word_read : (ys : List RowRecord) (i : ℕ) → word_in (get_or ys i none) ≡ get_or (words_in ys) i 0
unfolding word_of
word_read ys i = sym (get_or-map word_in ys i none)
