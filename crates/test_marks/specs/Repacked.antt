-- Checks of repack (request 13) by computation. Not in the starred table.
use Rattle.std.specs.Prelude.{◌≡◌, refl, List, [], ◌∷◌, ◌++◌, ℕ, replicate, set, take, drop}
use Rattle.table.specs.Checks.{slab_checked}
use Rattle.table.specs.Loose.{loose_refusal, loose_out}
use Rattle.table.specs.Read.{read_out}
use Rattle.ledger.specs.Ledger.{set_call}
use Rattle.ledger.specs.Promise.{file}
use Rattle.repack.specs.Repack.{RepackedValues, total, placed, other_offsets, new_row, new_rows, parts, repacked, repack_refusal, repack_out}
use Rattle.test_marks.specs.Computed.{history, tail_history, computed}
use Rattle.test_marks.specs.Filed.{tens}
use Rattle.test_marks.specs.Tails.{lists}

unfoldable pub repacks : {A : Type 0} → A → A
unfolding slab_checked loose_refusal loose_out total placed other_offsets new_row new_rows parts repacked repack_refusal repack_out
repacks x = x

-- 642 bytes: one Mesh row at byte 52, its offset at byte 54; the count of section 5 at byte 62, 144 energies from byte 66 on
abbrev packed_file : List ℕ
packed_file = file (history (set_call 0 0 tens ∷ []))

-- the same with a gap of two energies in front, and with one of one energy at the end
abbrev gap_in_front : List ℕ → List ℕ
gap_in_front gap = take 62 (set packed_file 54 2) ++ (146 ∷ 0 ∷ 0 ∷ 0 ∷ gap ++ drop 66 packed_file)

abbrev gap_behind : List ℕ
gap_behind = take 62 packed_file ++ (145 ∷ 0 ∷ 0 ∷ 0 ∷ drop 66 packed_file ++ replicate 4 0)

-- two distance bins whose rows share their energies
abbrev shared : List ℕ
shared =
    let row = take 10 (drop 52 packed_file) in
    take 32 packed_file ++ (2 ∷ 0 ∷ 0 ∷ 0 ∷ take 12 (drop 36 packed_file)) ++ (2 ∷ 0 ∷ 0 ∷ 0 ∷ row) ++ row ++ drop 62 packed_file

abbrev answer : List ℕ → List ℕ → ℕ
answer f out = (repack_out f out).answer.number

-- "A file already packed comes back byte for byte with the number 0"; the bytes beyond stay
pub packed_comes_back : computed (repacks (repack_out packed_file (replicate 645 7))) ≡ computed (record { answer = record { number = 0; length = 642; moved = 0 }; output = packed_file ++ (7 ∷ 7 ∷ 7 ∷ []) })
unfolding computed repacks
packed_comes_back = refl

-- "the new length with the number of rows whose offset is now another"
pub gap_closed : computed (repacks (repack_out (gap_in_front (replicate 8 0)) (replicate 645 7))) ≡ computed (record { answer = record { number = 0; length = 642; moved = 1 }; output = packed_file ++ (7 ∷ 7 ∷ 7 ∷ []) })
unfolding computed repacks
gap_closed = refl

-- a gap at the end: no row moves
pub end_cut : computed (repacks (repack_out gap_behind (replicate 645 7))) ≡ computed (record { answer = record { number = 0; length = 642; moved = 0 }; output = packed_file ++ (7 ∷ 7 ∷ 7 ∷ []) })
unfolding computed repacks
end_cut = refl

-- shared parts: the packed file is longer, and the second row moves
abbrev apart : RepackedValues
apart = (repack_out shared (replicate 1228 7)).answer

pub shared-apart : computed (repacks apart) ≡ record { number = 0; length = 1228; moved = 1 }
unfolding computed repacks
shared-apart = refl

pub strict_accepts : computed (repacks (read_out (repack_out shared (replicate 1228 7)).output).number) ≡ 0
unfolding computed repacks
strict_accepts = refl

-- 12 last: an output that is too short for the packed file, and stays
pub short : computed (repacks (repack_out shared (replicate 1227 7))) ≡ record { answer = record { number = 12; length = 0; moved = 0 }; output = replicate 1227 7 }
unfolding computed repacks
short = refl

-- 25 in the place of 16: energies that end beyond section 5; before 17, and after 15
pub past_the_end : computed (repacks (answer (set (gap_in_front (replicate 8 0)) 54 3) [])) ≡ 25
unfolding computed repacks
past_the_end = refl

-- 17 is put to a gap too: 7FC00000 in its first place; 25 before it
pub nan_in_gap : computed (repacks (answer (gap_in_front (0 ∷ 0 ∷ 192 ∷ 127 ∷ replicate 4 0)) [])) ≡ 17
unfolding computed repacks
nan_in_gap = refl

pub place_before_nan : computed (repacks (answer (set (gap_in_front (0 ∷ 0 ∷ 192 ∷ 127 ∷ replicate 4 0)) 54 3) [])) ≡ 25
unfolding computed repacks
place_before_nan = refl

pub kind_before_place : computed (repacks (answer (set (set (gap_in_front (replicate 8 0)) 54 3) 52 4) [])) ≡ 15
unfolding computed repacks
kind_before_place = refl

-- a tail is copied; without its last byte the file is refused with 13
abbrev tailed : List ℕ
tailed = let f = file (tail_history lists (set_call 0 0 tens ∷ [])) in take 62 (set f 54 2) ++ (146 ∷ 0 ∷ 0 ∷ 0 ∷ replicate 8 0 ++ drop 66 f)

pub tail_copied : computed (repacks (repack_out tailed (replicate 674 7))) ≡ computed (record { answer = record { number = 0; length = 674; moved = 1 }; output = file (tail_history lists (set_call 0 0 tens ∷ [])) })
unfolding computed repacks
tail_copied = refl

pub tail_cut : computed (repacks (answer (take 681 tailed) (replicate 700 7))) ≡ 13
unfolding computed repacks
tail_cut = refl
