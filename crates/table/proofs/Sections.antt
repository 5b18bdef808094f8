-- The sections of a written file, as the reader walks them, whatever numbers its first two hold. Assumes nothing.
use mathlib.Core.Path.{◌≡◌, refl, sym, ap, ◌∙◌}
use mathlib.Core.List.{List, [], ◌++◌, append_assoc}
use Prim.Native.Nat.{ℕ, ◌+◌, ◌*◌, ◌^◌, ◌<◌}
use native.Mathlib.Omega.{arith}
use lib.ListN.{length, get_or, length-append}
use Rattle.table.specs.Bytes.{bytes_of, number_of, number_at, section, items}
use Rattle.table.specs.File.{Entry, entry_bytes, entry_of}
use Rattle.table.specs.Read.{count_at, layout}
use Rattle.table.specs.declared.Layout.{Layout}
use Rattle.table.proofs.Lengths.{bytes_length, section-length, entry_length}
use Rattle.table.proofs.Back.{All, Fitting, number_back, entry_back, count_is, items_are, item_at}

-- the two head sections, whose numbers are xs and ns, and the other three; then what follows them
module _ (xs ns ls : List ℕ) (rs : List Entry) (es : List ℕ) where
  abbrev a : List ℕ
  a = section (bytes_of 8) xs

  abbrev b : List ℕ
  b = section (bytes_of 4) ns

  abbrev d : List ℕ
  d = section (bytes_of 4) ls

  abbrev r : List ℕ
  r = section entry_bytes rs

  abbrev e : List ℕ
  e = section (bytes_of 4) es

  abbrev pub sections : List ℕ
  sections = a ++ (b ++ (d ++ (r ++ e)))

  -- where the second and the third section begin
  abbrev pub bins_at : ℕ
  bins_at = 4 + length xs * 8

  abbrev pub levels_at : ℕ
  levels_at = bins_at + 4 + length ns * 4

  la : length a ≡ bins_at
  la = section-length (bytes_of 8) 8 (bytes_length 8) xs

  lb : length b ≡ 4 + length ns * 4
  lb = section-length (bytes_of 4) 4 (bytes_length 4) ns

  ld : length d ≡ 4 + length ls * 4
  ld = section-length (bytes_of 4) 4 (bytes_length 4) ls

  lr : length r ≡ 4 + length rs * 10
  lr = section-length entry_bytes 10 entry_length rs

  le : length e ≡ 4 + length es * 4
  le = section-length (bytes_of 4) 4 (bytes_length 4) es

  ab : length (a ++ b) ≡ levels_at
  ab = length-append a b ∙ omega (arith, la, lb)

  abd : length (a ++ b ++ d) ≡ levels_at + 4 + length ls * 4
  abd = length-append (a ++ b) d ∙ omega (arith, ab, ld)

  abdr : length (a ++ b ++ d ++ r) ≡ levels_at + 4 + length ls * 4 + 4 + length rs * 10
  abdr = length-append (a ++ b ++ d) r ∙ omega (arith, abd, lr)

  pub five : length sections ≡ levels_at + 4 + length ls * 4 + 4 + length rs * 10 + 4 + length es * 4
  five =
      let joined : sections ≡ a ++ b ++ d ++ r ++ e = simp append_assoc in
      ap length joined ∙ length-append (a ++ b ++ d ++ r) e ∙ omega (arith, abdr, le)

  module _ (file post : List ℕ) (is : file ≡ sections ++ post)
      (few_floats : length xs < 256 ^ 4) (fewBins : length ns < 256 ^ 4)
      (fewLevels : length ls < 256 ^ 4) (fewRows : length rs < 256 ^ 4) (fewEnergies : length es < 256 ^ 4) where
    in_floats : file ≡ a ++ (b ++ (d ++ (r ++ (e ++ post))))
    in_floats = is ∙ simp append_assoc

    in_levels : file ≡ a ++ b ++ (d ++ (r ++ (e ++ post)))
    in_levels = is ∙ simp append_assoc

    in_rows : file ≡ a ++ b ++ d ++ (r ++ (e ++ post))
    in_rows = is ∙ simp append_assoc

    in_energies : file ≡ a ++ b ++ d ++ r ++ (e ++ post)
    in_energies = is ∙ simp append_assoc

    pub floats_count : count_at file 0 ≡ length xs
    floats_count = count_is (bytes_of 8) 8 (bytes_length 8) file [] xs (b ++ (d ++ (r ++ (e ++ post)))) 0 in_floats refl few_floats

    pub bins_count : count_at file bins_at ≡ length ns
    bins_count = count_is (bytes_of 4) 4 (bytes_length 4) file a ns (d ++ (r ++ (e ++ post))) bins_at in_floats la fewBins

    pub levels_count : count_at file levels_at ≡ length ls
    levels_count = count_is (bytes_of 4) 4 (bytes_length 4) file (a ++ b) ls (r ++ (e ++ post)) levels_at in_levels ab fewLevels

    pub rows_count : count_at file (levels_at + 4 + length ls * 4) ≡ length rs
    rows_count = count_is entry_bytes 10 entry_length file (a ++ b ++ d) rs (e ++ post) (levels_at + 4 + length ls * 4) in_rows abd fewRows

    pub energies_count : count_at file (levels_at + 4 + length ls * 4 + 4 + length rs * 10) ≡ length es
    energies_count =
        count_is (bytes_of 4) 4 (bytes_length 4) file (a ++ b ++ d ++ r) es post (levels_at + 4 + length ls * 4 + 4 + length rs * 10)
        in_energies abdr fewEnergies

    -- where the reader finds them
    abbrev pub found : Layout
    found = record {
      bins = bins_at;
      levels = levels_at;
      rows = levels_at + 4 + length ls * 4;
      energies = levels_at + 4 + length ls * 4 + 4 + length rs * 10;
      end = levels_at + 4 + length ls * 4 + 4 + length rs * 10 + 4 + length es * 4;
    }

    pub laid : layout file ≡ found
    unfolding layout
    laid = rw (floats_count, bins_count, levels_count, rows_count, energies_count)

    -- what it finds there
    pub rows_back : All Fitting rs → items entry_of 10 file (levels_at + 4 + length ls * 4 + 4) (length rs) ≡ rs
    rows_back h = items_are entry_bytes 10 entry_length entry_of Fitting entry_back file (a ++ b ++ d) rs (e ++ post) (levels_at + 4 + length ls * 4) in_rows abd h

    pub energies_back : All (λ k. k < 256 ^ 4) es → items number_of 4 file (levels_at + 4 + length ls * 4 + 4 + length rs * 10 + 4) (length es) ≡ es
    energies_back h =
        items_are (bytes_of 4) 4 (bytes_length 4) number_of (λ k. k < 256 ^ 4) (number_back 4) file (a ++ b ++ d ++ r) es post
        (levels_at + 4 + length ls * 4 + 4 + length rs * 10) in_energies abdr h

    pub levels_back : All (λ k. k < 256 ^ 4) ls → items number_of 4 file (levels_at + 4) (length ls) ≡ ls
    levels_back h =
        items_are (bytes_of 4) 4 (bytes_length 4) number_of (λ k. k < 256 ^ 4) (number_back 4) file (a ++ b) ls (r ++ (e ++ post)) levels_at in_levels ab h

    -- the numbers of the head sections
    pub float_back : All (λ k. k < 256 ^ 8) xs → (i : ℕ) → i < length xs → number_at 8 file (4 + i * 8) ≡ get_or xs i 0
    unfolding number_at
    float_back h i l =
        sym (item_at number_of 8 file 0 4 (length xs) i l)
        ∙ ap (λ (k : List ℕ). get_or k i 0)
        (items_are (bytes_of 8) 8 (bytes_length 8) number_of (λ k. k < 256 ^ 8) (number_back 8) file [] xs (b ++ (d ++ (r ++ (e ++ post)))) 0 in_floats refl h)

    pub bin_back : All (λ k. k < 256 ^ 4) ns → (i : ℕ) → i < length ns → number_at 4 file (bins_at + 4 + i * 4) ≡ get_or ns i 0
    unfolding number_at
    bin_back h i l =
        sym (item_at number_of 4 file 0 (bins_at + 4) (length ns) i l)
        ∙ ap (λ (k : List ℕ). get_or k i 0)
        (items_are (bytes_of 4) 4 (bytes_length 4) number_of (λ k. k < 256 ^ 4) (number_back 4) file a ns (d ++ (r ++ (e ++ post))) bins_at in_floats la h)
