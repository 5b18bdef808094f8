-- What is promised of repack. Definitions only.
use Rattle.std.specs.Prelude.{◌≡◌, true, cond, List, ◌++◌, ℕ, ◌+◌, ◌*◌, ◌≤◌, ◌<◌, length, take, drop, leb, ltb, Float, Ok}
use Rattle.lists.specs.Lists.{every, put}
use Rattle.search.specs.Search.{Locator}
use Rattle.table.specs.File.{entry_of}
use Rattle.table.specs.Read.{layout, table_of, row_items, read_values, read_out}
use Rattle.table.specs.declared.Table.{Table}
use Rattle.reading.specs.Resolve.{Way}
use Rattle.reading.specs.declared.Query.{Query}
use Rattle.reading.specs.Reading.{reading_by}
use Rattle.tail.specs.Reading.{tail_out}
use Rattle.repack.specs.Repack.{RepackOut, other_offsets, repack_out}

-- the table that a file's sections give, whether or not its offsets tile
abbrev pub table_in : List ℕ → Table
table_in file = table_of file (layout file)

-- the ten bytes of row s
abbrev pub row_bytes : List ℕ → ℕ → List ℕ
row_bytes file s = take 10 (drop ((table_in file).rows_start + s * 10) file)

-- the bytes of a row without the offset of a Mesh row
abbrev pub without_offset : List ℕ → List ℕ
without_offset b = cond (leb (entry_of b).kind 1) b (take 2 b ++ drop 6 b)

-- "with all outside section 5, its count and these rows' offsets unchanged": what stands before the rows, the rows, and what follows section 5 (S23.6)
pub record Unchanged (f g : List ℕ) : Type 0 where
  pub before : take (table_in f).rows_start g ≡ take (table_in f).rows_start f
  pub rows : (s : ℕ) → s < (table_in f).rows → without_offset (row_bytes g s) ≡ without_offset (row_bytes f s)
  pub at : (layout g).energies ≡ (layout f).energies
  pub behind : drop (layout g).end g ≡ drop (layout f).end f

-- f was repacked to g, and so many rows moved
pub record Kept (f g : List ℕ) (moved : ℕ) : Type 0 where
  -- the strict reader accepts g: "The strict reader's offset rule, 16, still governs ordinary reading" (S23.7)
  pub accepted : read_out g ≡ read_values (Ok (table_in g))
  pub outside : Unchanged f g
  pub counted : moved ≡ other_offsets (row_items f (table_in f)) (row_items g (table_in g))
  -- "Every admitted reading of the old rows and of the new file agrees", plain and weighted, with its distances, whatever is lent beside the file; and so does the tail (S23.8)
  pub readings : (vertices : List Float) (l : Locator) (way : Way) (q : Query) → reading_by f (table_in f) vertices l way q ≡ reading_by g (read_out g).table vertices l way q
  pub tails : (r : Float) → tail_out f (table_in f) r ≡ tail_out g (read_out g).table r

-- the file that an accepted call leaves in the output
abbrev pub file_in : RepackOut → List ℕ
file_in r = take r.answer.length r.output

abbrev pub Repacks : Type 0
Repacks = (f out : List ℕ) → (repack_out f out).answer.number ≡ 0 → Kept f (file_in (repack_out f out)) (repack_out f out).answer.moved

-- a list of bytes
abbrev pub Bytes : List ℕ → Type 0
Bytes f = every (λ b. ltb b 256) f ≡ true

-- "A file already packed comes back byte for byte with the number 0." (S23.9)
abbrev pub PackedStays : Type 0
PackedStays = (f out : List ℕ) → Bytes f → (read_out f).number ≡ 0 → length f ≤ length out
    → repack_out f out ≡ record { answer = record { number = 0; length = length f; moved = 0 }; output = put out 0 f }
