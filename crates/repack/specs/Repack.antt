-- Repack (document 02, paper 13): a loosely packed file made a packed one, in a second buffer. Definitions only.
use Rattle.std.specs.Prelude.{cond, List, [], ◌∷◌, ◌++◌, ℕ, zero, suc, ◌+◌, ◌*◌, length, take, drop, leb, eqb, Result, Ok, Err}
use Rattle.lists.specs.Questions.{ask, first}
use Rattle.lists.specs.Lists.{put}
use Rattle.mesh.specs.Levels.{per}
use Rattle.table.specs.Bytes.{bytes_of}
use Rattle.table.specs.declared.Entry.{Entry}
use Rattle.table.specs.File.{entry_of}
use Rattle.table.specs.Read.{layout, table_of, row_items}
use Rattle.table.specs.Loose.{loose_refusal}
use Rattle.table.specs.declared.Table.{Table}
use Rattle.refusals.specs.Numbers.{number}
use Rattle.refusals.specs.declared.Refusal.{Refusal}
use Rattle.repack.specs.declared.Repacked.{Repacked}

-- "return the new length with the number of rows whose offset is now another"; beside a number that refuses stand 0 and 0 (S23.1)
pub record RepackedValues : Type 0 where
  pub number : ℕ
  pub length : ℕ
  pub moved : ℕ

abbrev pub repacked_values : Result Repacked Refusal → RepackedValues
repacked_values (Ok r) = record { number = 0; length = r.length; moved = r.moved }
repacked_values (Err e) = record { number = number e; length = 0; moved = 0 }

-- ---- the packed places

-- how many energies a row has, and rows together
abbrev pub held : Entry → ℕ
held r = cond (leb r.kind 1) 0 (per r.level)

unfoldable pub total : List Entry → ℕ
total [] = 0
total (r ∷ rs) = held r + total rs

-- a Mesh row with its energies at place o; any other row stays
abbrev pub moved_to : ℕ → Entry → Entry
moved_to o r = record { kind = r.kind; level = r.level; offset = cond (leb r.kind 1) r.offset o; scalar = r.scalar }

-- "its packed place": a Mesh row's is the number of energies of the rows before it, o being that of the first row here (S23.3)
unfoldable pub placed : ℕ → List Entry → List Entry
placed o [] = []
placed o (r ∷ rs) = moved_to o r ∷ placed (o + held r) rs

-- "the number of rows whose offset is now another" (S23.5)
unfoldable pub other_offsets : List Entry → List Entry → ℕ
other_offsets [] ss = 0
other_offsets (r ∷ rs) [] = 0
other_offsets (r ∷ rs) (s ∷ ss) = cond (eqb r.offset s.offset) 0 1 + other_offsets rs ss

-- ---- the bytes

-- the ten bytes of the row at a byte: those of the offset are another's for a Mesh row, and all others stay
unfoldable pub new_row : List ℕ → ℕ → ℕ → List ℕ
new_row file at o =
    cond (leb (entry_of (take 10 (drop at file))).kind 1)
    (take 10 (drop at file))
    (take 2 (drop at file) ++ (bytes_of 4 o ++ take 4 (drop (at + 6) file)))

-- n rows from a byte on
unfoldable pub new_rows : List ℕ → ℕ → ℕ → ℕ → List ℕ
new_rows file at zero o = []
new_rows file at (suc n) o = new_row file at o ++ new_rows file (at + 10) n (o + held (entry_of (take 10 (drop at file))))

-- "copy each Mesh row's energies to its packed place": section 5 starting at byte z
unfoldable pub parts : List ℕ → ℕ → List Entry → List ℕ
parts file z [] = []
parts file z (r ∷ rs) = take (held r * 4) (drop (z + r.offset * 4) file) ++ parts file z rs

-- "with all outside section 5, its count and these rows' offsets unchanged": up to the rows, the rows, the count and the energies, and what follows section 5 (S23.4)
unfoldable pub repacked : List ℕ → Table → List ℕ
repacked file t =
    let rs = row_items file t in
    take t.rows_start file
    ++ (new_rows file t.rows_start t.rows 0
    ++ (bytes_of 4 (total rs)
    ++ (parts file t.energies_start rs
    ++ drop (t.energies_start + t.energies * 4) file)))

-- ---- the whole

-- 13, 14, 15, "25, in the place of 16", 17, 23; "Question 12 is put to the output last" (S23.2)
unfoldable pub repack_refusal : List ℕ → Table → ℕ → ℕ
repack_refusal file t room = first (loose_refusal file (layout file) t) (ask (leb (length (repacked file t)) room) 12 0)

-- what repack leaves: the file, which it does not alter, and the output
pub record RepackOut : Type 0 where
  pub answer : RepackedValues
  pub output : List ℕ

-- bytes of the output beyond the new file stay
unfoldable pub repack_out : List ℕ → List ℕ → RepackOut
repack_out file out =
    let t = table_of file (layout file) in
    let g = repacked file t in
    let rs = row_items file t in
    let r = repack_refusal file t (length out) in
    cond (eqb r 0)
    (record { answer = record { number = 0; length = length g; moved = other_offsets rs (placed 0 rs) }; output = put out 0 g })
    (record { answer = record { number = r; length = 0; moved = 0 }; output = out })
