-- What only the code and the proofs need; a reader need not believe it. Definitions only.
use Rattle.std.specs.Prelude.{◌≡◌, Bool, true, false, not, cond, ◌&&◌, ◌||◌, List, ℕ, ◌+◌, ◌*◌, ◌≤◌, ◌<◌, length, leb, eqb}
use Rattle.std.specs.Float.{binary32}
use Rattle.std.specs.Float.Ieee.{nan_bits}
use Rattle.lists.specs.Questions.{ask, first}
use Rattle.lists.specs.Lists.{every}
use Rattle.mesh.specs.Levels.{vertex_count, per}
use Rattle.table.specs.Bytes.{number_of, items}
use Rattle.table.specs.Tail.{tail_valid}
use Rattle.table.specs.File.{Entry, entry_of}
use Rattle.table.specs.Read.{count_at, row_items, energy_items, tail_in, table_valid, entry_valid, tiled}
use Rattle.table.specs.Checks.{slab_checked}
use Rattle.table.specs.View.{within}
use Rattle.table.specs.declared.Bound.{Bound}
use Rattle.table.specs.Atom.{atom_table_valid}
use Rattle.table.specs.declared.Layout.{Layout}
use Rattle.table.specs.declared.Table.{Table}
use Rattle.table.specs.declared.AtomTable.{AtomTable}

-- where the sections are, once 13 is answered yes, with i numbers in section 1 and j in section 2
pub record SectionsInside (i j : ℕ) (file : List ℕ) (p : Layout) : Type 0 where
  pub bins : p.bins ≡ 4 + i * 8
  pub levels : p.levels ≡ 4 + i * 8 + 4 + j * 4
  pub rows : p.rows ≡ p.levels + 4 + count_at file p.levels * 4
  pub energies : p.energies ≡ p.rows + 4 + count_at file p.rows * 10
  pub end : p.energies + 4 + count_at file p.energies * 4 ≤ length file

-- k terms at a byte, where there are any, and their prefactor are inside the file
abbrev pub TailInside : List ℕ → ℕ → ℕ → Type 0
TailInside file at k = 0 < k → at + k * 20 + 8 ≤ length file

-- the same of a table whose sixth section may follow
abbrev pub TableSections : List ℕ → Layout → Type 0
TableSections file p = SectionsInside 3 2 file p × TailInside file (p.end + 4) (count_at file p.end)

-- the sections that the later questions walk are inside the file: i levels at byte x, j rows at y and k energies at z
pub record Inside (file : List ℕ) (x i y j z k : ℕ) : Type 0 where
  pub levels : x + i * 4 ≤ length file
  pub rows : y + j * 10 ≤ length file
  pub energies : z + k * 4 ≤ length file

abbrev pub TableInside : List ℕ → Table → Type 0
TableInside file t =
    Inside file t.levels_start t.levels t.rows_start t.rows t.energies_start t.energies × TailInside file t.tail_start t.terms

abbrev pub AtomTableInside : List ℕ → AtomTable → Type 0
AtomTableInside file t = Inside file t.levels_start t.levels t.rows_start t.rows t.energies_start t.energies

-- the energies of a Mesh row of a level: n·n of them where two directions are paired, and n otherwise
abbrev pub each_of : Bool → ℕ → ℕ
each_of true = per
each_of false = vertex_count

-- 15 to 17, of rows at byte y and energies at byte z
abbrev pub rows_question : (ℕ → ℕ) → List ℕ → ℕ → ℕ → ℕ → ℕ → ℕ → ℕ
rows_question each file levels y rows z energies =
    ask (every (entry_valid levels) (items entry_of 10 file y rows)) 15
    (ask (tiled each 0 energies (items entry_of 10 file y rows)) 16
    (ask (every (λ x. not (nan_bits binary32 x)) (items number_of 4 file z energies)) 17 0))

-- 14, 24 under a bound, 15 to 17, then 23, of a table whose sections are inside the file
abbrev pub table_question : Bound → List ℕ → Table → ℕ
table_question b file t =
    ask (table_valid file t) 14
    (ask (within b t) 24
    (first (rows_question per file t.levels t.rows_start t.rows t.energies_start t.energies) (ask (tail_valid (tail_in file t)) 23 0)))

abbrev pub atom_table_question : List ℕ → AtomTable → ℕ
atom_table_question file t =
    ask (atom_table_valid file t) 14 (rows_question vertex_count file t.levels t.rows_start t.rows t.energies_start t.energies)

-- 25, of a row that 15 let pass in a table whose levels 14 let pass: it has no energies, or they are among the first n
abbrev pub ends_below : ℕ → Entry → Bool
ends_below n r = leb r.kind 1 || (not (eqb r.offset 0xFFFF_FFFF) && leb (per r.level + r.offset) n)

-- 14, 15, 25, 17, then 23, of a table whose sections are inside the file
abbrev pub loose_question : List ℕ → Table → ℕ
loose_question file t =
    ask (table_valid file t) 14
    (ask (every (entry_valid t.levels) (row_items file t)) 15
    (ask (every (slab_checked file t) (row_items file t)) 25
    (ask (every (λ x. not (nan_bits binary32 x)) (energy_items file t)) 17
    (ask (tail_valid (tail_in file t)) 23 0))))

-- a row has no energies, or they start at place o; and where those of the next row start
abbrev pub placed_at : ℕ → ℕ → ℕ → Bool
placed_at kind offset o = leb kind 1 || eqb offset o

abbrev pub next_place : (ℕ → ℕ) → ℕ → ℕ → ℕ → ℕ → ℕ
next_place each kind level offset o = cond (leb kind 1) o (offset + each level)
