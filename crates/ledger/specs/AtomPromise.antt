-- Demand 3 for a table against an atom, as one type.
use Rattle.std.specs.Prelude.{◌≡◌, List, map, ◌↔◌, ℕ, suc, ◌≤◌, ◌<◌, get_or, take, T}
use Rattle.std.specs.Float.{binary64}
use Rattle.std.specs.Float.Ieee.{to_bits, fits}
use Rattle.mesh.specs.Mesh.{Mesh, level_part}
use Rattle.grid.specs.Atom.{atom_counted}
use Rattle.grid.specs.declared.AtomGrid.{AtomGrid}
use Rattle.rows.specs.Rows.{Row, repulsive, compared}
use Rattle.search.specs.Search.{Locator}
use Rattle.locator.specs.Locator.{locator_out}
use Rattle.locator.specs.Several.{locator_part, locators, Roomy}
use Rattle.builder.specs.BuilderLists.{BuilderLists}
use Rattle.builder.specs.Atom.{AtomBuiltOut, atom_fresh_out}
use Rattle.writer.specs.Atom.{AtomWriteOut, atom_write_out}
use Rattle.table.specs.Atom.{atom_read_out}
use Rattle.reading.specs.Resolve.{Way, ReadingValues}
use Rattle.reading.specs.Atom.{atom_reading_by, atom_ruled_by}
use Rattle.reading.specs.declared.AtomQuery.{AtomQuery}
use Rattle.ledger.specs.AtomLedger.{AtomCall, AtomState, atom_run, atom_opened, atom_ledger}
use Rattle.ledger.specs.Promise.{Answered}

-- what is handed to fresh, the calls after it, and the output that is handed to the write after them
pub record AtomHistory : Type 0 where
  pub grid : AtomGrid
  pub top : ℕ
  pub meshes : Mesh
  pub lists : BuilderLists
  pub calls : List AtomCall
  pub output : List ℕ

-- ---- the list as the operations run it

abbrev pub atom_fresh : AtomHistory → AtomBuiltOut
atom_fresh h = atom_fresh_out h.grid h.top h.meshes h.lists

unfoldable pub atom_ended : AtomHistory → AtomState
atom_ended h = atom_run h.meshes (record { builder = (atom_fresh h).answer.builder; lists = (atom_fresh h).lists }) h.calls

abbrev pub atom_last_write : AtomHistory → AtomWriteOut
atom_last_write h = atom_write_out (atom_ended h).builder h.meshes (atom_ended h).lists h.output

unfoldable pub atom_file : AtomHistory → List ℕ
atom_file h = take (atom_last_write h).answer.length (atom_last_write h).output

-- fresh and the write after the calls are accepted; a setting is a value that an f64 can have
pub record AtomAccepted (h : AtomHistory) : Type 0 where
  pub rmin : T (fits binary64 h.grid.rmin)
  pub dr : T (fits binary64 h.grid.dr)
  pub fresh : (atom_fresh h).answer.number ≡ 0
  pub write : (atom_last_write h).answer.number ≡ 0

-- ---- the list as the ledger keeps it, its rows at the end as rows compare

unfoldable pub atom_rows : AtomHistory → List (Row ℕ)
atom_rows h = map compared (atom_ledger (atom_counted h.grid) h.meshes (atom_opened (atom_counted h.grid) h.top) h.calls).rows

-- grids (rmin, dr and the count) and level counts are equal, "and 01's ledger, run over each list alone, ends with the same row at every slab" (S18.9)
pub record AtomSame (a b : AtomHistory) : Type 0 where
  pub rmin : to_bits binary64 a.grid.rmin ≡ to_bits binary64 b.grid.rmin
  pub dr : to_bits binary64 a.grid.dr ≡ to_bits binary64 b.grid.dr
  pub n_r : (atom_counted a.grid).n_r ≡ (atom_counted b.grid).n_r
  pub levels : suc a.top ≡ suc b.top
  pub rows : (s : ℕ) → s < (atom_counted a.grid).n_r → get_or (atom_rows a) s repulsive ≡ get_or (atom_rows b) s repulsive

-- ---- what is promised of one list's file

abbrev pub atom_reading_of : AtomHistory → Locator → Way → AtomQuery → ReadingValues
atom_reading_of h l way q = atom_reading_by (atom_file h) (atom_read_out (atom_file h)).table h.meshes.vertices (locators h.top h.meshes l) way q

pub record AtomKept (h : AtomHistory) : Type 0 where
  -- "The reader accepts both."
  pub read : (atom_read_out (atom_file h)).number ≡ 0
  -- the locators of its meshes, for each level from 0 to the top: each of these calls is accepted
  pub locator_calls : (l : Locator) → Roomy h.top l → (m : ℕ) → m ≤ h.top → (locator_out m (level_part m h.meshes) (locator_part m l)).number ≡ 0
  -- every reading, by every way, gives what the reading rule gives from the ledger's rows; a refused one is refused by the rule too, with the same number
  pub readings : (l : Locator) → Roomy h.top l → (way : Way) (q : AtomQuery) → atom_reading_of h l way q ≡ atom_ruled_by (atom_counted h.grid) (atom_rows h) h.meshes way q
  -- 18, 20 and, for a beta that is not finite and above 0, 21 are the only numbers that refuse it: never 19
  pub answers : (l : Locator) → Roomy h.top l → (way : Way) (q : AtomQuery) → Answered way (atom_reading_of h l way q).number

-- demand 3, of tables against an atom (S18.9)
abbrev pub AtomPromise : Type 0
AtomPromise = (a b : AtomHistory) → AtomAccepted a → AtomAccepted b → ((atom_file a ≡ atom_file b) ↔ AtomSame a b) × (AtomKept a × AtomKept b)
