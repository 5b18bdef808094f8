-- Demand 3 as one type.
use Rattle.std.specs.Prelude.{false, ◌≡◌, List, map, ◌↔◌, ◌⊎◌, ℕ, suc, ◌≤◌, ◌<◌, length, get_or, take, T, Float}
use Rattle.std.specs.Float.{nan, binary64}
use Rattle.std.specs.Float.Ieee.{to_bits, fits}
use Rattle.mesh.specs.Mesh.{Mesh, level_part}
use Rattle.grid.specs.Settings.{counted}
use Rattle.grid.specs.declared.Grid.{Grid}
use Rattle.rows.specs.Rows.{Row, repulsive, compared}
use Rattle.search.specs.Search.{Locator}
use Rattle.locator.specs.Locator.{locator_out}
use Rattle.locator.specs.Several.{locator_part, locators, Roomy}
use Rattle.builder.specs.BuilderLists.{BuilderLists, word_lists, slabs}
use Rattle.builder.specs.Calls.{BuiltOut, fresh_out}
use Rattle.table.specs.Tail.{Term, Tail}
use Rattle.table.specs.Read.{read_out}
use Rattle.writer.specs.Write.{WriteOut}
use Rattle.writer.specs.Tailed.{TailLists, handed, write_tail_out}
use Rattle.reading.specs.Resolve.{Way, way_valid, ReadingValues}
use Rattle.reading.specs.declared.Query.{Query}
use Rattle.reading.specs.Reading.{reading_by}
use Rattle.reading.specs.Rule.{ruled_by}
use Rattle.tail.specs.Reading.{tail_out, ruled_tail}
use Rattle.ledger.specs.Ledger.{Call, State, run, opened, ledger}

-- "lists of set, settle and write calls, refused ones included, each from a fresh builder": what is handed to fresh (a store and words of any contents
-- and any length), the calls after it (any list, the empty one too), and the tail and the output that are handed to the write after them
pub record History : Type 0 where
  pub grid : Grid
  pub top : ℕ
  pub meshes : Mesh
  pub store : List Float
  pub words : List ℕ
  pub calls : List Call
  pub tail : TailLists
  pub output : List ℕ

-- ---- the list as the operations run it

-- the lists that are handed to fresh. The states of a run have the rows that the words stand for: each call's contract says that the words which it leaves
-- stand for the rows of its outcome, and no two lists of words stand for the same rows (`word-parts` and `words_of` of rows' proofs/InWords). (S25.3)
abbrev pub start_lists : History → BuilderLists
start_lists h = word_lists h.store h.words

abbrev pub fresh : History → BuiltOut
fresh h = fresh_out h.grid h.top h.meshes (start_lists h)

-- after the calls
unfoldable pub ended : History → State
ended h = run h.meshes (record { builder = (fresh h).answer.builder; lists = (fresh h).lists }) h.calls

abbrev pub last_write : History → WriteOut
last_write h = write_tail_out (ended h).builder h.meshes (ended h).lists h.tail h.output

-- "The file of an accepted write is the first bytes of its output, as many as it returns." (S8.7)
unfoldable pub file : History → List ℕ
file h = take (last_write h).answer.length (last_write h).output

-- fresh and the write after the calls are accepted. A setting, and each value of the tail, is one that an f64 can have: of the model's floats these are all that
-- code can hand in.
pub record Accepted (h : History) : Type 0 where
  pub rmin : T (fits binary64 h.grid.rmin)
  pub dr : T (fits binary64 h.grid.dr)
  pub step : T (fits binary64 h.grid.omega_step)
  pub coefficients : (i : ℕ) → T (fits binary64 (get_or h.tail.coefficients i nan))
  pub kappas : (i : ℕ) → T (fits binary64 (get_or h.tail.kappas i nan))
  pub prefactor : T (fits binary64 (get_or h.tail.prefactor 0 nan))
  pub fresh : (fresh h).answer.number ≡ 0
  pub write : (last_write h).answer.number ≡ 0

-- ---- the list as the ledger keeps it

-- "The ledger is fed the settings, top level and meshes that fresh accepted, then in order set's bins and energies and settle's distance bin";
-- its rows at the end, as rows compare
unfoldable pub rows : History → List (Row ℕ)
rows h = map compared (ledger (counted h.grid) h.meshes (opened (counted h.grid) h.top) h.calls).rows

-- the tail of the write after the calls, and the bits of a term
abbrev pub tail_of : History → Tail
tail_of h = handed h.tail

pub record TermBits : Type 0 where
  pub coefficient : ℕ
  pub kappa : ℕ
  pub power : ℕ

abbrev pub term_bits : Term → TermBits
term_bits t = record { coefficient = to_bits binary64 t.coefficient; kappa = to_bits binary64 t.kappa; power = t.power }

-- "exactly when grids and level counts are equal and 01's ledger, run over each list alone, ends with the same row at every slab".
-- "Grids are equal when rmin, dr and omega step have equal bits and both counts are equal. The level count is the top level plus one." (S14.4)
pub record Same (a b : History) : Type 0 where
  pub rmin : to_bits binary64 a.grid.rmin ≡ to_bits binary64 b.grid.rmin
  pub dr : to_bits binary64 a.grid.dr ≡ to_bits binary64 b.grid.dr
  pub step : to_bits binary64 a.grid.omega_step ≡ to_bits binary64 b.grid.omega_step
  pub n_r : (counted a.grid).n_r ≡ (counted b.grid).n_r
  pub n_omega : (counted a.grid).n_omega ≡ (counted b.grid).n_omega
  pub levels : suc a.top ≡ suc b.top
  pub rows : (s : ℕ) → s < slabs (counted a.grid) → get_or (rows a) s repulsive ≡ get_or (rows b) s repulsive
  -- "Equality of files now takes in the terms and, where there are any, the prefactor, bits for bits." (S20.10)
  pub terms : map term_bits (tail_of a).terms ≡ map term_bits (tail_of b).terms
  pub prefactor : 0 < length (tail_of a).terms → to_bits binary64 (tail_of a).prefactor ≡ to_bits binary64 (tail_of b).prefactor

-- ---- what is promised of one list's file

-- "In demand 3 a reading is handed its file, what read returned for it, the meshes of its builder and the locators"
abbrev pub reading_of : History → Locator → Way → Query → ReadingValues
reading_of h l way q = reading_by (file h) (read_out (file h)).table h.meshes.vertices (locators h.top h.meshes l) way q

abbrev pub Answered : Way → ℕ → Type 0
Answered way n = (n ≡ 0) ⊎ ((n ≡ 18) ⊎ ((n ≡ 20) ⊎ ((way_valid way ≡ false) × (n ≡ 21))))

-- S14.6
pub record Kept (h : History) : Type 0 where
  -- "The reader accepts both."
  pub read : (read_out (file h)).number ≡ 0
  -- "the locators that the locator call made of them, for each level from 0 to the top": each of these calls is accepted
  pub locator_calls : (l : Locator) → Roomy h.top l → (m : ℕ) → m ≤ h.top → (locator_out m (level_part m h.meshes) (locator_part m l)).number ≡ 0
  -- "Every admitted reading gives what the reading rule gives from that ledger's rows": "a reading is handed its file, what read returned for it, the
  -- meshes of its builder and the locators that the locator call made of them". A reading that is refused is refused by the rule too, with the same number.
  -- By every way of reading: the plain one, and document 02's weighting with any beta.
  pub readings : (l : Locator) → Roomy h.top l → (way : Way) (q : Query) → reading_of h l way q ≡ ruled_by (counted h.grid) (rows h) h.meshes way q
  -- 18, 20 and, for a beta that is not finite and above 0, 21 are the only numbers that refuse it: never 19
  pub answers : (l : Locator) → Roomy h.top l → (way : Way) (q : Query) → Answered way (reading_of h l way q).number
  -- every reading of its tail gives what the rule gives for the terms and the prefactor that were handed over, at any distance (S20.11)
  pub tails : (r : Float) → tail_out (file h) (read_out (file h)).table r ≡ ruled_tail (tail_of h) r

-- ---- demand 3

-- "For every two lists .. the files that an accepted write gives are equal byte for byte exactly when .. The reader accepts both. Every admitted reading .. One theorem." (S14.3 to S14.6)
abbrev pub Promise : Type 0
Promise = (a b : History) → Accepted a → Accepted b → ((file a ≡ file b) ↔ Same a b) × (Kept a × Kept b)
