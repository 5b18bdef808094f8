-- What the loose reader's questions, answered yes, say of a file; and its outcome by the answers. Assumes nothing.
use mathlib.Core.Path.{◌≡◌, refl, sym}
use mathlib.Core.Bool.{Bool, true, false, and-eq-true_iff}
use mathlib.Core.List.{List, [], ◌∷◌}
use Prim.Native.Nat.{ℕ, ◌+◌, ◌*◌, ◌<◌}
use lib.Dec.{leb, eqb}
use borrow.Author.Tests.{lt-ltb, eqb-true, eq-eqb}
use Rattle.lists.specs.Questions.{ask}
use Rattle.lists.specs.Lists.{every}
use Rattle.lists.proofs.Counting.{all_at}
use Rattle.mesh.specs.Levels.{vertex_count, per}
use Rattle.table.specs.Bytes.{number_at}
use Rattle.table.specs.File.{Entry}
use Rattle.table.specs.Read.{layout, table_laid_out, table_of, row_items, table_valid, entry_valid, grid_valid}
use Rattle.table.specs.Checks.{slab_checked}
use Rattle.table.specs.Loose.{loose_refusal, loose_out}
use Rattle.table.specs.Internal.{ends_below, loose_question}
use Rattle.table.specs.declared.Table.{Table}
use Rattle.table.proofs.Accepted.{refused, accepted}
use Rattle.table.proofs.Checked.{mesh-held}

-- what 14 says of the levels
pub counts_held : (file : List ℕ) (t : Table) → table_valid file t ≡ true → (k : ℕ) → k < t.levels → number_at 4 file (t.levels_start + 4 * k) ≡ vertex_count k
unfolding table_valid
counts_held file t h k l =
    let a = (and-eq-true_iff (grid_valid t.grid t.levels) _).0 h in
    let b = (and-eq-true_iff (eqb t.rows (t.grid.n_r * t.grid.n_omega)) _).0 a.1 in
    eqb-true _ (vertex_count k) (all_at (λ m. eqb (number_at 4 file (t.levels_start + 4 * m)) (vertex_count m)) k t.levels l b.1)

-- 25 of a row that 15 let pass
module _ (file : List ℕ) (t : Table) (counts : (k : ℕ) → k < t.levels → number_at 4 file (t.levels_start + 4 * k) ≡ vertex_count k) where
  row_ends : (r : Entry) (x : Bool) → leb r.kind 1 ≡ x → entry_valid t.levels r ≡ true → ends_below t.energies r ≡ slab_checked file t r
  unfolding slab_checked per
  row_ends r true k h = rw k
  row_ends r false k h = let l = mesh-held t.levels r k h in rw (k, lt-ltb r.level t.levels l, counts r.level l)

  pub rows_end : (rs : List Entry) → every (entry_valid t.levels) rs ≡ true → every (ends_below t.energies) rs ≡ every (slab_checked file t) rs
  unfolding every
  rows_end [] h = refl
  rows_end (r ∷ rs) h =
      let a = (and-eq-true_iff (entry_valid t.levels r) (every (entry_valid t.levels) rs)).0 h in
      rw (row_ends r _ refl a.0, rows_end rs a.1)

-- 25 of rows that 14 and 15 let pass
pub ends_are : (file : List ℕ) (t : Table) → table_valid file t ≡ true → every (entry_valid t.levels) (row_items file t) ≡ true
    → every (ends_below t.energies) (row_items file t) ≡ every (slab_checked file t) (row_items file t)
ends_are file t h k = rows_end file t (counts_held file t h) (row_items file t) k

-- ---- the outcome

module _ (file : List ℕ) where
  pub loose_unlaid : table_laid_out file (layout file) ≡ false → loose_out file ≡ refused 13
  unfolding loose_out loose_refusal ask
  loose_unlaid h = rw h

  module _ (h : table_laid_out file (layout file) ≡ true) (n : ℕ) (e : n ≡ loose_question file (table_of file (layout file))) where
    questioned : loose_refusal file (layout file) (table_of file (layout file)) ≡ n
    unfolding loose_refusal ask
    questioned = rw h (sym e)

    pub loose_refused : eqb n 0 ≡ false → loose_out file ≡ refused n
    unfolding loose_out
    loose_refused z = rw (questioned, z)

    pub loose_accepted : n ≡ 0 → loose_out file ≡ accepted (table_of file (layout file))
    unfolding loose_out
    loose_accepted z = rw (questioned, eq-eqb n 0 z)
