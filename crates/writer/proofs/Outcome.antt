-- Write's outcome by the answers to its questions, and what they say of builder and lists. Assumes nothing.
use mathlib.Core.Path.{◌≡◌, refl, sym, ◌∙◌}
use Rattle.lists.proofs.Asking.{ask_yes, first_yes}
use mathlib.Core.Bool.{Bool, true, false, cond}
use mathlib.Core.List.{List}
use Prim.Native.Nat.{ℕ, ◌+◌, ◌*◌, ◌≤◌}
use native.Mathlib.Nat.{mul-le-mul}
use native.Mathlib.Omega.{arith}
use lib.ListN.{length}
use lib.Dec.{leb, eqb, lit<}
use borrow.Author.Tests.{eq-eqb, ne_eqb, eqb-false}
use Rattle.lists.specs.Questions.{ask, first}
use Rattle.lists.specs.Lists.{put}
use Rattle.mesh.specs.Levels.{vertex_count, per}
use Rattle.mesh.specs.Mesh.{Mesh}
use Rattle.mesh.proofs.Sizes.{count_mono, per_mono}
use Rattle.grid.proofs.Laws.{slab_energies_le}
use Rattle.builder.specs.BuilderLists.{BuilderLists, slabs, rows_known}
use Rattle.builder.specs.Refusals.{meshed_refusal}
use Rattle.builder.specs.Atom.{atom_meshed_refusal}
use Rattle.builder.specs.declared.Builder.{Builder}
use Rattle.builder.specs.declared.AtomBuilder.{AtomBuilder}
use Rattle.builder.proofs.Laws.{meshed, atom_meshed}
use Rattle.table.specs.File.{file_of}
use Rattle.table.specs.Atom.{atom_file_of}
use Rattle.writer.specs.Write.{file_from}
use Rattle.writer.specs.Atom.{atom_file_from, atom_write_refusal, atom_write_out}
use Rattle.writer.specs.Internal.{resolutions, total, Sure, write_question, atom_write_question}
use Rattle.writer.proofs.Whole.{bounded, total_few, file-length}

-- ---- chains

pub first_no : (n r : ℕ) → (n ≡ 0 → ⊥) → first n r ≡ n
unfolding first
first_no n r h = rw (ne_eqb n 0 h)

pub first-zero : (n r : ℕ) → n ≡ 0 → first n r ≡ r
unfolding first
first-zero n r h = rw (eq-eqb n 0 h)

refused_by : (a r : Bool) (m x : ℕ) → (cond a (cond r 0 15) m ≡ 0 → ⊥) → cond a (cond r x 15) m ≡ cond a (cond r 0 15) m
refused_by false r m x h = refl
refused_by true false m x h = refl
refused_by true true m x h = absurd (h refl)

module _ (m x : ℕ) (r : Bool) where
  -- what is refused before the last question is refused for the same reason whatever that is
  refused : (k : ℕ) → k ≡ first m (ask r 15 0) → (k ≡ 0 → ⊥) → first m (ask r 15 x) ≡ k
  unfolding first ask
  refused k e h = refused_by (eqb m 0) r m x (λ z. h (e ∙ z)) ∙ sym e

  -- where nothing is refused before it, it has the last word
  last : first m (ask r 15 0) ≡ 0 → first m (ask r 15 x) ≡ x
  unfolding ask
  last h =
      let f = first_yes h in
      let z : r ≡ true = (ask_yes (lit< tt) f.1).0 in
      first-zero m _ f.0 ∙ rw z

-- ---- what the answers say

pub sure : (b : Builder) (m : Mesh) (l : BuilderLists) → write_question b m l ≡ 0 → Sure per b.top (slabs b.grid) l × (b.grid.n_r ≤ 65535) × (b.grid.n_omega ≤ 65535)
unfolding meshed_refusal
sure b m l h =
    let f = first_yes h in
    let q = meshed b m (length l.store) (length l.rows.kinds) (length l.rows.levels) (length l.rows.values) f.0 in
    let n = slabs b.grid in
    let held = bounded per per_mono b.top l.rows n (ask_yes (lit< tt) f.1).0 in (
      record {
        top_le = q.asked.top_le;
        slabs_le = omega (arith, mul-le-mul q.asked.rs q.asked.omegas);
        store = q.room.store_le;
        bounded = held;
        few = omega (arith, total_few per b.top l.rows n held, q.asked.few);
      },
      q.asked.rs,
      q.asked.omegas,
    )

pub atom_sure : (b : AtomBuilder) (m : Mesh) (l : BuilderLists) → atom_write_question b m l ≡ 0 → Sure vertex_count b.top b.grid.n_r l × (b.grid.n_r ≤ 65535)
unfolding atom_meshed_refusal
atom_sure b m l h =
    let f = first_yes h in
    let q = atom_meshed b m (length l.store) (length l.rows.kinds) (length l.rows.levels) (length l.rows.values) f.0 in
    let n = b.grid.n_r in
    let held = bounded vertex_count count_mono b.top l.rows n (ask_yes (lit< tt) f.1).0 in (
      record {
        top_le = q.asked.top_le;
        slabs_le = omega (arith, q.asked.rs);
        store = q.room.store_le;
        bounded = held;
        few = omega (arith, total_few vertex_count b.top l.rows n held, slab_energies_le n b.top q.asked.rs q.asked.top_le);
      },
      q.asked.rs,
    )

-- ---- the length

pub write_length : (b : Builder) (l : BuilderLists) (e : ℕ) → Sure per b.top (slabs b.grid) l → e ≡ total per (resolutions l.rows 0 (slabs b.grid))
    → length (file_from b l) ≡ 56 + 4 * b.top + 10 * slabs b.grid + 4 * e
unfolding file_from file_of
write_length b l e s same = file-length per b.top (slabs b.grid) l _ _ e s same

pub atom_write_length : (b : AtomBuilder) (l : BuilderLists) (e : ℕ) → Sure vertex_count b.top b.grid.n_r l → e ≡ total vertex_count (resolutions l.rows 0 b.grid.n_r)
    → length (atom_file_from b l) ≡ 44 + 4 * b.top + 10 * b.grid.n_r + 4 * e
unfolding atom_file_from atom_file_of
atom_write_length b l e s same = file-length vertex_count b.top b.grid.n_r l _ _ e s same

-- ---- the outcome

module _ (b : AtomBuilder) (m : Mesh) (l : BuilderLists) (out : List ℕ) where
  pub atom_write_refused : (k : ℕ) → k ≡ atom_write_question b m l → eqb k 0 ≡ false
      → atom_write_out b m l out ≡ record { answer = record { number = k; length = 0 }; builder = b; lists = l; output = out }
  unfolding atom_write_out atom_write_refusal
  atom_write_refused k e h = rw (refused (atom_meshed_refusal b m l) _ (rows_known b.top l.rows 0 b.grid.n_r) k e (eqb-false k 0 h), h)

  module _ (h : atom_write_question b m l ≡ 0) where
    pub atom_write_short : leb (length (atom_file_from b l)) (length out) ≡ false → atom_write_out b m l out ≡ record { answer = record { number = 12; length = 0 }; builder = b; lists = l; output = out }
    unfolding atom_write_out atom_write_refusal ask
    atom_write_short e = rw (last (atom_meshed_refusal b m l) (ask (leb (length (atom_file_from b l)) (length out)) 12 0) (rows_known b.top l.rows 0 b.grid.n_r) h, e)

    pub atom_write_done : leb (length (atom_file_from b l)) (length out) ≡ true
        → atom_write_out b m l out ≡ record { answer = record { number = 0; length = length (atom_file_from b l) }; builder = b; lists = l; output = put out 0 (atom_file_from b l) }
    unfolding atom_write_out atom_write_refusal ask
    atom_write_done e = rw (last (atom_meshed_refusal b m l) (ask (leb (length (atom_file_from b l)) (length out)) 12 0) (rows_known b.top l.rows 0 b.grid.n_r) h, e)
