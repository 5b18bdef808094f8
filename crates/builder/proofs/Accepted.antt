-- What an accepted settle may count on, and what it gives. Assumes nothing.
use mathlib.Core.Path.{◌≡◌, refl, ◌∙◌}
use Rattle.lists.proofs.Asking.{ask_yes, first_yes}
use mathlib.Core.Bool.{true}
use mathlib.Core.List.{map}
use Prim.Native.Nat.{ℕ, ◌*◌, ◌^◌, ◌≤◌, ◌<◌}
use native.Mathlib.Nat.{mul-le-mul, zero-add}
use native.Mathlib.Omega.{arith}
use lib.Dec.{lit<}
use lib.ListN.{length, length-map}
use lib.Ieee.{Float}
use borrow.Author.Tests.{ltb-true}
use Rattle.mesh.specs.Levels.{vertex_count, per}
use Rattle.mesh.specs.Mesh.{Mesh, level_part, neighbour_total}
use Rattle.mesh.proofs.Sizes.{count_mono}
use Rattle.mesh.proofs.Totals.{kept-total_le}
use Rattle.rows.specs.Rows.{Rows, Row}
use Rattle.settling.specs.Gradient.{comparisons}
use Rattle.settling.specs.Settling.{verdict_of, verdicts, drops, settled_slice, from_level, comparisons_for, comparisons_in, atom_verdict_of, atom_level}
use Rattle.builder.specs.BuilderLists.{BuilderLists, slab, slice_at}
use Rattle.builder.specs.Calls.{settled_lists, SettleOut, settle_accepted}
use Rattle.builder.specs.Internal.{SettleReady, AtomSettleReady, atom_settled_slab, tally_from, start, drops_by, dropped_by}
use Rattle.builder.specs.Atom.{AtomSettleOut, atom_row, atom_meshed_refusal, atom_settle_refusal, atom_settle_accepted}
use Rattle.builder.specs.declared.Builder.{Builder}
use Rattle.builder.specs.declared.AtomBuilder.{AtomBuilder}
use Rattle.settling.specs.declared.Tally.{Tally}
use Rattle.settling.specs.declared.Verdict.{Verdict}
use Rattle.settling.specs.declared.AtomVerdict.{AtomVerdict}
use Rattle.lists.proofs.Places.{place}
use Rattle.builder.proofs.Laws.{Meshed, meshed, atom_meshed}
use Rattle.builder.specs.Refusals.{meshed_refusal, settle_refusal}
use Rattle.settling.proofs.Compared.{part_comparisons, part_line, in_times, in_few}
use Rattle.builder.proofs.Turns.{row_energies_lem, rows_count}
use Rattle.builder.proofs.Changes.{tally_gradient, tally_settled, tally_clear, tally_packed, tally_reached}

-- ---- what an accepted settle may count on

-- 1 to 7 were answered yes
settle_meshed : (b : Builder) (ms : Mesh) (l : BuilderLists) (ri : ℕ) → settle_refusal b ms l ri ≡ 0
    → Meshed b ms (length l.store) (length l.rows.kinds) (length l.rows.levels) (length l.rows.values)
unfolding settle_refusal meshed_refusal
settle_meshed b ms l ri e =
    meshed b ms (length l.store) (length l.rows.kinds) (length l.rows.levels) (length l.rows.values) (first_yes e).0

pub ready : (b : Builder) (ms : Mesh) (l : BuilderLists) (ri : ℕ) → settle_refusal b ms l ri ≡ 0 → SettleReady b l ri
unfolding settle_refusal
ready b ms l ri e =
    let g = b.grid in
    let q = first_yes e in
    let f = settle_meshed b ms l ri e in
    let q8 = ask_yes (lit< tt) q.1 in
    let q15 = ask_yes (lit< tt) q8.1 in
    let q11 = ask_yes (lit< tt) q15.1 in
    let in-bins = ltb-true ri g.n_r q8.0 in
    let a = f.asked in
    record {
      top_le = a.top_le;
      level_le = a.level_le;
      slice_le = omega (arith, place ri g.n_r g.n_omega g.n_omega in-bins (omega arith));
      few = omega (arith, mul-le-mul a.rs a.omegas);
      store_le = f.room.store_le;
      same_level = q11.0;
    }

-- ---- what it gives

-- the verdict that the code finds of a row
abbrev found_of : Builder → Mesh → Row Float → Verdict
found_of b ms = verdict_of b.grid.threshold b.grid.beta (level_part b.level ms) (vertex_count b.level)

-- how many slabs reach the gradient: no more than the slice has
reached_is : (b : Builder) (ms : Mesh) (l : BuilderLists) (ri : ℕ) → settle_refusal b ms l ri ≡ 0 → (let vs = map (found_of b ms) (slice_at b l ri) in
    ((tally_from (found_of b ms) b.level (start b.packed) (slice_at b l ri)).reached ≡ comparisons_in 1 vs) × (comparisons_in 1 vs ≤ 65535))
reached_is b ms l ri e =
    let rs = slice_at b l ri in
    let n = rows_count per b.top l (slab b.grid ri 0) b.grid.n_omega in
    let most = (settle_meshed b ms l ri e).asked.omegas in (
      tally_reached (found_of b ms) b.level (start b.packed) rs (omega (arith, n, most)) ∙ zero-add (comparisons_in 1 (map (found_of b ms) rs)),
      omega (arith, n, most, in_few (map (found_of b ms) rs), length-map rs (found_of b ms)),
    )

-- what the count of comparisons asks for
pub count_ready : (b : Builder) (ms : Mesh) (l : BuilderLists) (ri : ℕ) (t : Tally) → settle_refusal b ms l ri ≡ 0
    → t ≡ tally_from (found_of b ms) b.level (start b.packed) (slice_at b l ri)
    → (b.level ≤ 15) × (t.reached ≤ 4294967295) × (neighbour_total ms.counts b.level ≤ vertex_count b.level * 6)
count_ready b ms l ri t e h =
    let f = settle_meshed b ms l ri e in
    let r = reached_is b ms l ri e in
    let few : t.reached ≤ 4294967295 = rw (h, r.0) (omega (arith, r.1)) in
    (omega (arith, f.asked.top_le, f.asked.level_le), few, kept-total_le b.top ms b.level f.asked.level_le f.kept)

pub settle_is : (b : Builder) (ms : Mesh) (l : BuilderLists) (ri : ℕ) (t : Tally) (rows : Rows) → b.packed < 2 ^ 64 → settle_refusal b ms l ri ≡ 0
    → (t ≡ tally_from (found_of b ms) b.level (start b.packed) (slice_at b l ri)) × (rows ≡ settled_lists b.level l.rows (slab b.grid ri 0) (map (found_of b ms) (slice_at b l ri)))
    → ◌≡◌ {A = SettleOut}
    (record {
      answer = record { number = 0; gradient = t.gradient; comparisons = t.reached * (2 * vertex_count b.level * neighbour_total ms.counts b.level); builder = dropped_by b t };
      lists = record { store = l.store; rows = rows };
    })
    (settle_accepted b ms l ri)
unfolding settle_accepted settled_slice dropped_by drops_by drops verdicts
settle_is b ms l ri t rows few e h =
    let c = b.level in
    let rs = slice_at b l ri in
    let f = found_of b ms in
    let z = start b.packed in
    rw (h.0, h.1, tally_gradient f c z rs, tally_settled f c z rs, tally_clear f c z rs, tally_packed f c z rs few, (reached_is b ms l ri e).0, in_times (comparisons (level_part c ms) (vertex_count c)) (map f rs), part_comparisons ms c) refl

-- ---- the same of a table against an atom

pub atom_ready : (b : AtomBuilder) (ms : Mesh) (l : BuilderLists) (ri : ℕ) → atom_settle_refusal b ms l ri ≡ 0
    → AtomSettleReady b l.store ri × (from_level b.level (atom_row b.top l ri) ≡ true)
unfolding atom_settle_refusal atom_meshed_refusal
atom_ready b ms l ri e =
    let q = first_yes e in
    let f = atom_meshed b ms (length l.store) (length l.rows.kinds) (length l.rows.levels) (length l.rows.values) q.0 in
    let q8 = ask_yes (lit< tt) q.1 in
    let q15 = ask_yes (lit< tt) q8.1 in
    let q11 = ask_yes (lit< tt) q15.1 in
    let a = f.asked in
    let fits = place ri b.grid.n_r (vertex_count b.level) (vertex_count b.top) (ltb-true ri b.grid.n_r q8.0) (count_mono b.level b.top a.level_le) in (
      record { top_le = a.top_le; level_le = a.level_le; store_le = omega (arith, fits, f.room.store_le) },
      q11.0,
    )

pub atom_settle_is : (b : AtomBuilder) (ms : Mesh) (l : BuilderLists) (ri : ℕ) (v : AtomVerdict) (rows : Rows) → from_level b.level (atom_row b.top l ri) ≡ true
    → atom_settled_slab b (level_part b.level ms) l.store ri l.rows v rows
    → ◌≡◌ {A = AtomSettleOut}
    (record {
      answer = record {
        number = 0;
        gradient = v.gradient;
        comparisons = comparisons_for (neighbour_total ms.counts b.level) v.verdict;
        builder = record { grid = b.grid; top = b.top; level = atom_level b.grid.threshold b.level v };
      };
      lists = record { store = l.store; rows = rows };
    })
    (atom_settle_accepted b ms l ri)
unfolding atom_settle_accepted
atom_settle_is b ms l ri v rows h t =
    let row = row_energies_lem vertex_count b.top l ri b.level h in
    let found : v ≡ atom_verdict_of b.grid.threshold b.grid.beta (level_part b.level ms) (vertex_count b.level) (atom_row b.top l ri) =
    t.0 ∙ rw (← row) in
    rw (t.1, found, part_line ms b.level) refl
