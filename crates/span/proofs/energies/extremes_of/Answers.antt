use mathlib.Core.Path.{◌≡◌, refl, ◌∙◌}
use mathlib.Core.Bool.{true}
use Prim.Native.Nat.{ℕ, ◌+◌, ◌-◌, ◌*◌, ◌≤◌}
use native.Mathlib.Omega.{arith}
use lib.ListN.{length, take, drop}
use lib.Ieee.{div, of_bits}
use Rattle.lists.specs.Lists.{for_each}
use Rattle.lists.proofs.Loops.{each_turn}
use Rattle.table.specs.File.{entry_of}
use Rattle.reading.specs.Reading.{entry_at}
use Rattle.span.specs.Spans.{slab_in, entry_touched, entry_included, no_extremes, extremes_of}
use Rattle.span.specs.declared.Extremes.{Extremes}
use Rattle.span.proofs.Touched.{row_held, row_fits}
use Rattle.span.proofs.Included.{counted_few}
use Rattle.span.proofs.energies.extremes_of.Goals as goal
use Rattle.span.proofs.energies.extremes_of.Goals.{In-loop-i}

-- row i: its bytes are inside the file, and it was asked about
held : (c : In-loop-i)
    → (let a = c.args in
    let at = a.t.rows_start + ((a.first + c.loop-i.i) * a.t.grid.n_omega + c.dihedral_bin-oi.result) * 10 in
    (1 ≤ a.t.grid.n_omega) × (at + 10 ≤ length a.file.now) × (entry_touched a.file.now a.t (entry_of (take 10 (drop at a.file.now))) ≡ true))
held c =
    let a = c.args in
    rw c.dihedral_bin-oi.ensures (row_held a.file.now a.t a.first a.last a.omega c.requires.2 c.loop-i.i (omega (arith, c.loop-i-test.true)))

fits : (c : In-loop-i)
    → (let a = c.args in
    let n = a.t.grid.n_omega in
    let b = a.first + c.loop-i.i in
    (a.t.rows_start + (b * n + c.dihedral_bin-oi.result) * 10 + 10 ≤ length a.file.now) × (b ≤ b * n))
fits c =
    let a = c.args in
    let h = held c in
    row_fits a.t.rows_start a.first c.loop-i.i (a.first + c.loop-i.i) a.t.grid.n_omega c.dihedral_bin-oi.result (length a.file.now) (omega arith) h.0 h.1

pub loop-i-init : goal.loop-i-init
unfolding for_each div of_bits
loop-i-init c = (refl, omega arith)

pub loop-i-preserved : goal.loop-i-preserved
unfolding entry_at
loop-i-preserved c =
    let a = c.args in
    let f : ℕ → Extremes → Extremes = λ j z. entry_included a.file.now a.t (entry_at a.file.now a.t (slab_in a.t.grid (a.first + j) a.omega)) z in
    let e : c.entry_included-x.result ≡ f c.loop-i.i c.loop-i.x = c.entry_included-x.ensures ∙ rw c.dihedral_bin-oi.ensures in
    let few = counted_few a.file.now a.t (entry_at a.file.now a.t (slab_in a.t.grid (a.first + c.loop-i.i) a.omega)) c.loop-i.x in
    (e ∙ each_turn f c.loop-i.i no_extremes c.loop-i.x c.loop-i.invariant.0, rw e (omega (arith, few, c.loop-i.invariant.1)))

pub returns : goal.returns
unfolding extremes_of
returns c =
    let a = c.args in
    let e : c.loop-i.i ≡ a.last + 1 - a.first = omega arith in
    rw (← e) c.loop-i.invariant.0

pub overflow_add-at : goal.overflow_add-at
overflow_add-at c = omega (arith, fits (goal.at.overflow_add-at c).In-loop-i)

pub overflow_mul-at : goal.overflow_mul-at
overflow_mul-at c = omega (arith, fits (goal.at.overflow_mul-at c).In-loop-i)

pub overflow_add-at-in-loop-i : goal.overflow_add-at-in-loop-i
overflow_add-at-in-loop-i c = omega (arith, fits (goal.at.overflow_add-at-in-loop-i c).In-loop-i)

pub overflow_mul-at-in-loop-i : goal.overflow_mul-at-in-loop-i
overflow_mul-at-in-loop-i c = omega (arith, fits (goal.at.overflow_mul-at-in-loop-i c).In-loop-i)

pub overflow_add-at-in-loop-i-2 : goal.overflow_add-at-in-loop-i-2
overflow_add-at-in-loop-i-2 c = omega (arith, fits (goal.at.overflow_add-at-in-loop-i-2 c).In-loop-i)

pub entry_included-x-requires : goal.entry_included-x-requires
entry_included-x-requires c = ((held (goal.at.entry_included-x-requires c).In-loop-i).1, (held (goal.at.entry_included-x-requires c).In-loop-i).2, omega (arith, c.loop-i.invariant.1, c.loop-i-test.true, c.requires.1))
