use mathlib.Core.Path.{◌≡◌, sym}
use Prim.Native.Nat.{ℕ, ◌+◌, ◌-◌, ◌*◌, ◌≤◌}
use native.Mathlib.Omega.{arith}
use lib.ListN.{length}
use Rattle.reading.specs.Reading.{entry_at}
use Rattle.span.specs.Spans.{entry_touched}
use Rattle.span.proofs.Touched.{all_more, all_none, row_fits}
use Rattle.span.proofs.questions.entries_touched.Goals as goal
use Rattle.span.proofs.questions.entries_touched.Goals.{In-loop-i}

-- the bytes of row i are inside the file
fits : (c : In-loop-i)
    → (let a = c.args in
    let n = a.t.grid.n_omega in
    let i = c.loop-i.i in
    (a.t.rows_start + ((a.first + i) * n + a.oi) * 10 + 10 ≤ length a.file.now) × (a.first + i ≤ (a.first + i) * n))
fits c =
    let a = c.args in
    row_fits a.t.rows_start a.first c.loop-i.i (a.first + (a.count - 1)) a.t.grid.n_omega a.oi (length a.file.now) (omega (arith, c.loop-i-test.true)) c.requires.0 c.requires.1

pub loop-i-init : goal.loop-i-init
loop-i-init c = all_none _

pub loop-i-preserved : goal.loop-i-preserved
unfolding entry_at
loop-i-preserved c =
    let a = c.args in
    rw (c.entry_touched-touched.ensures, c.loop-i.invariant) (sym (all_more (λ (j : ℕ). entry_touched a.file.now a.t (entry_at a.file.now a.t ((a.first + j) * a.t.grid.n_omega + a.oi))) c.loop-i.i))

pub returns : goal.returns
returns c =
    let a = c.args in
    let e : c.loop-i.i ≡ a.count = omega arith in
    rw (← e) c.loop-i.invariant

pub overflow_add-at : goal.overflow_add-at
overflow_add-at c = omega (arith, fits (goal.at.overflow_add-at c).In-loop-i)

pub overflow_mul-at : goal.overflow_mul-at
overflow_mul-at c = omega (arith, fits (goal.at.overflow_mul-at c).In-loop-i)

pub overflow_add-at-in-loop-i : goal.overflow_add-at-in-loop-i
overflow_add-at-in-loop-i c = omega (arith, fits (goal.at.overflow_add-at-in-loop-i c).In-loop-i)

pub overflow_mul-at-in-loop-i : goal.overflow_mul-at-in-loop-i
overflow_mul-at-in-loop-i c = omega (arith, fits (goal.at.overflow_mul-at-in-loop-i c).In-loop-i)

pub overflow_add-at-in-loop-i-2 : goal.overflow_add-at-in-loop-i-2
overflow_add-at-in-loop-i-2 c = omega (arith, fits (goal.at.overflow_add-at-in-loop-i-2 c).In-loop-i)

pub entry_touched-touched-requires : goal.entry_touched-touched-requires
entry_touched-touched-requires c = (fits (goal.at.entry_touched-touched-requires c).In-loop-i).0
