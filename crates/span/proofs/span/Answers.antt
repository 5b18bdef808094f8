use mathlib.Core.Path.{◌≡◌, sym, ◌∙◌}
use mathlib.Core.Bool.{true}
use Prim.Native.Nat.{◌≤◌, ◌<◌}
use native.Mathlib.Omega.{arith}
use Rattle.lists.proofs.Counting.{yes, no}
use Rattle.span.specs.Spans.{bin_of, ends_valid, ends_inside, rows_touched, span_of}
use Rattle.span.proofs.Outcome.{refused_18, refused_26, bins_order, refused_19, answered, bin_below}
use Rattle.span.proofs.span.Goals as goal
use Rattle.span.proofs.span.Goals.{Else-not-ends_valid, Else-not-ends_inside, After-distance_bin-last, After-rows_touched}

valid : (c : Else-not-ends_valid) → (let a = c.args in ends_valid a.low a.high a.omega ≡ true)
valid c = yes c.ends_valid.ensures c.if-not-ends_valid.false

inside : (c : Else-not-ends_inside) → (let a = c.args in ends_inside a.t.grid a.low a.high ≡ true)
inside c = yes c.ends_inside.ensures c.if-not-ends_inside.false

pub returns-then-not-ends_valid : goal.returns-then-not-ends_valid
returns-then-not-ends_valid c =
    let a = c.args in
    sym (refused_18 a.file.now a.t a.low a.high a.omega (no c.ends_valid.ensures c.if-not-ends_valid.true))

pub returns-then-not-ends_inside : goal.returns-then-not-ends_inside
returns-then-not-ends_inside c =
    let a = c.args in
    sym (refused_26 a.file.now a.t a.low a.high a.omega (valid (goal.at.returns-then-not-ends_inside c).Else-not-ends_valid) (no c.ends_inside.ensures c.if-not-ends_inside.true))

-- the bins are in order, and more than one of them can be counted
ordered : (c : After-distance_bin-last) → (c.distance_bin-first.result ≤ c.distance_bin-last.result) × (c.distance_bin-last.result < 18446744073709551615)
ordered c =
    let a = c.args in (
      rw (c.distance_bin-first.ensures, c.distance_bin-last.ensures) (bins_order a.file.now a.t a.low a.high a.omega (valid (goal.at.After-distance_bin-last c).Else-not-ends_valid) (inside (goal.at.After-distance_bin-last c).Else-not-ends_inside)),
      rw c.distance_bin-last.ensures (bin_below a.high a.t.grid.rmin a.t.grid.dr a.t.grid.n_r (omega (arith, c.well_formed.0))),
    )

-- the rows, by the bins of both ends
touched : (c : After-rows_touched)
    → (let a = c.args in c.rows_touched.result ≡ rows_touched a.file.now a.t (bin_of a.t.grid a.low) (bin_of a.t.grid a.high) a.omega)
touched c = c.rows_touched.ensures ∙ rw (c.distance_bin-first.ensures, c.distance_bin-last.ensures)

pub returns-then-not-rows_touched : goal.returns-then-not-rows_touched
returns-then-not-rows_touched c =
    let a = c.args in
    sym (refused_19 a.file.now a.t a.low a.high a.omega (valid (goal.at.returns-then-not-rows_touched c).Else-not-ends_valid) (inside (goal.at.returns-then-not-rows_touched c).Else-not-ends_inside) (no (touched (goal.at.returns-then-not-rows_touched c).After-rows_touched) c.if-not-rows_touched.true))

pub extremes_of-x-requires : goal.extremes_of-x-requires
extremes_of-x-requires c =
    let o = ordered (goal.at.extremes_of-x-requires c).After-distance_bin-last in
    (o.0, o.1, yes c.rows_touched.ensures c.if-not-rows_touched.false)

pub returns : goal.returns
unfolding span_of
returns c =
    let a = c.args in
    rw (c.extremes_of-x.ensures, c.distance_bin-last.ensures, c.distance_bin-first.ensures) (sym (answered a.file.now a.t a.low a.high a.omega (valid (goal.at.returns c).Else-not-ends_valid) (inside (goal.at.returns c).Else-not-ends_inside) (yes (touched (goal.at.returns c).After-rows_touched) c.if-not-rows_touched.false)))

pub rows_touched-requires : goal.rows_touched-requires
rows_touched-requires c = ordered c
