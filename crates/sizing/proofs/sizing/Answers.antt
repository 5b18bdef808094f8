use Rattle.std.proofs.Common.{◌≤◌, leb-true, lit<, sym, mul-le-mul, arith}
use Rattle.lists.proofs.Asking.{ask_yes, first_yes}
use Rattle.grid.specs.Settings.{counted, fresh_question}
use Rattle.builder.proofs.Laws.{Asked, asked}
use Rattle.table.proofs.OfTail.{tail_small}
use Rattle.sizing.specs.Sizing.{sizing_refusal}
use Rattle.sizing.proofs.sizing.Goals as goal
use Rattle.sizing.proofs.sizing.Goals.{In_default}

-- no question was answered no
held : (c : In_default) → Asked (counted c.args.g) c.args.top c.args.top
unfolding sizing_refusal fresh_question
held c = asked _ _ _ (first_yes (first_yes (sym c.in_default.ensures)).0).0

few : (c : In_default) → c.args.terms ≤ 4294967295
few c = leb-true _ _ (ask_yes (lit< tt) (first_yes (sym c.in_default.ensures)).1).0

pub overflow_cast-m : goal.overflow_cast-m
overflow_cast-m c = omega (arith, (held (goal.at.overflow_cast-m c).In_default).top_le)

pub overflow_mul-slabs : goal.overflow_mul-slabs
overflow_mul-slabs c =
    let h = held (goal.at.overflow_mul-slabs c).In_default in
    rw c.counted-c.ensures (omega (arith, mul-le-mul h.rs h.omegas))

pub overflow_mul-c : goal.overflow_mul-c
overflow_mul-c c =
    let h = held (goal.at.overflow_mul-c c).In_default in
    rw c.counted-c.ensures (omega (arith, h.omegas))

pub sized-requires : goal.sized-requires
sized-requires c =
    let h = held (goal.at.sized-requires c).In_default in
    let small = tail_small _ (few (goal.at.sized-requires c).In_default) in
    rw (c.per_level.ensures, c.counted-c.ensures, c.tail_size-head.ensures)
    (omega (arith, small), omega (arith, mul-le-mul h.rs h.omegas), h.few, h.top_le, omega (arith, h.omegas), omega arith)
