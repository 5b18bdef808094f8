use mathlib.Core.Path.{sym}
use native.Mathlib.Nat.{mul-le-mul}
use native.Mathlib.Omega.{arith}
use Rattle.lists.proofs.Asking.{first_yes}
use Rattle.builder.proofs.Laws.{asked}
use Rattle.writer.proofs.files.write_question.Goals as goal

pub overflow_mul-slabs : goal.overflow_mul-slabs
overflow_mul-slabs c =
    let b = c.args.b in
    let f = asked b.grid b.top b.level (first_yes (sym c.in_ok-meshed_refusal.ensures)).0 in
    omega (arith, mul-le-mul f.rs f.omegas)
