use Rattle.std.proofs.Common.{sym, mul-le-mul, arith}
use Rattle.builder.proofs.Laws.{meshed}
use Rattle.builder.proofs.fresh.Goals as goal

pub overflow_mul-slabs : goal.overflow_mul-slabs
overflow_mul-slabs c =
    let f = meshed c.fresh_builder-made.result _ _ _ _ _ (sym c.in_ok-meshed_refusal.ensures) in
    omega (arith, mul-le-mul f.asked.rs f.asked.omegas)

pub overflow_cast-made : goal.overflow_cast-made
overflow_cast-made c = let f = meshed c.fresh_builder-made.result _ _ _ _ _ (sym c.in_ok-meshed_refusal.ensures) in omega (arith, f.asked.top_le)

pub clear_slabs-requires : goal.clear_slabs-requires
clear_slabs-requires c =
    let f = meshed c.fresh_builder-made.result _ _ _ _ _ (sym c.in_ok-meshed_refusal.ensures) in
    rw c.per_level.ensures (f.room.store_le, f.room.kinds_le)
