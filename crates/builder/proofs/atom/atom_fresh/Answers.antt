use Rattle.std.proofs.Common.{sym, arith}
use Rattle.builder.proofs.Laws.{atom_meshed}
use Rattle.builder.proofs.atom.atom_fresh.Goals as goal

pub overflow_cast-made : goal.overflow_cast-made
overflow_cast-made c = let f = atom_meshed _ _ _ _ _ _ (sym (rw c.of.ensures at c.in_ok-atom_meshed_refusal.ensures)) in omega (arith, f.asked.top_le)

pub atom_clear_slabs-requires : goal.atom_clear_slabs-requires
atom_clear_slabs-requires c =
    let f = atom_meshed _ _ _ _ _ _ (sym (rw c.of.ensures at c.in_ok-atom_meshed_refusal.ensures)) in
    rw c.vertex_count-z.ensures (f.room.store_le, f.room.kinds_le, f.room.levels_le, f.room.values_le)
