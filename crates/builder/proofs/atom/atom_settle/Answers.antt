use Rattle.std.proofs.Common.{sym}
use Rattle.mesh.specs.Lent.{lent}
use Rattle.builder.specs.BuilderLists.{lists_of}
use Rattle.builder.specs.Atom.{atom_settle_out}
use Rattle.builder.proofs.Accepted.{atom_ready, atom_settle_is}
use Rattle.builder.proofs.atom.atom_settle.Goals as goal

pub returns : goal.returns
unfolding atom_settle_out
returns c =
    let a = c.args in
    let l = lists_of a.store.now a.kinds.now a.levels.now a.values.now in
    let held = (atom_ready a.b (lent a.mesh.now) l a.ri (sym c.in_ok-atom_settle_refusal.ensures)).1 in
    let told = rw c.level_part-part.ensures at c.atom_settle_slab-v.ensures in
    rw (← c.in_ok-atom_settle_refusal.ensures, c.atom_level-level.ensures, c.atom_compared.ensures) (atom_settle_is a.b (lent a.mesh.now) l a.ri _ _ held told)
