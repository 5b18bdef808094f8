use mathlib.Core.Path.{sym, ap, ◌∙◌}
use Rattle.reading.specs.Internal.{energy_alone}
use Rattle.reading.proofs.AtomShown.{atom_alone}
use Rattle.icotable.proofs.atom.icotable_atom_boltzmann.Goals as goal

pub returns : goal.returns
returns c =
    rw (← c.into.ensures) (c.into-2.ensures ∙ ap energy_alone c.atom_lookup_boltzmann.ensures ∙ sym (atom_alone _ _ _ _ _ _))
