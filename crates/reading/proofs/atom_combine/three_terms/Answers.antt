use mathlib.Core.Path.{refl}
use Rattle.reading.specs.Atom.{three_terms}
use Rattle.reading.proofs.atom_combine.three_terms.Goals as goal

pub returns : goal.returns
unfolding three_terms
returns c = refl
