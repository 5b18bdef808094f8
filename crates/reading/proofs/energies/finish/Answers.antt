use mathlib.Core.Path.{refl}
use Rattle.std.proofs.lemmas.Result.{err_from_is_err_and}
use Rattle.reading.specs.Internal.{finished, StagedInside}
use Rattle.reading.proofs.energies.finish.Goals as goal

pub energy-requires : goal.energy-requires
unfolding StagedInside
energy-requires c = rw (c.in_ok-energy.was, c.in-Pair.is) at c.requires

pub nine_terms-requires : goal.nine_terms-requires
unfolding StagedInside
nine_terms-requires c = rw (c.in_ok-energy.was, c.in-Faces.is) at c.requires

pub returns-in_err-energy : goal.returns-in_err-energy
unfolding finished
returns-in_err-energy c =
    let p = err_from_is_err_and c.from_residual.result c.from_residual.ensures.1 in
    rw (p.1, p.2, c.in_err-energy.was) refl

pub returns-in-Known : goal.returns-in-Known
unfolding finished
returns-in-Known c = rw (c.in_ok-energy.was, c.in-Known.is) refl

pub returns-in-Pair : goal.returns-in-Pair
unfolding finished
returns-in-Pair c = rw (c.in_ok-energy.was, c.in-Pair.is, c.energy.ensures) refl

pub returns-in-Faces : goal.returns-in-Faces
unfolding finished
returns-in-Faces c = rw (c.in_ok-energy.was, c.in-Faces.is, c.plain.ensures, c.nine_terms.ensures) refl
