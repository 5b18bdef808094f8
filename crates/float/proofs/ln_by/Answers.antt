use Rattle.float.specs.Log.{ratio, combined}
use Rattle.float.proofs.ln_by.Goals as goal

pub returns : goal.returns
unfolding ratio combined
returns c = rw c.odd_series-q.ensures
