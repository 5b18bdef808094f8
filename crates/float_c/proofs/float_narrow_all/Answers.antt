use mathlib.Core.Path.{◌∙◌}
use Rattle.float_c.proofs.Laws.{all-put}
use Rattle.float_c.proofs.float_narrow_all.Goals as goal

pub returns : goal.returns
returns c = c.narrow_list.ensures ∙ all-put c.args.xs.now c.args.out.now
