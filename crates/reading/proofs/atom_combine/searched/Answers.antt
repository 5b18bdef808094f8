use mathlib.Core.Path.{◌∙◌}
use Rattle.reading.proofs.Picked.{joint_alone}
use Rattle.reading.proofs.atom_combine.searched.Goals as goal

pub returns : goal.returns
returns c = c.joint.ensures ∙ joint_alone c.args.number
