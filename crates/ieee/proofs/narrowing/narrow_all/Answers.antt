use Rattle.std.proofs.Common.{sym, ◌∙◌}
use lib.Ieee.{nan}
use Rattle.lists.proofs.Loops.{every_at}
use Rattle.ieee.specs.Internal.{plain}
use Rattle.ieee.proofs.narrowing.narrow_all.Goals as goal

pub narrow_by-requires-clause-may : goal.narrow_by-requires-clause-may
narrow_by-requires-clause-may c = λ k h. every_at plain c.args.from.now k nan (sym c.all_plain.ensures ∙ c.if-all_plain.true) h
