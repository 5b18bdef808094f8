use Rattle.std.proofs.Common.{◌≡◌, ℕ, List, map, length, take, subst, ap, ◌∙◌, arith}
use lib.Ieee.{Float}
use Rattle.lists.specs.Lists.{put}
use Rattle.lists.proofs.Loops.{part_least}
use Rattle.ieee.specs.Narrow.{narrowed}
use Rattle.ieee.proofs.narrowing.narrow_list.Goals as goal

pub returns : goal.returns
returns c =
    c.narrow_all.ensures
    ∙ ap (λ (y : List Float). put c.args.to.now 0 (map narrowed y))
    (subst (λ (k : ℕ). take k c.args.from.now ≡ take (length c.args.to.now) c.args.from.now) (omega arith) (part_least {A = Float} c.args.from.now (length c.args.to.now) c.min-n.result c.min-n.ensures))
