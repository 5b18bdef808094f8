use Rattle.std.proofs.Common.{sym, ap, ◌∙◌}
use Rattle.ieee.specs.Cases.{number}
use Rattle.ieee.proofs.ByCase.{by_case}
use Rattle.ieee.proofs.Halves.{in_overflow, in_none}
use Rattle.ieee.proofs.cases.narrow_case.Goals as goal

pub returns-then-is_within : goal.returns-then-is_within
returns-then-is_within c =
    let d = c.decide-d.ensures in
    c.number.ensures ∙ ap number d.cased ∙ sym (by_case c.args.x c.decide-d.result.neg d.a d.c d.some d.value).numbered

pub returns-then-is_finite : goal.returns-then-is_finite
returns-then-is_finite c =
    c.number-then-is_finite.ensures ∙ in_overflow c.args.x (sym c.is_within.ensures ∙ c.if-is_within.false) (sym c.is_finite.ensures ∙ c.if-is_finite.true)

pub returns-else-is_finite : goal.returns-else-is_finite
returns-else-is_finite c = in_none c.args.x (sym c.is_finite.ensures ∙ c.if-is_finite.false)
