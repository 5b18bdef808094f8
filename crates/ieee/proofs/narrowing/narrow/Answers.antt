use Rattle.std.proofs.Common.{ℕ, ◌+◌, cond, T, sym, ap, ◌∙◌, subst}
use lib.Ieee.{binary32, binary64, top, of_bits, div, lt}
use lib.Ieee.Compare.{differs_from_itself}
use Rattle.ieee.specs.Narrow.{narrowed}
use Rattle.ieee.proofs.Fields.{no_nan_of_same, narrowed_nan}
use Rattle.ieee.specs.Internal.{named}
use Rattle.ieee.proofs.Halves.{decided_le, narrowed_by_case, narrow_outside}
use Rattle.ieee.proofs.narrowing.narrow.Goals as goal

pub signed32-requires : goal.signed32-requires
signed32-requires c =
    decided_le c.args.x c.decide-d.result.neg (named c.decide-d.result.case) c.decide-d.result.cut c.act_on.result c.decide-d.ensures c.act_on.ensures

pub returns-then-is_within : goal.returns-then-is_within
returns-then-is_within c =
    c.signed32.ensures ∙ narrowed_by_case c.args.x c.decide-d.result.neg (named c.decide-d.result.case) c.decide-d.result.cut c.act_on.result c.decide-d.ensures c.act_on.ensures

pub returns-then-x : goal.returns-then-x
unfolding of_bits div
returns-then-x c = sym (ap narrowed (differs_from_itself c.args.x (subst T (sym c.if-x.true) tt)) ∙ narrowed_nan)

pub returns : goal.returns
returns c =
    let x = c.args.x in
    c.signed32-2.ensures
    ∙ ap (λ (m : ℕ). of_bits binary32 (cond (lt x (of_bits binary64 0)) (top binary32) 0 + m)) c.act_on-2.ensures
    ∙ narrow_outside x (sym c.is_within.ensures ∙ c.if-is_within.false) (no_nan_of_same x c.if-x.false)
