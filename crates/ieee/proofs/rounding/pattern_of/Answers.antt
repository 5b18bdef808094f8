use Rattle.std.proofs.Common.{ℕ, ◌*◌, ◌%◌, ◌^◌, ◌≤◌, sym, ap, ◌∙◌, subst, mod-eq_of_lt, pos_of_ne-zero, zero-mul, arith, pow_pos}
use lib.Count.{count_leading_zeros}
use lib.Ieee.Fits.{two-le_pos}
use Rattle.ieee.proofs.Steps.{Lead, normal_form, pattern-zero, pattern_lead}
use Rattle.ieee.proofs.rounding.pattern_of.Goals as goal
use Rattle.ieee.proofs.rounding.pattern_of.Goals.{Else-w-eq0}

norm : (c : Else-w-eq0) → Lead c.args.w 0 (count_leading_zeros 64 c.args.w)
norm c = normal_form c.args.w (pos_of_ne-zero c.if-w-eq0.false) c.ranges.w.fits

pub returns-then-w-eq0 : goal.returns-then-w-eq0
returns-then-w-eq0 c =
    let s = c.before in
    sym (pattern-zero s.args.p (s.args.w * 2 ^ s.args.e) (2 ^ 4096) (two-le_pos s.args.p s.requires.1) (pow_pos 4096) (ap (λ (x : ℕ). x * 2 ^ s.args.e) c.if-w-eq0.true ∙ zero-mul (2 ^ s.args.e)))

pub pattern_top-requires : goal.pattern_top-requires
pattern_top-requires c = (subst (λ (x : ℕ). 2 ^ 63 ≤ x) (sym (mod-eq_of_lt (norm c).high)) (norm c).low, omega arith, c.requires.1, c.requires.2)

pub returns : goal.returns
returns c =
    let s = c.before.before in
    let z = count_leading_zeros 64 s.args.w in
    c.pattern_top.ensures ∙ pattern_lead s.args.p s.args.w s.args.e z (s.args.w * 2 ^ z % 2 ^ 64) (norm c.before).room (mod-eq_of_lt (norm c.before).high)
