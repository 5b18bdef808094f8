use Rattle.std.proofs.Common.{ℕ, ◌+◌, ◌-◌, ◌*◌, ◌/◌, ◌%◌, ◌^◌, ◌<◌, not, eqb, sym, ap, ◌∙◌, pos_of_ne-zero, zero-add, arith, lit≤, rules}
use mir.Val.{bool_byte}
use lib.Count.{count_leading_zeros}
use lib.Ieee.{binary64, round}
use Rattle.ieee.specs.Internal.{wide}
use Rattle.ieee.proofs.Steps.{float_law}
use Rattle.ieee.proofs.Words.{lead_fits, lead_top, wide_round}
use Rattle.ieee.proofs.wide.round_wide.Goals as goal
use Rattle.ieee.proofs.wide.round_wide.Goals.{Start, Else-hi-eq0}

high : (c : Start) → c.args.w.hi < 2 ^ 64
high c = search rules

low : (c : Start) → c.args.w.lo < 2 ^ 64
low c = search rules

some : (c : Else-hi-eq0) → 0 < c.args.w.hi
some c = pos_of_ne-zero c.if-hi-eq0.false

pub returns-then-hi-eq0 : goal.returns-then-hi-eq0
returns-then-hi-eq0 c =
    let s = c.before.before in
    c.round64.ensures
    ∙ ap (λ (x : ℕ). round binary64 s.args.neg (x * 2 ^ s.args.t) (2 ^ 5170)) (sym (ap (λ (x : ℕ). wide x s.args.w.lo) c.if-hi-eq0.true ∙ zero-add s.args.w.lo))

pub overflow_add-n : goal.overflow_add-n
overflow_add-n c = record { fits = lead_fits c.args.w.hi c.args.w.lo (some c) (high c.before) (low c.before) }

pub pattern_top-requires : goal.pattern_top-requires
pattern_top-requires c = (lead_top c.args.w.hi c.args.w.lo (some c) (high c.before) (low c.before), omega arith, lit≤ tt, lit≤ tt)

pub returns : goal.returns
returns c =
    let e = c.before.before in
    let s = e.before in
    let hi = s.args.w.hi in
    let lo = s.args.w.lo in
    let z = count_leading_zeros 64 hi in
    let t = s.args.t in
    c.signed64.ensures
    ∙ float_law binary64 s.args.neg ((2 * (hi * 2 ^ z % 2 ^ 64 + lo / 2 / 2 ^ (63 - z)) + bool_byte (not (eqb (lo * 2 ^ z % 2 ^ 64) 0))) * 2 ^ (t + 128 - z)) 4161 c.pattern_top.result c.pattern_top.ensures
    ∙ wide_round hi lo (some e) (high s) (low s) binary64 s.args.neg t 5170 (lit≤ tt)
