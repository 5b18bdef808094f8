use Rattle.std.proofs.Common.{◌≡◌, ℕ, ◌-◌, ◌*◌, ◌%◌, ◌^◌, ◌<◌, ◌≤◌, true, T, sym, refl, subst, lt_of_lt_of_le, mod-eq_of_lt, arith, lit≤}
use denote.Floats.{passes}
use lib.Count.{count_leading_zeros}
use lib.Ieee.{nan, inf, binary64, fits, to_bits, of_bits, neg, div}
use Rattle.ieee.proofs.Steps.{Lead, lead}
use Rattle.ieee.proofs.RootSteps.{unbounded, zero_alone, neither}
use Rattle.float.specs.Log.{logarithm}
use Rattle.float.proofs.Leading.{normal_value, low_pos, raised_value, no_finite}
use Rattle.float.proofs.ln.Goals as goal
use Rattle.float.proofs.ln.Goals.{Start, Then-b-lt4503599627370496}

held : (c : Start) → T (fits binary64 c.args.x)
held c = passes _ c.well_formed.0.1

-- the digits moved up
moved : (c : Then-b-lt4503599627370496) → let b = to_bits binary64 c.args.x in (11 ≤ count_leading_zeros 64 b) × Lead b 11 (count_leading_zeros 64 b - 11)
unfolding of_bits
moved c = let s = c.before.before in lead (to_bits binary64 s.args.x) 11 (low_pos s.args.x (held s) c.if-x.true c.if-b-lt4503599627370496.true) (omega (arith, c.if-b-lt4503599627370496.true))

whole : (c : Then-b-lt4503599627370496) → let b = to_bits binary64 c.args.x in let z = count_leading_zeros 64 b - 11 in b * 2 ^ z % 2 ^ 64 ≡ b * 2 ^ z
whole c = mod-eq_of_lt (lt_of_lt_of_le (moved c).1.high (lit≤ tt))

pub overflow_sub-z : goal.overflow_sub-z
overflow_sub-z c = (moved c).0

pub ln_digits-requires : goal.ln_digits-requires
ln_digits-requires c = let m = (moved c).1 in rw (whole c) (m.low, lt_of_lt_of_le m.high (lit≤ tt), omega (arith, m.room))

pub returns-then-b-lt4503599627370496 : goal.returns-then-b-lt4503599627370496
returns-then-b-lt4503599627370496 c =
    let k = c.before in
    let s = k.before.before in
    let b = to_bits binary64 s.args.x in
    let z = count_leading_zeros 64 b - 11 in
    let w = sym (whole k) in
    let m = (moved k).1 in
    c.ln_digits.ensures s.args.x (held s) (raised_value s.args.x z (b * 2 ^ z % 2 ^ 64) (held s) k.if-b-lt4503599627370496.true (whole k) (subst (λ (y : ℕ). 2 ^ 52 ≤ y) w m.low) (subst (λ (y : ℕ). y < 2 ^ 53) w m.high))

pub returns-then-b-lt9218868437227405312 : goal.returns-then-b-lt9218868437227405312
returns-then-b-lt9218868437227405312 c = let k = c.before in let s = k.before.before.before in c.ln_digits-then-b-lt9218868437227405312.ensures s.args.x (held s) (normal_value s.args.x (held s) k.if-b-lt4503599627370496.false k.if-b-lt9218868437227405312.true)

pub returns-then-x : goal.returns-then-x
unfolding of_bits logarithm
returns-then-x c = let s = c.before.before.before in let l = c.if-x.true in unbounded (λ x. x ≡ logarithm x) refl s.args.x l (no_finite s.args.x (held s) l c.if-b-lt9218868437227405312.false)

pub returns-then-x-2 : goal.returns-then-x-2
unfolding of_bits neg div logarithm
returns-then-x-2 c = zero_alone (λ x. inf true ≡ logarithm x) (λ s e. refl) c.args.x c.if-x-2.true

pub returns : goal.returns
unfolding of_bits div logarithm
returns c = neither (λ x. nan ≡ logarithm x) refl refl (λ m e. refl) c.args.x c.if-x.false c.if-x-2.false
