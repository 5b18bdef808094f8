use Rattle.std.proofs.Common.{◌≡◌, ℕ, ◌+◌, ◌-◌, ◌*◌, ◌%◌, ◌^◌, Bool, true, false, T, leb, negsuc, sym, refl, ap, ◌∙◌, arith, le-leb}
use mathlib.Core.Bool.{and-eq-true_iff}
use denote.Floats.{passes}
use borrow.Author.Tests.{lt-leb}
use lib.Ieee.{Float, fin, binary64, rem, mul, div, neg, of_bits, to_bits, round, fits}
use lib.Ieee.Compare.{differs_from_itself}
use Rattle.ieee.proofs.Fields.{no_nan_of_same}
use Rattle.float.specs.Order.{tau}
use Rattle.float.proofs.Fields.{field}
use Rattle.float.proofs.Far.{far_is, no_number, from_four, places}
use Rattle.float.proofs.Remainders.{within-tau}
use Rattle.float.proofs.remainder.Goals as goal

pub returns-then-x : goal.returns-then-x
returns-then-x c = let t = (and-eq-true_iff _ _).0 c.if-x.true in sym (within-tau c.args.x (passes _ c.well_formed.0.1) t.0 t.1)

pub returns-then-x-2 : goal.returns-then-x-2
unfolding rem
returns-then-x-2 c = rw (differs_from_itself c.args.x (passes _ c.if-x-2.true)) refl

pub float_to_bits-b : goal.float_to_bits-b
float_to_bits-b c = no_nan_of_same c.args.x c.if-x-2.false

pub returns-then-field-eq2047 : goal.returns-then-field-eq2047
unfolding div of_bits
returns-then-field-eq2047 c = sym (no_number c.args.x (passes _ c.well_formed.0.1) c.if-field-eq2047.true)

pub overflow_sub-field : goal.overflow_sub-field
overflow_sub-field c = from_four c.args.x (passes _ c.well_formed.0.1) c.if-x.false

-- of either sign
by_sign : (x : Float) (s : Bool) (k r : ℕ) → T (fits binary64 x) → (field binary64 (to_bits binary64 x) ≡ 2047 → ⊥) → field binary64 (to_bits binary64 x) ≡ 1025 + k
    → r ≡ (to_bits binary64 x % 2 ^ 52 + 2 ^ 52) * 2 ^ k % 7074237752028440 → leb (2 ^ 63) (to_bits binary64 x) ≡ s → round binary64 s r (2 ^ 50) ≡ rem binary64 x tau
by_sign x s k r h f g e b = sym (far_is x h f k r g e ∙ ap (λ (t : Bool). round binary64 t r (2 ^ 50)) b)

pub returns-then-b-lt9223372036854775808 : goal.returns-then-b-lt9223372036854775808
unfolding of_bits
returns-then-b-lt9223372036854775808 c =
    let x = c.args.x in
    let h : T (fits binary64 x) = passes _ c.well_formed.0.1 in
    let r = c.digits_by_tau-r.result in
    let k : ℕ = field binary64 (to_bits binary64 x) - 1025 in
    let o = from_four x h c.if-x.false in
    ap (λ (y : Float). mul binary64 y (fin false 1 (negsuc 49))) c.of_u64.ensures
    ∙ places false r c.digits_by_tau-r.ensures.1
    ∙ by_sign x false k r h c.if-field-eq2047.false (omega (arith, o)) c.digits_by_tau-r.ensures.0 (lt-leb (2 ^ 63) (to_bits binary64 x) c.if-b-lt9223372036854775808.true)

pub returns-else-b-lt9223372036854775808 : goal.returns-else-b-lt9223372036854775808
unfolding of_bits neg
returns-else-b-lt9223372036854775808 c =
    let x = c.args.x in
    let h : T (fits binary64 x) = passes _ c.well_formed.0.1 in
    let r = c.digits_by_tau-r.result in
    let k : ℕ = field binary64 (to_bits binary64 x) - 1025 in
    let o = from_four x h c.if-x.false in
    ap (λ (y : Float). mul binary64 y (fin true 1 (negsuc 49))) c.of_u64-else-b-lt9223372036854775808.ensures
    ∙ places true r c.digits_by_tau-r.ensures.1
    ∙ by_sign x true k r h c.if-field-eq2047.false (omega (arith, o)) c.digits_by_tau-r.ensures.0 (le-leb (2 ^ 63) (to_bits binary64 x) (omega (arith, c.if-b-lt9223372036854775808.false)))
