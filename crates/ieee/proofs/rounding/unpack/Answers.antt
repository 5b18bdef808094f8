use Rattle.std.proofs.Common.{◌≡◌, ℕ, ◌+◌, ◌-◌, ◌*◌, ◌/◌, ◌%◌, ◌^◌, ◌<◌, ◌≤◌, T, leb, sym, refl, ap, ◌∙◌, subst, arith}
use lib.Ieee.{Float, binary64, to_bits, of_fields, fits}
use lib.Ieee.Exact.{HasValue}
use denote.Floats.{passes}
use Rattle.ieee.proofs.Fields.{finite_no_nan, finite_field, as_fields, at_low, at_mid}
use Rattle.ieee.proofs.rounding.unpack.Goals as goal
use Rattle.ieee.proofs.rounding.unpack.Goals.{Start}

-- an `f64` is a value that the format holds
held : (c : Start) → T (fits binary64 c.args.x)
held c = passes _ c.well_formed.0.1

field_is : (b : ℕ) → b / 2 ^ 52 % 2048 ≡ b % 2 ^ 63 / 2 ^ 52
field_is b = omega arith

low-lt : (b : ℕ) → b % 2 ^ 52 < 2 ^ 53
low-lt b = omega arith

lead-lt : (b : ℕ) → 2 ^ 52 + b % 2 ^ 52 < 2 ^ 53
lead-lt b = omega arith

lead-ne : (t : ℕ) → 2 ^ 52 + t ≡ 0 → ⊥
lead-ne t e = omega arith

field-le : (b : ℕ) → (b / 2 ^ 52 % 2048 ≡ 2047 → ⊥) → b / 2 ^ 52 % 2048 - 1 ≤ 2045
field-le b h = omega arith

pub float_to_bits-b : goal.float_to_bits-b
float_to_bits-b c = finite_no_nan c.args.x c.requires

pub returns-then-field-eq0 : goal.returns-then-field-eq0
returns-then-field-eq0 c =
    let x = c.args.x in
    let b = to_bits binary64 x in
    let s = leb (2 ^ 63) b in
    let t = b % 2 ^ 52 in
    record {
      value = subst (λ (y : Float). HasValue y s (t * 2 ^ 0) (2 ^ 1074)) (sym (as_fields binary64 x (held c.before))) (at_low binary64 s (b % 2 ^ 63 / 2 ^ 52) t (sym (field_is b) ∙ c.if-field-eq0.true));
      digits = low-lt b;
      scale = omega arith;
      zero = λ _. refl;
    }

pub returns : goal.returns
returns c =
    let x = c.args.x in
    let b = to_bits binary64 x in
    let s = leb (2 ^ 63) b in
    let t = b % 2 ^ 52 in
    let f = b / 2 ^ 52 % 2048 in
    let last : f ≡ 2047 → ⊥ = λ (e : f ≡ 2047). finite_field binary64 x (held c.before) c.requires (sym (field_is b) ∙ e) in
    record {
      value = subst (λ (y : Float). HasValue y s ((2 ^ 52 + t) * 2 ^ (f - 1)) (2 ^ 1074)) (sym (as_fields binary64 x (held c.before) ∙ ap (λ (y : ℕ). of_fields binary64 s y t) (sym (field_is b)))) (at_mid binary64 s f t c.if-field-eq0.false last);
      digits = lead-lt b;
      scale = field-le b last;
      zero = λ e. absurd (lead-ne t e);
    }
