use Rattle.std.proofs.Common.{◌+◌, ◌-◌, ◌*◌, ◌/◌, ◌%◌, ◌^◌, false, sym, ◌∙◌, zero-add, arith, le→leb}
use native.Mathlib.Nat.{min-eq_left}
use lib.Ieee.{binary64, in_float}
use Rattle.ieee.proofs.Steps.{no_nan}
use Rattle.float.proofs.Leading.{by_digits}
use Rattle.float.proofs.ln_digits.Goals as goal

pub float_from_bits-m : goal.float_from_bits-m
float_from_bits-m c = let n = (1023 - c.halvings-up.result) * 2 ^ 52 + c.args.b % 2 ^ 52 in rw zero-add at (no_nan binary64 false n n (sym (min-eq_left (omega arith))))

pub int_to_float-field : goal.int_to_float-field
unfolding in_float
int_to_float-field c =
    let h = c.before in
    le→leb (h.args.b / 2 ^ 52 + h.halvings-up.result) (2 ^ 53) (omega (arith, h.halvings-up.ensures.1, h.requires.1))

pub returns : goal.returns
returns c =
    let h = c.before.before.before in
    let s = h.before in
    let b = s.args.b in
    λ x f v. c.ln_by.ensures ∙ by_digits x (b % 2 ^ 52) (b / 2 ^ 52) s.args.bias h.halvings-up.result f (omega arith) (omega (arith, s.requires.0)) (omega (arith, s.requires.1)) s.requires.2 h.halvings-up.ensures.0 v
