use Rattle.std.proofs.Common.{◌≡◌, ◌+◌, ◌^◌, ◌≤◌, not, ◌&&◌, T, sym, subst, arith}
use lib.Ieee.{Float, binary32, binary64, to_bits, of_bits, fits, is_nan}
use lib.Ieee.Fits.{and_i}
use denote.Floats.{passes}
use Rattle.ieee.specs.Narrow.{narrowed}
use Rattle.ieee.proofs.Fields.{finite_no_nan, no_nan_bits, narrowed_fits}
use Rattle.ieee.proofs.Plain.{rounded, plain_finite, plain_room, plain-narrowed, plain-number}
use Rattle.ieee.proofs.narrowing.narrow_plain.Goals as goal
use Rattle.ieee.proofs.narrowing.narrow_plain.Goals.{Start}

pub float_to_bits-b : goal.float_to_bits-b
float_to_bits-b c = finite_no_nan c.args.x (plain_finite c.args.x c.requires)

room : (c : Start) → to_bits binary64 c.args.x + 2 ^ 52 ≤ 2 ^ 64
room c = plain_room c.args.x (passes _ c.well_formed.0.1) c.requires

pub overflow_add-kept : goal.overflow_add-kept
overflow_add-kept c = omega (arith, room c)

pub overflow_add-kept-2 : goal.overflow_add-kept-2
overflow_add-kept-2 c = omega (arith, room c)

pub overflow_mul-result : goal.overflow_mul-result
overflow_mul-result c = omega (arith, room c)

is : (c : Start) → of_bits binary64 (rounded (to_bits binary64 c.args.x)) ≡ narrowed c.args.x
is c = plain-narrowed c.args.x (passes _ c.well_formed.0.1) c.requires

pub float_from_bits-result : goal.float_from_bits-result
float_from_bits-result c = no_nan_bits binary64 _ _ (is c) (plain-number c.args.x c.requires)

pub float_to_float-result : goal.float_to_float-result
float_to_float-result c =
    let s = c.before in
    subst (λ (y : Float). T (fits binary32 y && not (is_nan y))) (sym (is s)) (and_i (fits binary32 (narrowed s.args.x)) (not (is_nan (narrowed s.args.x))) (narrowed_fits s.args.x) (plain-number s.args.x s.requires))

pub returns : goal.returns
returns c = is c.before
