use Rattle.std.proofs.Common.{ℕ, ◌*◌, ◌^◌, sym, ap, ◌∙◌, mul_assoc, mul_comm, arith, pow-add}
use Rattle.ieee.proofs.Words.{shifted_is, shifted_high}
use Rattle.ieee.proofs.wide.shifted.Goals as goal

pub returns : goal.returns
returns c =
    let k = c.args.k in
    let t = c.args.t in
    (shifted_is (k * 2048) t (omega arith) ∙ mul_assoc k 2048 (2 ^ t) ∙ ap (λ (x : ℕ). k * x) (mul_comm 2048 (2 ^ t) ∙ sym (pow-add 2 t 11)), shifted_high (k * 2048) t (omega arith) c.requires.1)
