use Rattle.std.proofs.Common.{◌≡◌, ℕ, ◌+◌, ◌-◌, ◌*◌, ◌%◌, ◌^◌, ◌<◌, ◌≤◌, sym, refl, ap, ◌∙◌, inl, mul_assoc, mul-one, arith, lit<, pow-add}
use lib.Ieee.{binary64}
use Rattle.ieee.specs.Internal.{wide}
use Rattle.ieee.proofs.Terms.{sum-exact}
use Rattle.ieee.proofs.fused.aligned.Goals as goal

-- d + 11 places above e are as many as g + 1074
places : (e g d : ℕ) → e ≤ 4090 → g ≤ 2045 → d < 63 → d ≡ (g + 1063 + (2 ^ 64 - e)) % 2 ^ 64 → d + 11 + (e + 3022) ≡ g + 4096
places e g d E G l h = omega (arith, h)

pub returns-then-d-lt63 : goal.returns-then-d-lt63
returns-then-d-lt63 c =
    let e = c.args.e in
    let g = c.args.g in
    let d = (g + 1063 + (2 ^ 64 - e)) % 2 ^ 64 in
    let b = wide c.shifted.result.hi c.shifted.result.lo in
    record {
      exact = b;
      scale = 1;
      some = lit< tt;
      fine = inl (mul-one b);
      same = sum-exact binary64 c.args.sp c.args.sc (wide c.product.result.hi c.product.result.lo) b (c.args.m * c.args.n * 2 ^ (e + 3022)) (c.args.k * 2 ^ (g + 4096)) (e + 3022) 5170
          (ap (λ (x : ℕ). x * 2 ^ (e + 3022)) c.product.ensures.0)
          (ap (λ (x : ℕ). x * 2 ^ (e + 3022)) c.shifted.ensures.0
          ∙ mul_assoc c.args.k (2 ^ (d + 11)) (2 ^ (e + 3022))
          ∙ ap (λ (x : ℕ). c.args.k * x) (sym (pow-add 2 (d + 11) (e + 3022)) ∙ ap (λ (x : ℕ). 2 ^ x) (places e g d c.requires.2 c.requires.4 c.if-d-lt63.true refl)));
      first = omega (arith, c.product.ensures.1);
      second = omega (arith, c.shifted.ensures.1);
      places = omega arith;
    }
