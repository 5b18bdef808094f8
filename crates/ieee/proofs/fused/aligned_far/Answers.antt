use Rattle.std.proofs.Common.{ℕ, ◌+◌, ◌*◌, ◌^◌, sym, refl, ap, ◌∙◌, inl, zero-add, zero-mul, mul-one, arith, lit<}
use lib.Ieee.{binary64, sum}
use Rattle.ieee.specs.Internal.{wide}
use Rattle.ieee.proofs.Terms.{factors_zero, sum-exact, sum_swap}
use Rattle.ieee.proofs.fused.aligned_far.Goals as goal

pub returns-then-m-n : goal.returns-then-m-n
returns-then-m-n c =
    let k = c.args.k in
    let g = c.args.g + 4096 in
    let e = c.args.e + 3022 in
    record {
      exact = wide 0 k;
      scale = 1;
      some = lit< tt;
      fine = inl (mul-one (wide 0 k));
      same = sum-exact binary64 c.args.sp c.args.sc 0 (wide 0 k) (c.args.m * c.args.n * 2 ^ e) (k * 2 ^ g) g 5170
          (zero-mul (2 ^ g) ∙ sym (ap (λ (x : ℕ). x * 2 ^ e) (factors_zero c.args.m c.args.n c.if-m-n.true) ∙ zero-mul (2 ^ e)))
          (ap (λ (x : ℕ). x * 2 ^ g) (zero-add k));
      first = omega arith;
      second = omega arith;
      places = omega arith;
    }

pub returns-then-k-eq0 : goal.returns-then-k-eq0
returns-then-k-eq0 c =
    let g = c.args.g + 4096 in
    let e = c.args.e + 3022 in
    record {
      exact = 0;
      scale = 1;
      some = lit< tt;
      fine = inl refl;
      same = sum-exact binary64 c.args.sp c.args.sc (wide c.product.result.hi c.product.result.lo) 0 (c.args.m * c.args.n * 2 ^ e) (c.args.k * 2 ^ g) e 5170
          (ap (λ (x : ℕ). x * 2 ^ e) c.product.ensures.0)
          (zero-mul (2 ^ e) ∙ sym (ap (λ (x : ℕ). x * 2 ^ g) c.if-k-eq0.true ∙ zero-mul (2 ^ g)));
      first = omega (arith, c.product.ensures.1);
      second = omega arith;
      places = omega arith;
    }

pub returns-then-q-p : goal.returns-then-q-p
returns-then-q-p c =
    let a = c.at_scale.ensures in
    record {
      exact = a.exact;
      scale = a.scale;
      some = a.some;
      fine = a.fine;
      same = a.same
          ∙ ap (λ (x : ℕ). sum binary64 c.args.sp x c.args.sc (wide c.addend_term-q.result.w.hi c.addend_term-q.result.w.lo * 2 ^ c.addend_term-q.result.t) (2 ^ 5170)) c.product_term-p.ensures.value
          ∙ ap (λ (x : ℕ). sum binary64 c.args.sp (c.args.m * c.args.n * 2 ^ (c.args.e + 3022)) c.args.sc x (2 ^ 5170)) c.addend_term-q.ensures.value;
      first = a.first;
      second = a.second;
      places = a.places;
    }

pub returns : goal.returns
returns c =
    let q = c in
    let p = c in
    let s = c in
    let a = c.at_scale-2.ensures in
    record {
      exact = a.exact;
      scale = a.scale;
      some = a.some;
      fine = a.fine;
      same = a.same
          ∙ ap (λ (x : ℕ). sum binary64 s.args.sc x s.args.sp (wide p.product_term-p.result.w.hi p.product_term-p.result.w.lo * 2 ^ p.product_term-p.result.t) (2 ^ 5170)) q.addend_term-q.ensures.value
          ∙ ap (λ (x : ℕ). sum binary64 s.args.sc (s.args.k * 2 ^ (s.args.g + 4096)) s.args.sp x (2 ^ 5170)) p.product_term-p.ensures.value
          ∙ sum_swap binary64 s.args.sc s.args.sp (s.args.k * 2 ^ (s.args.g + 4096)) (s.args.m * s.args.n * 2 ^ (s.args.e + 3022)) (2 ^ 5170);
      first = a.first;
      second = a.second;
      places = a.places;
    }
