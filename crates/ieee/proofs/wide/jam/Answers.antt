use Rattle.std.proofs.Common.{◌≡◌, ℕ, ◌+◌, ◌-◌, ◌*◌, ◌/◌, ◌%◌, ◌^◌, ◌<◌, ◌≤◌, ap, ◌∙◌, arith}
use Rattle.ieee.specs.Internal.{stuck}
use Rattle.ieee.proofs.Words.{jam_all, jam_high, jam_low, joined_lt, one_shifted}
use Rattle.ieee.proofs.wide.jam.Goals as goal
use Rattle.ieee.proofs.wide.jam.Goals.{Start}

high : (c : Start) → c.args.w.hi < 2 ^ 64
high c = omega arith

low : (c : Start) → c.args.w.lo < 2 ^ 64
low c = omega arith

under : (k : ℕ) → k < 128 → 64 ≤ k → (k - 64 < 64) × (k ≡ k - 64 + 64)
under k a b = (omega arith, omega arith)

pub returns-then-k-ge128 : goal.returns-then-k-ge128
returns-then-k-ge128 c =
    let s = c.before.before.before.before in
    jam_all s.args.w.hi s.args.w.lo s.args.k c.stick.result c.stick-s.result (high s) (low s) c.if-k-ge128.true c.stick.ensures c.stick-s.ensures

pub returns-then-k-ge64 : goal.returns-then-k-ge64
returns-then-k-ge64 c =
    let s = c.before.before.before.before.before in
    let k = s.args.k in
    let hi = s.args.w.hi in
    let u = under k c.if-k-ge128.false c.if-k-ge64.true in
    jam_high hi s.args.w.lo (k - 64) k c.stick-then-k-ge64.result c.stick-s-then-k-ge64.result (high s) (low s) u.1
    (c.stick-then-k-ge64.ensures ∙ ap (λ (x : ℕ). stuck (hi / 2 ^ (k - 64)) (hi % x)) (one_shifted (k - 64) u.0))
    c.stick-s-then-k-ge64.ensures

pub overflow_add-hi : goal.overflow_add-hi
overflow_add-hi c = record { fits = joined_lt c.args.w.hi c.args.w.lo c.args.k (high c.before.before.before) (low c.before.before.before) c.if-k-ge64.false }

pub returns : goal.returns
returns c =
    let s = c.before.before.before.before in
    let k = s.args.k in
    let hi = s.args.w.hi in
    let lo = s.args.w.lo in
    jam_low hi lo k (high s) (low s) c.if-k-ge64.false c.stick-s-2.result
    (c.stick-s-2.ensures ∙ ap (λ (x : ℕ). stuck (hi * 2 ^ (64 - k) % 2 ^ 64 + lo / 2 ^ k) (lo % x)) (one_shifted k c.if-k-ge64.false))
