use Rattle.std.proofs.Common.{ℕ, ◌-◌, ◌*◌, ◌%◌, ◌^◌, ◌<◌, ◌≤◌, sym, subst, lt_of_lt_of_le, mod-eq_of_lt, lit≤, rules}
use lib.Count.{count_leading_zeros}
use Rattle.ieee.proofs.Terms.{normal, product_placed}
use Rattle.ieee.proofs.Steps.{Lead}
use Rattle.ieee.proofs.fused.product_term.Goals as goal
use Rattle.ieee.proofs.fused.product_term.Goals.{Start, After-product}

norm-m : (c : Start) → (1 ≤ count_leading_zeros 64 c.args.m) × Lead c.args.m 1 (count_leading_zeros 64 c.args.m - 1) × (5 ≤ count_leading_zeros 64 c.args.m - 1)
norm-m c = normal c.args.m 1 c.requires.0 c.requires.1 (lit≤ tt)

norm-n : (c : Start) → (1 ≤ count_leading_zeros 64 c.args.n) × Lead c.args.n 1 (count_leading_zeros 64 c.args.n - 1) × (5 ≤ count_leading_zeros 64 c.args.n - 1)
norm-n c = normal c.args.n 1 c.requires.2 c.requires.3 (lit≤ tt)

word : (a : ℕ) → a < 2 ^ 63 → a % 2 ^ 64 < 2 ^ 63
word a h = subst (λ (x : ℕ). x < 2 ^ 63) (sym (mod-eq_of_lt (lt_of_lt_of_le h (lit≤ tt)))) h

low : (c : After-product) → c.product.result.lo < 2 ^ 64
low c = search rules

pub overflow_sub-y : goal.overflow_sub-y
overflow_sub-y c = (norm-m c).0

pub overflow_sub-z : goal.overflow_sub-z
overflow_sub-z c = (norm-n c).0

pub product-requires : goal.product-requires
product-requires c = (word (c.args.m * 2 ^ (count_leading_zeros 64 c.args.m - 1)) (norm-m c).1.high, word (c.args.n * 2 ^ (count_leading_zeros 64 c.args.n - 1)) (norm-n c).1.high)

pub returns : goal.returns
returns c =
    let k = c.before in
    product_placed k.args.m k.args.n k.args.e (count_leading_zeros 64 k.args.m - 1) (count_leading_zeros 64 k.args.n - 1) c.product.result.hi c.product.result.lo (norm-m k).1 (norm-n k).1 (norm-m k).2 (norm-n k).2 k.requires.4 (low c) c.product.ensures.0
