-- The neighbour comparisons of a slab and of a slice. Assumes nothing.
use Rattle.std.proofs.Common.{◌≡◌, ℕ, ◌+◌, ◌*◌, ◌≤◌, Bool, true, false, cond, List, [], ◌∷◌, length, sym, ap, ◌∙◌, arith}
use Rattle.lists.specs.Lists.{sum}
use Rattle.lists.proofs.Sums.{sum_eq, sum-add, sum_const, sum_swap}
use Rattle.mesh.specs.Levels.{vertex_count}
use Rattle.mesh.specs.Mesh.{Mesh, degree, level_part, neighbour_total}
use Rattle.mesh.proofs.Totals.{part_total}
use Rattle.settling.specs.Gradient.{comparisons, line_comparisons}
use Rattle.settling.specs.Settling.{settles, comparisons_for, comparisons_in}
use Rattle.settling.specs.declared.Verdict.{Verdict}

-- each vertex of n beside each of n: its neighbours n times over
pairs : (n : ℕ) (d : ℕ → ℕ) → sum n (λ i. sum n (λ j. d i + d j)) ≡ 2 * n * sum n d
pairs n d =
    let first : sum n (λ i. sum n (λ j. d i)) ≡ n * sum n d = sum_swap n n (λ i j. d i) ∙ sum_const n (sum n d) in
    let both = sum_eq n (λ i. sum n (λ j. d i + d j)) (λ i. sum n (λ j. d i) + sum n d) (λ i h. sym (sum-add n (λ j. d i) d)) in
    omega (arith, first, both, sum-add n (λ i. sum n (λ j. d i)) (λ i. sum n d), sum_const n (sum n d))

-- "2·n times the total of neighbours"
pub part_comparisons : (m : Mesh) (c : ℕ) → comparisons (level_part c m) (vertex_count c) ≡ 2 * vertex_count c * neighbour_total m.counts c
unfolding comparisons
part_comparisons m c = pairs (vertex_count c) (degree (level_part c m)) ∙ ap (λ (t : ℕ). 2 * vertex_count c * t) (part_total m c)

-- "in a table against an atom the total once"
pub part_line : (m : Mesh) (c : ℕ) → line_comparisons (level_part c m) (vertex_count c) ≡ neighbour_total m.counts c
unfolding line_comparisons
part_line m c = part_total m c

-- as many times x as slabs reach the gradient, which are no more than there are slabs
for_times : (x : ℕ) (v : Verdict) → (comparisons_for x v ≡ comparisons_for 1 v * x) × (comparisons_for 1 v ≤ 1)
unfolding comparisons_for
for_times x v = by (settles v)
  where
    by : (b : Bool) → (cond b x 0 ≡ cond b 1 0 * x) × (cond b 1 0 ≤ 1)
    by true = (omega arith, omega arith)
    by false = (omega arith, omega arith)

pub in_times : (x : ℕ) (vs : List Verdict) → comparisons_in x vs ≡ comparisons_in 1 vs * x
unfolding comparisons_in
in_times x [] = omega arith
in_times x (v ∷ vs) = omega (arith, (for_times x v).0, in_times x vs)

pub in_few : (vs : List Verdict) → comparisons_in 1 vs ≤ length vs
unfolding comparisons_in
in_few [] = omega arith
in_few (v ∷ vs) = omega (arith, (for_times 1 v).1, in_few vs)
