-- The comparisons that the sizing gives are those that settle reports. Assumes nothing.
use mathlib.Core.Path.{◌≡◌, refl, sym, ap, ◌∙◌}
use mathlib.Core.Bool.{true, and-eq-true_iff}
use mathlib.Core.List.{List, [], ◌∷◌}
use Prim.Native.Nat.{ℕ, zero, suc, ◌*◌, ◌≤◌}
use native.Mathlib.Omega.{arith}
use lib.ListN.{length}
use lib.Ieee.{Float}
use Rattle.lists.specs.Lists.{every}
use Rattle.mesh.specs.Levels.{vertex_count}
use Rattle.mesh.specs.Mesh.{neighbour_total}
use Rattle.grid.specs.Settings.{counted}
use Rattle.rows.specs.Rows.{Row}
use Rattle.builder.specs.BuilderLists.{BuilderLists, rows_in, slice_at}
use Rattle.builder.specs.declared.Builder.{Builder}
use Rattle.builder.specs.declared.AtomBuilder.{AtomBuilder}
use Rattle.sizing.specs.Sizing.{sized}
use Rattle.sizing.proofs.Levels.{at_level}
use Rattle.ledger.specs.Promise.{ended}
use Rattle.ledger.specs.AtomPromise.{atom_ended}
use Rattle.ledger.specs.Comparisons.{reaches, reaching}
use Rattle.ledger.specs.Foretold.{Foretold, AtomForetold}
use Rattle.ledger.proofs.Comparisons.{reports, atom_reports}
use Rattle.ledger.proofs.Ends.{agree, yes_all}
use Rattle.ledger.proofs.AtomEnds.{agree as atom-agree, yes_all as atom-yes-all}
use Rattle.ledger.proofs.Longest.{size_is}
use Rattle.ledger.proofs.AtomLongest.{size_is as atom-size-is}

pub slice_long : (each : ℕ → ℕ) (top : ℕ) (l : BuilderLists) (n s : ℕ) → length (rows_in each top l s n) ≡ n
unfolding rows_in
slice_long each top l zero s = refl
slice_long each top l (suc n) s = ap suc (slice_long each top l n (suc s))

all_reach : (beta : Float) (rs : List (Row Float)) → every (reaches beta) rs ≡ true → reaching beta rs ≡ length rs
unfolding every reaching
all_reach beta [] e = refl
all_reach beta (r ∷ rs) e =
    let h = (and-eq-true_iff (reaches beta r) (every (reaches beta) rs)).0 e in
    rw (h.0, all_reach beta rs h.1) (omega arith)

pub foretold : Foretold
unfolding sized
foretold h ri k i begins n q =
    let b = (ended h).builder in
    let g = counted h.grid in
    let a = agree h begins in
    let low : b.level ≤ h.top = rw (ap (λ (x : Builder). x.level) a.same) a.low in
    let few : h.top ≤ 15 = (yes_all h begins).asked.top_le in
    let all = all_reach b.grid.beta (slice_at b (ended h).lists ri) q ∙ slice_long _ _ _ _ _ in
    let omegas : b.grid.n_omega ≡ g.n_omega = ap (λ (x : Builder). x.grid.n_omega) a.same in
    reports b h.meshes (ended h).lists ri ∙ rw (n, all, omegas, size_is h begins k i)
    (sym (at_level (λ m. g.n_omega * (2 * vertex_count m * neighbour_total h.meshes.counts m)) (suc h.top) b.level (omega (arith, low)) (omega (arith, few))))

pub atom_foretold : AtomForetold
unfolding sized reaching
atom_foretold h ri begins n q =
    let b = (atom_ended h).builder in
    let a = atom-agree h begins in
    let low : b.level ≤ h.top = rw (ap (λ (x : AtomBuilder). x.level) a.same) a.low in
    let few : h.top ≤ 15 = (atom-yes-all h begins).asked.top_le in
    atom_reports b h.meshes (atom_ended h).lists ri ∙ rw (n, q, atom-size-is h begins)
    (let k = at_level (neighbour_total h.meshes.counts) (suc h.top) b.level (omega (arith, low)) (omega (arith, few)) in rw k (omega arith))
