-- The neighbour comparisons that settle reports. Assumes nothing.
use mathlib.Core.Path.{◌≡◌, refl, ◌∙◌}
use mathlib.Core.Bool.{Bool, true, false, not, cond}
use mathlib.Core.List.{List, [], ◌∷◌, map}
use Prim.Native.Nat.{ℕ, ◌+◌, ◌*◌}
use native.Mathlib.Omega.{arith}
use lib.Dec.{eqb}
use lib.Ieee.{Float, binary64, of_bits, div, lt}
use Rattle.mesh.specs.Levels.{vertex_count}
use Rattle.mesh.specs.Mesh.{Mesh, level_part, neighbour_total}
use Rattle.rows.specs.Rows.{Row, scalar, repulsive, mesh}
use Rattle.settling.specs.Gradient.{zero, all_repulsive, gradient, atom_gradient, mean_narrowed, comparisons}
use Rattle.settling.specs.Settling.{by_gradient, verdict, verdict_of, verdicts, settles, comparisons_for, comparisons_in, atom_verdict, atom_verdict_of}
use Rattle.settling.specs.declared.Verdict.{Verdict}
use Rattle.settling.specs.declared.Verdict.TheVariants.{Blocked, Isotropic, Smooth, Rough}
use Rattle.settling.specs.declared.AtomVerdict.{AtomVerdict}
use Rattle.settling.proofs.Compared.{part_comparisons, part_line, in_times}
use Rattle.builder.specs.BuilderLists.{BuilderLists, slice_at}
use Rattle.builder.specs.Refusals.{settle_refusal}
use Rattle.builder.specs.Calls.{settle_accepted, settle_out}
use Rattle.builder.specs.Atom.{atom_row, atom_settle_refusal, atom_settle_accepted, atom_settle_out}
use Rattle.builder.specs.declared.Builder.{Builder}
use Rattle.builder.specs.declared.AtomBuilder.{AtomBuilder}
use Rattle.ledger.specs.Comparisons.{reaches, reaching, unless_refused, Reports, AtomReports}

-- whatever the gradient makes of a slab, it was reached
graded : (threshold : Float) (e : List Float) (x : Float) → settles (by_gradient threshold e x) ≡ true
unfolding by_gradient
graded threshold e x = by (lt x (div binary64 threshold (of_bits binary64 0x4024_0000_0000_0000))) (lt x threshold)
  where
    by : (p q : Bool) → settles (cond p (Isotropic (mean_narrowed e)) (cond q (Smooth x) (Rough x))) ≡ true
    by true q = refl
    by false true = refl
    by false false = refl

-- .. unless all its energies are repulsive
unless : (q : Bool) (v : Verdict) → settles v ≡ true → settles (cond q Blocked v) ≡ not q
unless true v h = refl
unless false v h = h

atom_unless : (q : Bool) (a v : AtomVerdict) → settles a.verdict ≡ false → settles v.verdict ≡ true → settles (cond q a v).verdict ≡ not q
atom_unless true a v g h = g
atom_unless false a v g h = h

settles_is : (threshold beta : Float) (m : Mesh) (n : ℕ) (r : Row Float) → settles (verdict_of threshold beta m n r) ≡ reaches beta r
unfolding verdict
settles_is threshold beta m n (scalar x) = refl
settles_is threshold beta m n repulsive = refl
settles_is threshold beta m n (mesh v b e) =
    unless (all_repulsive beta e) (by_gradient threshold e (gradient m n beta e)) (graded threshold e (gradient m n beta e))

atom_settles_is : (threshold beta : Float) (m : Mesh) (n : ℕ) (r : Row Float) → settles (atom_verdict_of threshold beta m n r).verdict ≡ reaches beta r
unfolding atom_verdict
atom_settles_is threshold beta m n (scalar x) = refl
atom_settles_is threshold beta m n repulsive = refl
atom_settles_is threshold beta m n (mesh v b e) =
    let x = atom_gradient m n beta e in
    let w : AtomVerdict = record { verdict = Blocked; gradient = zero } in
    atom_unless (all_repulsive beta e) w (record { verdict = by_gradient threshold e x; gradient = x }) refl (graded threshold e x)

-- the slabs that the verdicts count
counted : (threshold beta : Float) (m : Mesh) (n : ℕ) (rs : List (Row Float)) → comparisons_in 1 (map (verdict_of threshold beta m n) rs) ≡ reaching beta rs
unfolding comparisons_in comparisons_for reaching
counted threshold beta m n [] = refl
counted threshold beta m n (r ∷ rs) = rw (settles_is threshold beta m n r, counted threshold beta m n rs)

accepted_reports : (b : Builder) (m : Mesh) (l : BuilderLists) (ri : ℕ)
    → (settle_accepted b m l ri).answer.comparisons ≡ reaching b.grid.beta (slice_at b l ri) * (2 * vertex_count b.level * neighbour_total m.counts b.level)
unfolding settle_accepted verdicts
accepted_reports b m l ri =
    let c = b.level in
    let p = level_part c m in
    let rs = slice_at b l ri in
    let vs = map (verdict_of b.grid.threshold b.grid.beta p (vertex_count c)) rs in
    in_times (comparisons p (vertex_count c)) vs ∙ rw (counted b.grid.threshold b.grid.beta p (vertex_count c) rs, part_comparisons m c)

-- beside a number that refuses
none : (number k : ℕ) → eqb number 0 ≡ false → 0 ≡ unless_refused number k
none number k d = rw d refl

-- "For each slab that reaches the gradient these are 2·n times the total of neighbours"
pub reports : Reports
unfolding settle_out settle_accepted
reports b m l ri = by (eqb (settle_refusal b m l ri) 0) refl
  where
    by : (q : Bool) → eqb (settle_refusal b m l ri) 0 ≡ q → let a = (settle_out b m l ri).answer in
        a.comparisons ≡ unless_refused a.number (reaching b.grid.beta (slice_at b l ri) * (2 * vertex_count b.level * neighbour_total m.counts b.level))
    by true d = rw d (accepted_reports b m l ri)
    by false d = rw d (none (settle_refusal b m l ri) (reaching b.grid.beta (slice_at b l ri) * (2 * vertex_count b.level * neighbour_total m.counts b.level)) d)

once : (q : Bool) (x : ℕ) → cond q x 0 ≡ (cond q 1 0 + 0) * x
once true x = omega arith
once false x = omega arith

atom_accepted_reports : (b : AtomBuilder) (m : Mesh) (l : BuilderLists) (ri : ℕ)
    → (atom_settle_accepted b m l ri).answer.comparisons ≡ reaching b.grid.beta (atom_row b.top l ri ∷ []) * neighbour_total m.counts b.level
unfolding atom_settle_accepted comparisons_for reaching
atom_accepted_reports b m l ri =
    let c = b.level in
    let r = atom_row b.top l ri in
    rw (atom_settles_is b.grid.threshold b.grid.beta (level_part c m) (vertex_count c) r, part_line m c) (once (reaches b.grid.beta r) (neighbour_total m.counts c))

-- "in a table against an atom the total once"
pub atom_reports : AtomReports
unfolding atom_settle_out atom_settle_accepted
atom_reports b m l ri = by (eqb (atom_settle_refusal b m l ri) 0) refl
  where
    by : (q : Bool) → eqb (atom_settle_refusal b m l ri) 0 ≡ q → let a = (atom_settle_out b m l ri).answer in
        a.comparisons ≡ unless_refused a.number (reaching b.grid.beta (atom_row b.top l ri ∷ []) * neighbour_total m.counts b.level)
    by true d = rw d (atom_accepted_reports b m l ri)
    by false d = rw d (none (atom_settle_refusal b m l ri) (reaching b.grid.beta (atom_row b.top l ri ∷ []) * neighbour_total m.counts b.level) d)
