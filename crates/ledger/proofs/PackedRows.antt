-- The packed energies of the rows in lent lists, where rows are replaced. Assumes nothing.
use mathlib.Core.Path.{◌≡◌, refl, sym, ap, ◌∙◌}
use mathlib.Core.Bool.{true, false}
use mathlib.Core.List.{List, [], ◌∷◌, map}
use mathlib.Core.Logic.{◌⊎◌, inl, inr}
use mathlib.Core.Option.{Option, none, some}
use Prim.Native.Nat.{ℕ, zero, suc, ◌+◌, ◌*◌, ◌≤◌, ◌<◌}
use native.Mathlib.Nat.{suc-mul, eq-or-lt_of_le}
use native.Mathlib.Omega.{arith}
use lib.ListN.{length, get_or, take, drop, length-set}
use lib.Seq.{get_or-set_same, get_or-set_other}
use lib.Ieee.{Float}
use Rattle.mesh.specs.Levels.{per}
use Rattle.mesh.proofs.Sizes.{per_mono}
use Rattle.rows.specs.declared.SlabResolution.{SlabResolution}
use Rattle.rows.specs.declared.SlabResolution.TheVariants.{Scalar, Mesh as OnMesh, Repulsive}
use Rattle.rows.specs.Rows.{Rows, kind_of, level_of, value_of, resolution_of, resolution_at, replaced, Row, scalar, repulsive, mesh}
use Rattle.settling.specs.Settling.{new_row, in_place_of, replaced_by, row_energies, settled_rows, packed_row, packed_rows}
use Rattle.settling.specs.Internal.{packed_in}
use Rattle.settling.specs.declared.Verdict.{Verdict}
use Rattle.settling.proofs.Changes.{same-packed}
use Rattle.builder.specs.BuilderLists.{BuilderLists, row_in, row_at, rows_in, rows_from}
use Rattle.builder.specs.Calls.{settled_lists}
use Rattle.table.proofs.Back.{All}
use Rattle.table.proofs.OfRows.{Good}

-- ---- one row

pub packed_at : (top : ℕ) (l : BuilderLists) (s : ℕ) → packed_row (row_at top l s) ≡ packed_in (resolution_at l.rows s)
unfolding row_in
packed_at top l s = sym (same-packed (resolution_at l.rows s) (take (per (get_or l.rows.levels s 0)) (drop (s * per top) l.store)))

-- the row that was put there, and any other
pub own_row : (r : Rows) (s : ℕ) (x : SlabResolution) → s < length r.kinds → s < length r.levels → packed_in (resolution_at (replaced r s x) s) ≡ packed_in x
unfolding resolution_at resolution_of replaced
own_row r s (Scalar y) h k = rw (get_or-set_same r.kinds s 0 0 h) refl
own_row r s (OnMesh v true) h k = rw (get_or-set_same r.kinds s 3 0 h, get_or-set_same r.levels s v 0 k) refl
own_row r s (OnMesh v false) h k = rw (get_or-set_same r.kinds s 2 0 h, get_or-set_same r.levels s v 0 k) refl
own_row r s Repulsive h k = rw (get_or-set_same r.kinds s 1 0 h) refl

pub other_row : (r : Rows) (s t : ℕ) (x : SlabResolution) → (t ≡ s → ⊥) → resolution_at (replaced r s x) t ≡ resolution_at r t
unfolding resolution_at replaced
other_row r s t x n = rw (get_or-set_other r.kinds s t (kind_of x) 0 n, get_or-set_other r.levels s t (level_of x) 0 n, get_or-set_other r.values s t (value_of x) 0 n) refl

-- ---- all rows

module _ (top : ℕ) (store store' : List Float) where
  abbrev sum : List Float → Rows → ℕ → ℕ → ℕ
  sum e r at n = packed_rows (rows_from top (record { store = e; rows = r }) at n)

  -- it goes by the lists of numbers alone
  same_sum : (a b : Rows) (n at : ℕ) → ((s : ℕ) → at ≤ s → resolution_at a s ≡ resolution_at b s) → sum store a at n ≡ sum store' b at n
  unfolding rows_in packed_rows
  same_sum a b zero at h = refl
  same_sum a b (suc n) at h =
      let here : packed_row (row_at top (record { store = store; rows = a }) at) ≡ packed_row (row_at top (record { store = store'; rows = b }) at) =
      packed_at top (record { store = store; rows = a }) at ∙ ap packed_in (h at (omega arith)) ∙ sym (packed_at top (record { store = store'; rows = b }) at) in
      rw (here, same_sum a b n (suc at) (λ s i. h s (omega (arith, i)))) refl

  -- with row s replaced
  module _ (r : Rows) (s : ℕ) (x : SlabResolution) (h : s < length r.kinds) (k : s < length r.levels) where
    abbrev Replaced : ℕ → ℕ → Type 0
    Replaced at n = sum store' (replaced r s x) at n + packed_in (resolution_at r s) ≡ sum store r at n + packed_in x

    first_is : (at : ℕ) → packed_row (row_at top (record { store = store; rows = r }) at) ≡ packed_in (resolution_at r at)
    first_is at = packed_at top (record { store = store; rows = r }) at

    then_is : (at : ℕ) → packed_row (row_at top (record { store = store'; rows = replaced r s x }) at) ≡ packed_in (resolution_at (replaced r s x) at)
    then_is at = packed_at top (record { store = store'; rows = replaced r s x }) at

    more : (n at : ℕ) → (at ≡ s) ⊎ (at < s) → (at < s → Replaced (suc at) n) → Replaced at (suc n)
    unfolding rows_in packed_rows
    more n at (inl e) rest =
        let own : packed_in (resolution_at (replaced r s x) at) ≡ packed_in x = rw e (own_row r s x h k) in
        let old : packed_in (resolution_at r at) ≡ packed_in (resolution_at r s) = rw e refl in
        let others = same_sum r (replaced r s x) n (suc at) (λ t q. sym (other_row r s t x (λ z. absurd (omega (arith, q, z, e))))) in
        omega (arith, first_is at, then_is at, own, old, others)
    more n at (inr lt) rest =
        let same : packed_in (resolution_at (replaced r s x) at) ≡ packed_in (resolution_at r at) = ap packed_in (other_row r s at x (λ z. absurd (omega (arith, z, lt)))) in
        omega (arith, first_is at, then_is at, same, rest lt)

    pub one-sum : (n at : ℕ) → at ≤ s → s < at + n → Replaced at n
    one-sum zero at i j = absurd (omega arith)
    one-sum (suc n) at i j = more n at (eq-or-lt_of_le i) (λ lt. one-sum n (suc at) (omega (arith, lt)) (omega (arith, j)))

-- with a slice settled, whose rows are those of l as they were lent
module _ (top count c : ℕ) (f : Row Float → Verdict) (l : BuilderLists) where
  abbrev total : Rows → ℕ
  total r = packed_rows (rows_from top (record { store = l.store; rows = r }) 0 count)

  one_row : (now : Rows) (s : ℕ) → s < count → count ≤ length now.kinds → count ≤ length now.levels → resolution_at now s ≡ resolution_at l.rows s → (x : Option SlabResolution)
      → total (replaced_by now s x) + packed_row (row_at top l s) ≡ total now + packed_row (in_place_of (row_at top l s) x)
  one_row now s h j k e none = refl
  one_row now s h j k e (some x) =
      let o = one-sum top l.store l.store now s x (omega (arith, h, j)) (omega (arith, h, k)) count 0 (omega arith) (omega (arith, h)) in
      let old : packed_row (row_at top l s) ≡ packed_in (resolution_at now s) = packed_at top l s ∙ ap packed_in (sym e) in
      let new = same-packed x (row_energies (row_at top l s)) in
      omega (arith, o, old, new)

  longer : (now : Rows) (s : ℕ) (x : Option SlabResolution) → (length (replaced_by now s x).kinds ≡ length now.kinds) × (length (replaced_by now s x).levels ≡ length now.levels)
  unfolding replaced
  longer now s none = (refl, refl)
  longer now s (some x) = (length-set now.kinds s (kind_of x), length-set now.levels s (level_of x))

  past : (now : Rows) (s t : ℕ) (x : Option SlabResolution) → s < t → resolution_at (replaced_by now s x) t ≡ resolution_at now t
  past now s t none h = refl
  past now s t (some x) h = other_row now s t x (λ z. absurd (omega (arith, z, h)))

  pub settled-sum : (n s : ℕ) (now : Rows) → s + n ≤ count → count ≤ length now.kinds → count ≤ length now.levels → ((t : ℕ) → s ≤ t → resolution_at now t ≡ resolution_at l.rows t)
      → (let rs = rows_from top l s n in total (settled_lists c now s (map f rs)) + packed_rows rs ≡ total now + packed_rows (settled_rows c rs (map f rs)))
  unfolding settled_lists settled_rows packed_rows rows_in
  settled-sum zero s now h j k e = refl
  settled-sum (suc n) s now h j k e =
      let r = row_at top l s in
      let x = new_row c (f r) in
      let w = longer now s x in
      let here = one_row now s (omega (arith, h)) j k (e s (omega arith)) x in
      let rest = settled-sum n (suc s) (replaced_by now s x) (omega (arith, h)) (omega (arith, j, w.0)) (omega (arith, k, w.1)) (λ t i. past now s t x (omega (arith, i)) ∙ e t (omega (arith, i))) in
      omega (arith, here, rest)

-- ---- the ledger's rows

packed_few : (top : ℕ) (r : Row Float) → Good per top r → packed_row r ≤ per top
packed_few top (scalar x) q = omega arith
packed_few top repulsive q = omega arith
packed_few top (mesh v b e) q = per_mono v top q.0

pub sum_few : (top : ℕ) (rs : List (Row Float)) → All (Good per top) rs → packed_rows rs ≤ length rs * per top
unfolding packed_rows
sum_few top [] q = omega arith
sum_few top (r ∷ rs) q = omega (arith, packed_few top r q.0, sum_few top rs q.1, suc-mul (length rs) (per top))
