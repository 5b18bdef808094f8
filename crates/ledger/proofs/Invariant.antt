-- The lists of a builder hold the ledger's rows, through every list of calls, refused ones included. Assumes nothing.
use mathlib.Core.Path.{◌≡◌, refl, ◌∙◌}
use Rattle.lists.proofs.Counting.{chosen}
use mathlib.Core.Bool.{Bool, true, false, not, cond, and-eq-true_iff}
use mathlib.Core.Logic.{◌⊎◌, inl, inr}
use mathlib.Core.List.{List, map}
use Prim.Native.Nat.{ℕ, zero, suc, ◌+◌, ◌*◌, ◌≤◌, ◌<◌}
use native.Mathlib.Omega.{arith}
use lib.ListN.{length, get_or, set, take, drop, replicate, length-set, length-replicate, get_or-replicate}
use lib.Seq.{sets, get_or-set_same, get_or-set_other, set-get_or, drop-set-lt, drop-cons}
use lib.Dec.{T}
use lib.Ieee.{Float, binary32, binary64, fits, of_bits, to_bits, is_nan, lt, div}
use borrow.Author.Tests.{eqb-true, le-leb}
use Rattle.lists.specs.Lists.{every, put}
use Rattle.lists.proofs.Places.{place}
use Rattle.lists.proofs.Written.{length-put}
use Rattle.locator.proofs.Entries.{get_d_put}
use Rattle.ieee.proofs.Pack.{le_or_lt}
use Rattle.mesh.specs.Mesh.{Mesh}
use Rattle.rows.specs.declared.SlabResolution.{SlabResolution}
use Rattle.rows.specs.declared.SlabResolution.TheVariants.{Scalar, Mesh as OnMesh, Repulsive}
use Rattle.rows.specs.Rows.{Rows, row_room, kind_of, level_of, value_of, resolution_at, replaced, known, row_known, Row, scalar, repulsive, mesh, row_with}
use Rattle.rows.proofs.Replaced.{Held, numbers_back}
use Rattle.ieee.proofs.Fields.{narrowed_fits}
use Rattle.settling.specs.Gradient.{zero as nought, all_repulsive, gradient, atom_gradient, mean_narrowed}
use Rattle.settling.specs.Settling.{by_gradient, verdict, verdict_of, atom_verdict, atom_verdict_of, new_row, in_place_of, settled_rows, from_level, row_energies, replaced_by}
use Rattle.builder.specs.BuilderLists.{BuilderLists, row_in, rows_in, slab_room, rows_known}
use Rattle.builder.specs.Calls.{filled_slabs, settled_lists}
use Rattle.settling.specs.declared.AtomVerdict.{AtomVerdict}
use Rattle.settling.specs.declared.Verdict.{Verdict}
use Rattle.settling.specs.declared.Verdict.TheVariants.{Empty as empty, Blocked as blocked, Isotropic as isotropic, Smooth as smooth, Rough as rough}
use Rattle.builder.proofs.Laws.{Roomy}
use Rattle.table.proofs.Accepts.{all_is}
use Rattle.table.proofs.Back.{All}
use Rattle.table.proofs.OfRows.{Good}
use Rattle.ledger.proofs.Store.{put_same, other_slab, all_replicate, all_set, all_at}

-- ---- a row of the ledger, and where the lists hold it

abbrev numbers_of : Row Float → SlabResolution
numbers_of (scalar x) = Scalar x
numbers_of repulsive = Repulsive
numbers_of (mesh v b e) = OnMesh v b

-- slab s of a store, of slabs of z energies, begins with a row's energies
abbrev Stored : ℕ → List Float → ℕ → Row Float → Type 0
Stored z store s r = take (length (row_energies r)) (drop (s * z) store) ≡ row_energies r

abbrev Holds : ℕ → List Float → Rows → ℕ → Row Float → Type 0
Holds z store l s r =
    (get_or l.kinds s 0 ≡ kind_of (numbers_of r)) × (get_or l.levels s 0 ≡ level_of (numbers_of r)) × (get_or l.values s 0 ≡ value_of (numbers_of r)) × Stored z store s r

-- store and rows hold the rows of a ledger: `count` slabs, a slab of level v having `each v` energies
pub record Fit (each : ℕ → ℕ) (count top : ℕ) (store : List Float) (l : Rows) (rows : List (Row Float)) : Type 0 where
  pub room : Roomy count (each top) (length store) (length l.kinds) (length l.levels) (length l.values)
  pub many : length rows ≡ count
  pub good : All (Good each top) rows
  pub at : (s : ℕ) → s < count → Holds (each top) store l s (get_or rows s repulsive)

-- a finer level has more energies
abbrev pub Rising : (ℕ → ℕ) → Type 0
Rising each = (v w : ℕ) → v ≤ w → each v ≤ each w

short : (each : ℕ → ℕ) → Rising each → (top : ℕ) (r : Row Float) → Good each top r → length (row_energies r) ≤ each top
short each rise top (scalar x) q = omega arith
short each rise top repulsive q = omega arith
short each rise top (mesh v b e) q = omega (arith, q.1, rise v top q.0)

-- ---- a row replaced, the store perhaps with it

module _ (each : ℕ → ℕ) (rise : Rising each) (count top : ℕ) (store : List Float) (l : Rows) (rows : List (Row Float)) (a : Fit each count top store l rows)
    (s : ℕ) (h : s < count) (r : Row Float) (q : Good each top r) (store' : List Float) (wide : length store' ≡ length store) (own : Stored (each top) store' s r)
    (others : (t k : ℕ) → (t ≡ s → ⊥) → k ≤ each top → take k (drop (t * each top) store') ≡ take k (drop (t * each top) store)) where
  row_after : (t : ℕ) → t < count → Dec (t ≡ s) → Holds (each top) store' (replaced l s (numbers_of r)) t (get_or (set rows s r) t repulsive)
  unfolding replaced
  row_after t i (yes e) =
      rw (e, get_or-set_same rows s r repulsive (omega (arith, a.many))) (
        get_or-set_same l.kinds s (kind_of (numbers_of r)) 0 (omega (arith, a.room.kinds_le)),
        get_or-set_same l.levels s (level_of (numbers_of r)) 0 (omega (arith, a.room.levels_le)),
        get_or-set_same l.values s (value_of (numbers_of r)) 0 (omega (arith, a.room.values_le)),
        own,
      )
  row_after t i (no e) =
      let o = a.at t i in
      let z = all_at (Good each top) rows t repulsive (omega (arith, a.many)) a.good in
      rw (get_or-set_other rows s t r repulsive e) (
        get_or-set_other l.kinds s t (kind_of (numbers_of r)) 0 e ∙ o.0,
        get_or-set_other l.levels s t (level_of (numbers_of r)) 0 e ∙ o.1,
        get_or-set_other l.values s t (value_of (numbers_of r)) 0 e ∙ o.2,
        others t (length (row_energies (get_or rows t repulsive))) e (short each rise top (get_or rows t repulsive) z) ∙ o.3,
      )

  pub fit_set : Fit each count top store' (replaced l s (numbers_of r)) (set rows s r)
  unfolding replaced
  fit_set =
      record {
        room = record {
          store_le = omega (arith, a.room.store_le);
          kinds_le = rw length-set a.room.kinds_le;
          levels_le = rw length-set a.room.levels_le;
          values_le = rw length-set a.room.values_le;
        };
        many = length-set rows s r ∙ a.many;
        good = all_set (Good each top) rows s r q a.good;
        at = λ t i. row_after t i (native.Mathlib.Decide.ℕ_discrete t s);
      }

-- ---- the rows that the lists hold

row_by : (each : ℕ → ℕ) (top : ℕ) (store : List Float) (s : ℕ) (r : Row Float) → Good each top r → Stored (each top) store s r
    → row_with (numbers_of r) (take (each (level_of (numbers_of r))) (drop (s * each top) store)) ≡ r
row_by each top store s (scalar x) q h = refl
row_by each top store s repulsive q h = refl
row_by each top store s (mesh v b e) q h = rw (← q.1, h)

held_row : (each : ℕ → ℕ) (top : ℕ) (r : Row Float) → Good each top r → Held (numbers_of r)
held_row each top (scalar x) q = q
held_row each top repulsive q = tt
held_row each top (mesh v b e) q = tt

known_row : (each : ℕ → ℕ) (top : ℕ) (r : Row Float) → Good each top r → known top (kind_of (numbers_of r)) (level_of (numbers_of r)) ≡ true
unfolding known
known_row each top (scalar x) q = refl
known_row each top repulsive q = refl
known_row each top (mesh v true e) q = le-leb v top q.0
known_row each top (mesh v false e) q = le-leb v top q.0

module _ (each : ℕ → ℕ) (count top : ℕ) (store : List Float) (l : Rows) (rows : List (Row Float)) (a : Fit each count top store l rows) where
  pub good_at : (s : ℕ) → s < count → Good each top (get_or rows s repulsive)
  good_at s h = all_at (Good each top) rows s repulsive (omega (arith, a.many)) a.good

  pub row_is : (s : ℕ) → s < count → row_in each top (record { store = store; rows = l }) s ≡ get_or rows s repulsive
  unfolding row_in resolution_at
  row_is s h =
      let o = a.at s h in
      let r = get_or rows s repulsive in
      rw (o.0, o.1, o.2, numbers_back (numbers_of r) (held_row each top r (good_at s h))) (row_by each top store s r (good_at s h) o.3)

  pub rows_are : (n s : ℕ) → s + n ≤ count → rows_in each top (record { store = store; rows = l }) s n ≡ take n (drop s rows)
  unfolding rows_in
  rows_are zero s h = refl
  rows_are (suc n) s h = rw (drop-cons rows s repulsive (omega (arith, a.many)), row_is s (omega arith), rows_are n (suc s) (omega arith))

  pub row_known_lem : (s : ℕ) → s < count → row_known top l s ≡ true
  row_known_lem s h = let o = a.at s h in rw (o.0, o.1) (known_row each top (get_or rows s repulsive) (good_at s h))

  pub rows-known : (n s : ℕ) → s + n ≤ count → rows_known top l s n ≡ true
  unfolding rows_known
  rows-known n s h =
      all_is (λ i. known top (get_or l.kinds (s + i) 0) (get_or l.levels (s + i) 0)) n (λ i k. row_known_lem (s + i) (omega arith))

-- ---- question 6 of store and rows

pub room_held : (n z store kinds levels values : ℕ) → Roomy n z store kinds levels values → slab_room n z store kinds levels values ≡ true
unfolding row_room
room_held n z store kinds levels values r = rw (le-leb (n * z) store r.store_le, le-leb n kinds r.kinds_le, le-leb n levels r.levels_le, le-leb n values r.values_le)

-- ---- set

apart : (t s : ℕ) → (t ≡ s → ⊥) → (s ≤ t) ⊎ (t < s) → (t < s) ⊎ (s < t)
apart t s n (inl h) = inr (omega (arith, n))
apart t s n (inr h) = inl h

pub slab-set_fit : (each : ℕ → ℕ) → Rising each → (count top v : ℕ) → v ≤ top → (store : List Float) (l : Rows) (rows : List (Row Float)) → Fit each count top store l rows
    → (s : ℕ) → s < count → (e : List Float) → length e ≡ each v → every (λ x. not (is_nan x)) e ≡ true
    → Fit each count top (put store (s * each top) e) (replaced l s (OnMesh v true)) (set rows s (mesh v true e))
slab-set_fit each rise count top v low store l rows a s row e n q =
    let w = each top in
    let few : length e ≤ w = omega (arith, n, rise v top low) in
    let fits : s * w + length e ≤ length store = omega (arith, a.room.store_le, place s count (length e) w row few) in
    fit_set each rise count top store l rows a s row (mesh v true e) (low, n, q) (put store (s * w) e) (length-put store (s * w) e fits) (put_same store (s * w) e (omega arith))
    (λ t k ne i. other_slab store w s t k e fits few i (apart t s ne (le_or_lt s t)))

-- ---- fresh

pub filled_at : (d : List ℕ) (n s : ℕ) → s < n → get_or (put d 0 (replicate n 0)) s 0 ≡ 0
filled_at d n s h = get_d_put d (replicate n 0) s (omega (arith, length-replicate {A = ℕ} n 0)) ∙ get_or-replicate n s 0 0 h

pub filled-wide : {A : Type 0} (d : List A) (n : ℕ) (x : A) → n ≤ length d → length (put d 0 (replicate n x)) ≡ length d
filled-wide d n x h = length-put d 0 (replicate n x) (omega (arith, length-replicate n x))

pub filled_fit : (each : ℕ → ℕ) (count top : ℕ) (l : BuilderLists) → Roomy count (each top) (length l.store) (length l.rows.kinds) (length l.rows.levels) (length l.rows.values)
    → Fit each count top (filled_slabs count (each top) l).store (filled_slabs count (each top) l).rows (replicate count (scalar nought))
unfolding filled_slabs fits of_bits to_bits
filled_fit each count top l r =
    record {
      room = record {
        store_le = omega (arith, filled-wide l.store (count * each top) nought r.store_le, r.store_le);
        kinds_le = omega (arith, filled-wide l.rows.kinds count 0 r.kinds_le, r.kinds_le);
        levels_le = omega (arith, filled-wide l.rows.levels count 0 r.levels_le, r.levels_le);
        values_le = omega (arith, filled-wide l.rows.values count 0 r.values_le, r.values_le);
      };
      many = length-replicate count (scalar nought);
      good = all_replicate (Good each top) count (scalar nought) tt;
      at = λ s h.
          rw (get_or-replicate {A = Row Float} count s (scalar nought) repulsive h)
          (filled_at l.rows.kinds count s h, filled_at l.rows.levels count s h, filled_at l.rows.values count s h, refl);
    }

-- ---- settle

-- a verdict's scalar is one that an f32 can have
abbrev Fitting : Verdict → Type 0
Fitting empty = Unit {0}
Fitting blocked = Unit {0}
Fitting (isotropic x) = T (fits binary32 x)
Fitting (smooth x) = Unit {0}
Fitting (rough x) = Unit {0}

gradient_fits : (threshold : Float) (e : List Float) (x : Float) → Fitting (by_gradient threshold e x)
unfolding by_gradient mean_narrowed
gradient_fits threshold e x =
    chosen Fitting (lt x (div binary64 threshold (of_bits binary64 0x4024_0000_0000_0000))) (isotropic (mean_narrowed e)) (cond (lt x threshold) (smooth x) (rough x)) (λ e. narrowed_fits _)
    (chosen Fitting (lt x threshold) (smooth x) (rough x) (λ e. tt) tt)

pub atom_verdict_fits : (threshold beta : Float) (m : Mesh) (n : ℕ) (r : Row Float) → Fitting (atom_verdict_of threshold beta m n r).verdict
unfolding atom_verdict
atom_verdict_fits threshold beta m n (scalar x) = tt
atom_verdict_fits threshold beta m n repulsive = tt
atom_verdict_fits threshold beta m n (mesh v b e) =
    chosen (λ (x : AtomVerdict). Fitting x.verdict) (all_repulsive beta e) _ _ (λ z. tt) (gradient_fits threshold e (atom_gradient m n beta e))

pub verdict_fits : (threshold beta : Float) (m : Mesh) (n : ℕ) (r : Row Float) → Fitting (verdict_of threshold beta m n r)
unfolding verdict
verdict_fits threshold beta m n (scalar x) = tt
verdict_fits threshold beta m n repulsive = tt
verdict_fits threshold beta m n (mesh v b e) =
    chosen Fitting (all_repulsive beta e) blocked (by_gradient threshold e (gradient m n beta e)) (λ z. tt) (gradient_fits threshold e (gradient m n beta e))

module _ (each : ℕ → ℕ) (rise : Rising each) (count top c : ℕ) (f : Row Float → Verdict) (plain : (x : Float) → f (scalar x) ≡ empty) (bare : f repulsive ≡ empty) (fitting : (r : Row Float) → Fitting (f r)) where
  module _ (store : List Float) (l : Rows) (rows : List (Row Float)) (a : Fit each count top store l rows) (s : ℕ) (h : s < count) where
    -- a row that stays
    stays : (r : Row Float) → get_or rows s repulsive ≡ r → Fit each count top store l (set rows s r)
    stays r e = rw (← e, set-get_or rows s repulsive) a

    by_verdict : (v : ℕ) (b : Bool) (e : List Float) → get_or rows s repulsive ≡ mesh v b e → Good each top (mesh v b e) → Stored (each top) store s (mesh v b e) → v ≡ c → (x : Verdict) → Fitting x
        → Fit each count top store (replaced_by l s (new_row c x)) (set rows s (in_place_of (mesh v b e) (new_row c x)))
    by_verdict v b e i q k z empty y = stays (mesh v b e) i
    by_verdict v b e i q k z blocked y = fit_set each rise count top store l rows a s h repulsive tt store refl refl (λ t j n m. refl)
    by_verdict v b e i q k z (isotropic x) y = fit_set each rise count top store l rows a s h (scalar x) y store refl refl (λ t j n m. refl)
    by_verdict v b e i q k z (smooth x) y = fit_set each rise count top store l rows a s h (mesh c false e) (rw (← z) q) store refl k (λ t j n m. refl)
    by_verdict v b e i q k z (rough x) y = stays (mesh v b e) i

    pub one_row : (r : Row Float) → get_or rows s repulsive ≡ r → Good each top r → Stored (each top) store s r → from_level c r ≡ true
        → Fit each count top store (replaced_by l s (new_row c (f r))) (set rows s (in_place_of r (new_row c (f r))))
    one_row (scalar x) e q k z = rw (plain x) (stays (scalar x) e)
    one_row repulsive e q k z = rw bare (stays repulsive e)
    one_row (mesh v b e) i q k z = by_verdict v b e i q k (eqb-true v c z) (f (mesh v b e)) (fitting (mesh v b e))

  -- n rows from slab s on
  pub settled_fit : (n s : ℕ) (store : List Float) (l : Rows) (rows : List (Row Float)) → Fit each count top store l rows → s + n ≤ count → every (from_level c) (take n (drop s rows)) ≡ true
      → Fit each count top store (settled_lists c l s (map f (take n (drop s rows)))) (sets rows s (settled_rows c (take n (drop s rows)) (map f (take n (drop s rows)))))
  unfolding settled_lists settled_rows every
  settled_fit zero s store l rows a h z = a
  settled_fit (suc n) s store l rows a h z =
      let r = get_or rows s repulsive in
      let d = drop-cons rows s repulsive (omega (arith, a.many)) in
      let y = (and-eq-true_iff (from_level c r) (every (from_level c) (take n (drop (suc s) rows)))).0 (rw d at z) in
      let l' = replaced_by l s (new_row c (f r)) in
      let x = in_place_of r (new_row c (f r)) in
      let rest = drop-set-lt (suc s) rows s x (omega arith) in
      let one = one_row store l rows a s (omega arith) r refl (good_at each count top store l rows a s (omega arith)) (a.at s (omega arith)).3 y.0 in
      rw (d, ← rest) (settled_fit n (suc s) store l' (set rows s x) one (omega arith) (rw rest y.1))
