-- A turn of the loop over a slice. Assumes nothing.
use mathlib.Core.Path.{◌≡◌, refl, sym, ap, ◌∙◌}
use mathlib.Core.Bool.{Bool, true, false, cond, and-eq-true_iff}
use mathlib.Core.List.{List, [], ◌∷◌, map}
use mathlib.Core.Option.{Option, none, some}
use Prim.Native.Nat.{ℕ, zero, suc, ◌+◌, ◌*◌, ◌-◌, ◌≤◌, ◌<◌}
use native.Mathlib.Omega.{arith}
use lib.Dec.{eqb}
use lib.ListN.{length, get_or, take, drop, length-set}
use lib.Seq.{get_or-set_other}
use lib.Ieee.{Float, binary32, of_bits}
use borrow.Author.Tests.{eqb-true}
use Rattle.lists.specs.Lists.{every}
use Rattle.mesh.specs.Levels.{per}
use Rattle.rows.specs.declared.SlabResolution.{SlabResolution}
use Rattle.rows.specs.declared.SlabResolution.TheVariants.{Scalar, Mesh, Repulsive}
use Rattle.rows.specs.Rows.{Rows, kind_of, level_of, value_of, resolution_of, resolution_at, replaced, Row, row_with}
use Rattle.settling.specs.Settling.{new_row, from_level, replaced_by}
use Rattle.builder.specs.BuilderLists.{BuilderLists, row_in, row_at, rows_in, rows_from}
use Rattle.builder.specs.Calls.{set_builder, settled_lists}
use Rattle.builder.specs.declared.Builder.{Builder}
use Rattle.settling.proofs.Changes.{same-packed}
use Rattle.settling.specs.Internal.{tallied}
use Rattle.builder.specs.Internal.{tally_from}
use Rattle.settling.specs.declared.Tally.{Tally}
use Rattle.settling.specs.declared.Verdict.{Verdict}

-- ---- a row and its energies

level_by : (p q : Bool) (x : Float) (v c : ℕ) (b : Bool) (e : ℕ → List Float)
    → from_level c (row_with (cond p (Scalar x) (cond q Repulsive (Mesh v b))) (e v)) ≡ true
    → row_with (cond p (Scalar x) (cond q Repulsive (Mesh v b))) (e v) ≡ row_with (cond p (Scalar x) (cond q Repulsive (Mesh v b))) (e c)
level_by true q x v c b e h = refl
level_by false true x v c b e h = refl
level_by false false x v c b e h = let same : v ≡ c = eqb-true v c h in rw same

-- energies that a row holds are those of the current level
pub row_energies_lem : (each : ℕ → ℕ) (top : ℕ) (l : BuilderLists) (s c : ℕ) → from_level c (row_in each top l s) ≡ true
    → row_in each top l s ≡ row_with (resolution_at l.rows s) (take (each c) (drop (s * each top) l.store))
unfolding row_in resolution_at resolution_of
row_energies_lem each top l s c h =
    level_by (eqb (get_or l.rows.kinds s 0) 0) (eqb (get_or l.rows.kinds s 0) 1) (of_bits binary32 (get_or l.rows.values s 0)) (get_or l.rows.levels s 0) c
    (eqb (get_or l.rows.kinds s 0) 3) (λ v. take (each v) (drop (s * each top) l.store)) h

-- what a set counts of the row that it replaces
pub set_builder_is : (b : Builder) (l : BuilderLists) (s : ℕ) → set_builder b (row_with (resolution_at l.rows s) []) ≡ set_builder b (row_at b.top l s)
unfolding set_builder row_in
set_builder_is b l s =
    let x = resolution_at l.rows s in
    rw (← same-packed x [], ← same-packed x (take (per (get_or l.rows.levels s 0)) (drop (s * per b.top) l.store))) refl

-- ---- rows that stay

pub record Same (a b : Rows) (s : ℕ) : Type 0 where
  pub kinds : get_or a.kinds s 0 ≡ get_or b.kinds s 0
  pub levels : get_or a.levels s 0 ≡ get_or b.levels s 0
  pub values : get_or a.values s 0 ≡ get_or b.values s 0

pub same_row : (a b : Rows) (s : ℕ) → Same a b s → resolution_at a s ≡ resolution_at b s
unfolding resolution_at
same_row a b s h = rw (h.kinds, h.levels, h.values)

-- the row that a turn reads is the row at entry
pub read_row : (top c s : ℕ) (l : BuilderLists) (now : Rows) → Same now l.rows s → from_level c (row_at top l s) ≡ true
    → row_with (resolution_at now s) (take (per c) (drop (s * per top) l.store)) ≡ row_at top l s
read_row top c s l now h g = rw (same_row now l.rows s h) (sym (row_energies_lem per top l s c g))

past : (r : Rows) (at s : ℕ) (x : Option SlabResolution) → at < s → Same (replaced_by r at x) r s
unfolding replaced
past r at s none h = record { kinds = refl; levels = refl; values = refl }
past r at s (some x) h =
    let n : (s ≡ at → ⊥) = λ e. absurd (omega (arith, e, h)) in
    record {
      kinds = get_or-set_other r.kinds at s (kind_of x) 0 n;
      levels = get_or-set_other r.levels at s (level_of x) 0 n;
      values = get_or-set_other r.values at s (value_of x) 0 n;
    }

-- ---- the rows of a slice, one after another

rows_more : (top : ℕ) (l : BuilderLists) (base n i : ℕ) → i < n → rows_from top l (base + i) (n - i) ≡ row_at top l (base + i) ∷ rows_from top l (base + (i + 1)) (n - (i + 1))
unfolding rows_in
rows_more top l base n i h =
    let e : n - i ≡ suc (n - (i + 1)) = omega arith in
    let d : suc (base + i) ≡ base + (i + 1) = omega arith in
    rw (e, d)

pub rows_count : (each : ℕ → ℕ) (top : ℕ) (l : BuilderLists) (s n : ℕ) → length (rows_in each top l s n) ≡ n
unfolding rows_in
rows_count each top l s zero = refl
rows_count each top l s (suc n) = ap suc (rows_count each top l (suc s) n)

-- a test that every row of the slice passes
pub row_passes : (p : Row Float → Bool) (top : ℕ) (l : BuilderLists) (s n i : ℕ) → i < n → every p (rows_from top l s n) ≡ true → p (row_at top l (s + i)) ≡ true
unfolding every rows_in
row_passes p top l s zero i h e = absurd (omega arith)
row_passes p top l s (suc n) zero h e = let z : s + 0 ≡ s = omega arith in rw z ((and-eq-true_iff (p (row_at top l s)) (every p (rows_from top l (suc s) n))).0 e).0
row_passes p top l s (suc n) (suc i) h e =
    let z : s + suc i ≡ suc s + i = omega arith in
    rw z (row_passes p top l (suc s) n i (omega arith) ((and-eq-true_iff (p (row_at top l s)) (every p (rows_from top l (suc s) n))).0 e).1)

-- ---- the loop

module _ (f : Row Float → Verdict) (c top base n : ℕ) (l : BuilderLists) (start : Tally) where
  left : ℕ → List (Row Float)
  left i = rows_from top l (base + i) (n - i)

  -- after i slabs, with the tally t and the rows now
  pub record After (i : ℕ) (t : Tally) (now : Rows) : Type 0 where
    pub in_slice : i ≤ n
    pub tally : tally_from f c t (rows_from top l (base + i) (n - i)) ≡ tally_from f c start (rows_from top l base n)
    pub rows : settled_lists c now (base + i) (map f (rows_from top l (base + i) (n - i))) ≡ settled_lists c l.rows base (map f (rows_from top l base n))
    pub same : (s : ℕ) → base + i ≤ s → Same now l.rows s
    pub size : length now.kinds ≡ length l.rows.kinds

  pub begin : After 0 start l.rows
  begin =
      let b : base + 0 ≡ base = omega arith in
      let m : n - 0 ≡ n = omega arith in
      record {
        in_slice = omega arith;
        tally = rw (b, m) refl;
        rows = rw (b, m) refl;
        same = λ s h. (record { kinds = refl; levels = refl; values = refl });
        size = refl;
      }

  same_size : (r : Rows) (s : ℕ) (x : Option SlabResolution) → length (replaced_by r s x).kinds ≡ length r.kinds
  unfolding replaced
  same_size r s none = refl
  same_size r s (some x) = length-set r.kinds s (kind_of x)

  pub again : (i : ℕ) (t u : Tally) (now next : Rows) → After i t now → i < n
      → u ≡ tallied c t (row_at top l (base + i)) (f (row_at top l (base + i)))
      → next ≡ replaced_by now (base + i) (new_row c (f (row_at top l (base + i))))
      → After (i + 1) u next
  unfolding tally_from settled_lists
  again i t u now next a h p q =
      let r = row_at top l (base + i) in
      let w = new_row c (f r) in
      let m = rows_more top l base n i h in
      let z : base + (i + 1) ≡ suc (base + i) = omega arith in
      let step : settled_lists c (replaced_by now (base + i) w) (suc (base + i)) (map f (rows_from top l (base + (i + 1)) (n - (i + 1)))) ≡ settled_lists c l.rows base (map f (rows_from top l base n)) =
      rw m at a.rows in
      record {
        in_slice = omega arith;
        tally = rw p (rw m at a.tally);
        rows = rw q (rw (← z) at step);
        same = λ s g.
            let x = past now (base + i) s w (omega (arith, g)) in
            let y = a.same s (omega (arith, g)) in
            rw q (record { kinds = x.kinds ∙ y.kinds; levels = x.levels ∙ y.levels; values = x.values ∙ y.values });
        size = rw q (same_size now (base + i) w ∙ a.size);
      }

  pub end : (i : ℕ) (t : Tally) (now : Rows) → After i t now → n ≤ i → (t ≡ tally_from f c start (rows_from top l base n)) × (now ≡ settled_lists c l.rows base (map f (rows_from top l base n)))
  unfolding tally_from settled_lists rows_in
  end i t now a h =
      let z : n - i ≡ 0 = omega arith in
      (rw z at a.tally, rw z at a.rows)
