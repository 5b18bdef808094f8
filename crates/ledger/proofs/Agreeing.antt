-- Rows kept in two ways: what reads them reads the same, and what writes both keeps them so. Assumes nothing.
use mathlib.Core.Path.{◌≡◌, refl, sym, ap, ◌∙◌}
use mathlib.Core.Bool.{false}
use mathlib.Core.List.{List, [], ◌∷◌}
use mathlib.Core.Option.{Option, none, some}
use mathlib.Core.Logic.{⊎_elim}
use Prim.Native.Nat.{ℕ, zero, suc, ◌+◌, ◌*◌, ◌^◌, ◌≤◌, ◌<◌, zero-le}
use native.Mathlib.Nat.{add-zero}
use native.Mathlib.Omega.{arith}
use lib.ListN.{length, get_or, set, drop, replicate, length-set, length-replicate}
use lib.Seq.{get_or-set_same, get_or-set_other, get_or-drop}
use lib.Ieee.{Float}
use borrow.Author.Tests.{le-leb, lt-leb}
use Rattle.ieee.proofs.Pack.{le_or_lt}
use Rattle.lists.specs.Lists.{all_up_to, put}
use Rattle.rows.specs.declared.SlabResolution.{SlabResolution}
use Rattle.rows.specs.Rows.{Rows, kind_of, level_of, value_of, resolution_at, replaced, known, row_known, row_room}
use Rattle.rows.specs.Words.{word_kind, word_rows}
use Rattle.rows.proofs.InWords.{word_kind_lem, word_level_lem, word_value_lem, kind_at, level_at, value_at, known_in, kinds_long, levels_long, values_long}
use Rattle.settling.specs.Gradient.{zero as nought}
use Rattle.settling.specs.Settling.{new_row, replaced_by}
use Rattle.settling.specs.declared.Verdict.{Verdict}
use Rattle.builder.specs.BuilderLists.{BuilderLists, row_in, rows_in, rows_known}
use Rattle.builder.specs.Calls.{settled_lists, filled_slabs}
use Rattle.builder.proofs.Laws.{Roomy}
use Rattle.ledger.specs.Words.{RowsAgree, ListsAgree, Moved}
use Rattle.ledger.proofs.Store.{put-after}
use Rattle.ledger.proofs.Invariant.{filled_at, filled-wide}

-- ---- read

module _ {n : ℕ} {r q : Rows} (a : RowsAgree n r q) where
  resolution_same : (s : ℕ) → s < n → resolution_at r s ≡ resolution_at q s
  unfolding resolution_at
  resolution_same s h = rw (a.kinds s h, a.levels s h, a.values s h)

  pub known_same : (top s : ℕ) → s < n → row_known top r s ≡ row_known top q s
  known_same top s h = rw (a.kinds s h, a.levels s h)

  pub rows-known-same : (top s c : ℕ) → s + c ≤ n → rows_known top r s c ≡ rows_known top q s c
  unfolding rows_known all_up_to
  rows-known-same top s zero h = refl
  rows-known-same top s (suc c) h = rw (rows-known-same top s c (omega arith), known_same top (s + c) (omega arith))

module _ (each : ℕ → ℕ) (top : ℕ) {n : ℕ} {l k : BuilderLists} (a : ListsAgree n l k) where
  pub row_same : (s : ℕ) → s < n → row_in each top l s ≡ row_in each top k s
  unfolding row_in
  row_same s h = rw (resolution_same a.rows s h, a.rows.levels s h, a.store)

  pub rows_same : (s c : ℕ) → s + c ≤ n → rows_in each top l s c ≡ rows_in each top k s c
  unfolding rows_in
  rows_same s zero h = refl
  rows_same s (suc c) h = rw (row_same s (omega arith), rows_same (suc s) c (omega arith))

-- ---- written

-- 6 answered yes, of three lists
pub record Long (m : ℕ) (r : Rows) : Type 0 where
  pub kinds : m ≤ length r.kinds
  pub levels : m ≤ length r.levels
  pub values : m ≤ length r.values

pub long : {m z store : ℕ} {r : Rows} → Roomy m z store (length r.kinds) (length r.levels) (length r.values) → Long m r
long h = record { kinds = h.kinds_le; levels = h.levels_le; values = h.values_le }

-- rows that agree up to slab n, with room for m slabs in either way
pub record Both (m n : ℕ) (r q : Rows) : Type 0 where
  pub left : Long m r
  pub right : Long m q
  pub agree : RowsAgree n r q

set_same : (d e : List ℕ) (s t x : ℕ) → s < length d → s < length e → get_or d t 0 ≡ get_or e t 0 → Dec (t ≡ s) → get_or (set d s x) t 0 ≡ get_or (set e s x) t 0
set_same d e s t x h i z (yes p) = rw p (get_or-set_same d s x 0 h ∙ sym (get_or-set_same e s x 0 i))
set_same d e s t x h i z (no p) = get_or-set_other d s t x 0 p ∙ z ∙ sym (get_or-set_other e s t x 0 p)

replaced_long : {m : ℕ} {r : Rows} (s : ℕ) (x : SlabResolution) → Long m r → Long m (replaced r s x)
unfolding replaced
replaced_long s x h = record { kinds = rw length-set h.kinds; levels = rw length-set h.levels; values = rw length-set h.values }

module _ {m n : ℕ} where
  pub replaced_both : {r q : Rows} (s : ℕ) → s < m → (x : SlabResolution) → Both m n r q → Both m n (replaced r s x) (replaced q s x)
  unfolding replaced
  replaced_both {r} {q} s i x h =
      let at : (t : ℕ) → Dec (t ≡ s) = λ t. native.Mathlib.Decide.ℕ_discrete t s in
      record {
        left = replaced_long s x h.left;
        right = replaced_long s x h.right;
        agree = record {
          room = simp length-set h.agree.room;
          kinds = λ t l. set_same r.kinds q.kinds s t (kind_of x) (omega (arith, i, h.left.kinds)) (omega (arith, i, h.right.kinds)) (h.agree.kinds t l) (at t);
          levels = λ t l. set_same r.levels q.levels s t (level_of x) (omega (arith, i, h.left.levels)) (omega (arith, i, h.right.levels)) (h.agree.levels t l) (at t);
          values = λ t l. set_same r.values q.values s t (value_of x) (omega (arith, i, h.left.values)) (omega (arith, i, h.right.values)) (h.agree.values t l) (at t);
        };
      }

  by_both : {r q : Rows} (s : ℕ) → s < m → (x : Option SlabResolution) → Both m n r q → Both m n (replaced_by r s x) (replaced_by q s x)
  by_both s i none h = h
  by_both s i (some x) h = replaced_both s i x h

  pub settled_both : {r q : Rows} (c s : ℕ) (vs : List Verdict) → s + length vs ≤ m → Both m n r q → Both m n (settled_lists c r s vs) (settled_lists c q s vs)
  unfolding settled_lists
  settled_both {r = r} {q = q} c s [] i h = h
  settled_both {r = r} {q = q} c s (v ∷ vs) i h =
      settled_both {r = replaced_by r s (new_row c v)} {q = replaced_by q s (new_row c v)} c (suc s) vs (omega arith) (by_both s (omega arith) (new_row c v) h)

-- fresh fills c slabs, and what stands behind them stays
fill_same : (c : ℕ) (d e : List ℕ) (s : ℕ) → get_or d s 0 ≡ get_or e s 0 → get_or (put d 0 (replicate c 0)) s 0 ≡ get_or (put e 0 (replicate c 0)) s 0
fill_same c d e s z = ⊎_elim (λ i. stays d i ∙ z ∙ sym (stays e i)) (λ i. filled_at d c s i ∙ sym (filled_at e c s i)) (le_or_lt c s)
  where
    stays : (d : List ℕ) → c ≤ s → get_or (put d 0 (replicate c 0)) s 0 ≡ get_or d s 0
    stays d i =
        let at : (l : List ℕ) → get_or (drop s l) 0 0 ≡ get_or l s 0 = λ l. get_or-drop s l 0 0 ∙ ap (λ (t : ℕ). get_or l t 0) (add-zero s) in
        sym (at (put d 0 (replicate c 0))) ∙ ap (λ (l : List ℕ). get_or l 0 0) (put-after d 0 (replicate c 0) s zero-le (omega (arith, length-replicate {A = ℕ} c 0))) ∙ at d

pub filled_agree : {c n : ℕ} {l k : BuilderLists} (z : ℕ) → Long c l.rows → Long c k.rows → ListsAgree n l k → ListsAgree n (filled_slabs c z l) (filled_slabs c z k)
unfolding filled_slabs
filled_agree {c} {n} {l} {k} z h i a =
    let wide : (d : List ℕ) → c ≤ length d → length (put d 0 (replicate c 0)) ≡ length d = λ d j. filled-wide d c 0 j in
    record {
      store = ap (λ (d : List Float). put d 0 (replicate (c * z) nought)) a.store;
      rows = record {
        room = rw (wide l.rows.kinds h.kinds, wide l.rows.levels h.levels, wide l.rows.values h.values, wide k.rows.kinds i.kinds, wide k.rows.levels i.levels, wide k.rows.values i.values) a.rows.room;
        kinds = λ s j. fill_same c l.rows.kinds k.rows.kinds s (a.rows.kinds s j);
        levels = λ s j. fill_same c l.rows.levels k.rows.levels s (a.rows.levels s j);
        values = λ s j. fill_same c l.rows.values k.rows.values s (a.rows.values s j);
      };
    }

-- ---- the words that rows moved to

pub moved_agree : (n : ℕ) (r : Rows) (ws : List ℕ) → Moved n r ws → RowsAgree n (word_rows ws) r
unfolding row_room
moved_agree n r ws h =
    record {
      room = rw (kinds_long ws, levels_long ws, values_long ws, le-leb n (length ws) h.long) (sym h.room);
      kinds = λ s i. kind_at ws s ∙ rw (h.words s i) (word_kind_lem _ _ _ (h.levels s i) (h.values s i));
      levels = λ s i. level_at ws s ∙ rw (h.words s i) (word_level_lem _ _ _ (h.levels s i) (h.values s i));
      values = λ s i. value_at ws s ∙ rw (h.words s i) (word_value_lem _ _ _ (h.values s i));
    }

-- .. and a word with a rest: its kind is 256 at least
pub rest-unknown : (top : ℕ) (ws : List ℕ) (s : ℕ) → 2 ^ 48 ≤ get_or ws s 0 → row_known top (word_rows ws) s ≡ false
unfolding known word_kind
rest-unknown top ws s h =
    let k = word_kind (get_or ws s 0) in
    let large : 3 < k = omega (arith, h) in
    known_in top ws s ∙ rw (lt-leb k 1 (omega (arith, large)), lt-leb k 3 large)
