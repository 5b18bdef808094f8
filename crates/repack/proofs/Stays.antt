-- A file that the strict reader accepts is its own packed file. Assumes nothing.
use mathlib.Core.Path.{◌≡◌, refl, sym, ap, ◌∙◌}
use mathlib.Core.Bool.{Bool, true, false, cond, true≢false, and-eq-true_iff}
use mathlib.Core.List.{List, [], ◌∷◌, ◌++◌}
use Prim.Native.Nat.{ℕ, zero, suc, ◌+◌, ◌*◌, ◌/◌, ◌%◌, ◌≤◌}
use native.Mathlib.Omega.{arith}
use lib.ListN.{length, get_or, take, drop, take-append-drop}
use lib.Seq.{take-add, drop-drop}
use lib.Dec.{leb, ltb, eqb, lit<}
use borrow.Author.Tests.{ltb-true, eqb-true, eqb-false, eq-eqb, le-leb}
use Rattle.lists.specs.Lists.{every}
use Rattle.lists.specs.Questions.{ask}
use Rattle.lists.proofs.Asking.{ask_yes}
use Rattle.mesh.specs.Levels.{per}
use Rattle.table.specs.Bytes.{bytes_of, number_of, number_at, items}
use Rattle.table.specs.declared.Entry.{Entry}
use Rattle.table.specs.File.{entry_of}
use Rattle.table.specs.Read.{layout, table_laid_out, table_of, row_items, table_valid, entry_valid, tiled, read_values, read_refusal, read_out}
use Rattle.table.specs.Checks.{slab_checked, check_slabs}
use Rattle.table.specs.Loose.{loose_refusal}
use Rattle.table.specs.declared.Table.{Table}
use Rattle.std.proofs.Common.{Ok}
use Rattle.table.proofs.Items.{entry_at_lem}
use Rattle.table.proofs.Checked.{checked}
use Rattle.repack.specs.Repack.{held, total, placed, other_offsets, new_row, new_rows, parts, repacked}
use Rattle.repack.specs.Internal.{rows_at, Loose}
use Rattle.repack.specs.Kept.{Bytes, PackedStays}
use Rattle.repack.proofs.Turns.{row_goes, row_stays, taken-length}
use Rattle.repack.proofs.Outcome.{answered, loose, repack_done}

-- ---- bytes from the number that they are

numbers_back : (l : List ℕ) → every (λ b. ltb b 256) l ≡ true → bytes_of (length l) (number_of l) ≡ l
unfolding bytes_of number_of every
numbers_back [] h = refl
numbers_back (b ∷ l) h =
    let a = (and-eq-true_iff (ltb b 256) (every (λ b. ltb b 256) l)).0 h in
    let c = ltb-true b 256 a.0 in
    let low : (number_of l * 256 + b) % 256 ≡ b = omega (arith, c) in
    let high : (number_of l * 256 + b) / 256 ≡ number_of l = omega (arith, c) in
    rw (low, high, numbers_back l a.1)

every_take : (p : ℕ → Bool) (n : ℕ) (l : List ℕ) → every p l ≡ true → every p (take n l) ≡ true
unfolding every
every_take p zero l h = refl
every_take p (suc n) [] h = refl
every_take p (suc n) (x ∷ l) h = let a = (and-eq-true_iff (p x) (every p l)).0 h in rw (a.0, every_take p n l a.1)

every_drop : (p : ℕ → Bool) (n : ℕ) (l : List ℕ) → every p l ≡ true → every p (drop n l) ≡ true
unfolding every
every_drop p zero l h = h
every_drop p (suc n) [] h = refl
every_drop p (suc n) (x ∷ l) h = every_drop p n l ((and-eq-true_iff (p x) (every p l)).0 h).1

module _ (f : List ℕ) (B : Bytes f) where
  number_bytes : (at : ℕ) → at + 4 ≤ length f → bytes_of 4 (number_at 4 f at) ≡ take 4 (drop at f)
  unfolding number_at
  number_bytes at h =
      let n : length (take 4 (drop at f)) ≡ 4 = taken-length f at 4 h in
      ap (λ (w : ℕ). bytes_of w (number_of (take 4 (drop at f)))) (sym n) ∙ numbers_back (take 4 (drop at f)) (every_take (λ b. ltb b 256) 4 (drop at f) (every_drop (λ b. ltb b 256) at f B))

  -- ten bytes in three parts
  ten : (at : ℕ) → take 2 (drop at f) ++ (take 4 (drop (at + 2) f) ++ take 4 (drop (at + 6) f)) ≡ take 10 (drop at f)
  ten at =
      let e : at + 2 + 4 ≡ at + 6 = omega arith in
      sym (take-add 2 8 (drop at f) ∙ ap (λ (l : List ℕ). take 2 (drop at f) ++ l)
      (ap (λ (l : List ℕ). take 8 l) (drop-drop 2 at f) ∙ take-add 4 4 (drop (at + 2) f) ∙ ap (λ (l : List ℕ). take 4 (drop (at + 2) f) ++ take 4 l) (drop-drop 4 (at + 2) f ∙ ap (λ (n : ℕ). drop n f) e)))

  row_same : (at o : ℕ) (x : Bool) → leb (get_or f at 0) 1 ≡ x → at + 10 ≤ length f → (x ≡ false → number_at 4 f (at + 2) ≡ o) → new_row f at o ≡ take 10 (drop at f)
  row_same at o true k h e = row_stays f at o k
  row_same at o false k h e = row_goes f at o k ∙ rw (← e refl, number_bytes (at + 2) (omega (arith, h))) (ten at)

  -- ---- tiled rows

  -- the step of 16
  tiled_by : (r : Entry) (rs : List Entry) (o n : ℕ) (x : Bool) → leb r.kind 1 ≡ x → tiled per o n (r ∷ rs) ≡ true → (x ≡ false → r.offset ≡ o) × (tiled per (o + held r) n rs ≡ true)
  unfolding tiled
  tiled_by r rs o n true k e = (λ z. absurd (true≢false z), let m : held r ≡ 0 = rw k in let q : o + held r ≡ o = omega (arith, m) in rw q (rw k at e))
  tiled_by r rs o n false k e =
      let a = (and-eq-true_iff (eqb r.offset o) (tiled per (o + per r.level) n rs)).0 (rw k at e) in
      let m : held r ≡ per r.level = rw k in
      (λ z. eqb-true r.offset o a.0, rw m a.1)

  rows_same : (at n o m : ℕ) → at + n * 10 ≤ length f → tiled per o m (rows_at f at n) ≡ true → new_rows f at n o ≡ take (n * 10) (drop at f)
  unfolding new_rows items
  rows_same at zero o m h e = refl
  rows_same at (suc n) o m h e =
      let b = tiled_by (entry_of (take 10 (drop at f))) (rows_at f (at + 10) n) o m _ refl e in
      let r : new_row f at o ≡ take 10 (drop at f) = first at o (omega (arith, h)) b.0 in
      let k : suc n * 10 ≡ 10 + n * 10 = omega arith in
      rw (r, rows_same (at + 10) n (o + held (entry_of (take 10 (drop at f)))) m (omega (arith, h)) b.1, k)
      (ap (λ (l : List ℕ). take 10 (drop at f) ++ take (n * 10) l) (sym (drop-drop 10 at f)) ∙ sym (take-add 10 (n * 10) (drop at f)))
    where
      first : (at o : ℕ) → at + 10 ≤ length f → (leb (entry_of (take 10 (drop at f))).kind 1 ≡ false → (entry_of (take 10 (drop at f))).offset ≡ o) → new_row f at o ≡ take 10 (drop at f)
      first at o h q =
          let e = entry_at_lem f at in
          row_same at o _ refl h (λ z. ap (λ (r : Entry). r.offset) (sym e) ∙ q (ap (λ (r : Entry). leb r.kind 1) e ∙ z))

  total-same : (o m : ℕ) (rs : List Entry) → tiled per o m rs ≡ true → o + total rs ≡ m
  unfolding total tiled
  total-same o m [] e = omega (arith, eqb-true o m e)
  total-same o m (r ∷ rs) e = omega (arith, total-same (o + held r) m rs (tiled_by r rs o m _ refl e).1)

  placed_same : (o m : ℕ) (rs : List Entry) → tiled per o m rs ≡ true → other_offsets rs (placed o rs) ≡ 0
  unfolding other_offsets placed tiled
  placed_same o m [] e = refl
  placed_same o m (r ∷ rs) e =
      let b = tiled_by r rs o m _ refl e in
      rw (placed_same (o + held r) m rs b.1) (by _ refl b.0)
    where
      by : (x : Bool) → leb r.kind 1 ≡ x → (x ≡ false → r.offset ≡ o) → cond (eqb r.offset (cond x r.offset o)) 0 1 + 0 ≡ 0
      by true k q = rw (eq-eqb r.offset r.offset refl)
      by false k q = rw (eq-eqb r.offset o (q refl))

  -- the energies, from place o on
  parts_same : (z o m : ℕ) (rs : List Entry) → tiled per o m rs ≡ true → parts f z rs ≡ take (total rs * 4) (drop (z + o * 4) f)
  unfolding parts total tiled
  parts_same z o m [] e = refl
  parts_same z o m (r ∷ rs) e =
      let b = tiled_by r rs o m _ refl e in
      let k : (held r + total rs) * 4 ≡ held r * 4 + total rs * 4 = omega arith in
      let n : z + (o + held r) * 4 ≡ z + o * 4 + held r * 4 = omega arith in
      rw (parts_same z (o + held r) m rs b.1, k, n)
      (ap (λ (l : List ℕ). l ++ take (total rs * 4) (drop (z + o * 4 + held r * 4) f)) (front _ refl b.0)
      ∙ ap (λ (l : List ℕ). take (held r * 4) (drop (z + o * 4) f) ++ take (total rs * 4) l) (sym (drop-drop (held r * 4) (z + o * 4) f))
      ∙ sym (take-add (held r * 4) (total rs * 4) (drop (z + o * 4) f)))
    where
      front : (x : Bool) → leb r.kind 1 ≡ x → (x ≡ false → r.offset ≡ o) → take (cond x 0 (per r.level) * 4) (drop (z + r.offset * 4) f) ≡ take (cond x 0 (per r.level) * 4) (drop (z + o * 4) f)
      front true k q = refl
      front false k q = rw (q refl)

  -- ---- the whole

  -- a file in five parts
  five : (y n z k : ℕ) → z ≡ y + n * 10 + 4 → take y f ++ (take (n * 10) (drop y f) ++ (take 4 (drop (y + n * 10) f) ++ (take (k * 4) (drop z f) ++ drop (z + k * 4) f))) ≡ f
  five y n z k e =
      let join : (at m : ℕ) → take m (drop at f) ++ drop (at + m) f ≡ drop at f = λ at m. ap (λ (l : List ℕ). take m (drop at f) ++ l) (sym (drop-drop m at f)) ∙ take-append-drop m (drop at f) in
      rw (join z (k * 4), e, join (y + n * 10) 4, join y (n * 10)) (take-append-drop y f)

  module _ (y n z k : ℕ) (h : Loose f y n z k) (e : tiled per 0 k (rows_at f y n) ≡ true) (c : k ≡ number_at 4 f (y + n * 10)) where
    pub whole_same : take y f ++ (new_rows f y n 0 ++ (bytes_of 4 (total (rows_at f y n)) ++ (parts f z (rows_at f y n) ++ drop (z + k * 4) f))) ≡ f
    whole_same =
        let t : total (rows_at f y n) ≡ k = omega (arith, total-same 0 k (rows_at f y n) e) in
        let b : bytes_of 4 k ≡ take 4 (drop (y + n * 10) f) = ap (bytes_of 4) c ∙ number_bytes (y + n * 10) (omega (arith, h.rows, h.energies)) in
        let p : parts f z (rows_at f y n) ≡ take (total (rows_at f y n) * 4) (drop (z + 0 * 4) f) = parts_same z 0 k (rows_at f y n) e in
        let q : z + 0 * 4 ≡ z = omega arith in
        rw (rows_same y n 0 k (omega (arith, h.rows, h.energies)) e, p, t, q, b) (five y n z k h.rows)

-- ---- the theorem

all_yes : (a b d i : Bool) (rest : ℕ) → a ≡ true → b ≡ true → d ≡ true → i ≡ true → rest ≡ 0 → ask a 13 (ask b 14 (ask d 15 (ask i 25 rest))) ≡ 0
unfolding ask
all_yes a b d i rest p q r s z = rw (p, q, r, s, z)

-- what the strict reader asked
strict_by : (f : List ℕ) (x : Bool) → eqb (read_refusal f (layout f) (table_of f (layout f))) 0 ≡ x → (read_out f).number ≡ 0
    → (read_refusal f (layout f) (table_of f (layout f)) ≡ 0) × (read_out f ≡ read_values (Ok (table_of f (layout f))))
unfolding read_out
strict_by f true d e = (eqb-true _ 0 d, rw d)
strict_by f false d e = absurd (eqb-false _ 0 d (rw d at e))

-- .. says that the loose one asks nothing else
module _ (f : List ℕ) (e : (read_out f).number ≡ 0) where
  abbrev t : Table
  t = table_of f (layout f)

  slabs_checked : every (slab_checked f t) (row_items f t) ≡ true
  unfolding check_slabs
  slabs_checked =
      let c = (checked f t (strict_by f _ refl e).1).1 in
      let n = t.grid.n_r * t.grid.n_omega in
      ((and-eq-true_iff (eqb t.rows n) _).0 ((and-eq-true_iff (leb n 4294967295) _).0 c).1).1

  strict : (loose_refusal f (layout f) t ≡ 0) × (tiled per 0 t.energies (row_items f t) ≡ true)
  unfolding read_refusal loose_refusal
  strict =
      let q13 = ask_yes {q = table_laid_out f (layout f)} (lit< tt) (strict_by f _ refl e).0 in
      let q14 = ask_yes {q = table_valid f t} (lit< tt) q13.1 in
      let q15 = ask_yes {q = every (entry_valid t.levels) (row_items f t)} (lit< tt) q14.1 in
      let q16 = ask_yes {q = tiled per 0 t.energies (row_items f t)} (lit< tt) q15.1 in
      (all_yes (table_laid_out f (layout f)) (table_valid f t) (every (entry_valid t.levels) (row_items f t)) (every (slab_checked f t) (row_items f t)) _ q13.0 q14.0 q15.0 slabs_checked q16.1, q16.0)

  energies_at_lem : t.energies ≡ number_at 4 f (t.rows_start + t.rows * 10)
  unfolding table_of layout
  energies_at_lem = refl

  same-file : Bytes f → repacked f t ≡ f
  unfolding repacked
  same-file b =
      whole_same f b t.rows_start t.rows t.energies_start t.energies (loose f t refl (answered f t strict.0)) strict.1 energies_at_lem

pub packed-stays : PackedStays
packed-stays f out b e room =
    let same = same-file f e b in
    let fits : leb (length (repacked f (table_of f (layout f)))) (length out) ≡ true = rw same (le-leb (length f) (length out) room) in
    repack_done f out (strict f e).0 fits ∙ rw (same, placed_same f b 0 (table_of f (layout f)).energies (row_items f (table_of f (layout f))) (strict f e).1)
