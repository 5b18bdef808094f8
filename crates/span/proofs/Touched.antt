-- Question 19 of a span: one test of the last row and one of a row's last energy stand for all. Assumes nothing.
use mathlib.Core.Path.{◌≡◌, refl, sym, ◌∙◌}
use mathlib.Core.Bool.{Bool, true, false, ◌&&◌, ◌||◌, and-eq-true_iff}
use mathlib.Core.List.{List}
use mathlib.Core.Logic.{◌⊎◌, inl, inr, ⊎_elim}
use Prim.Native.Nat.{ℕ, zero, suc, ◌+◌, ◌-◌, ◌*◌, ◌/◌, ◌≤◌, ◌<◌}
use native.Mathlib.Nat.{mul-pos, mul-one, mul-le-mul_right, mul-le-mul_left, le_trans, le_of_eq}
use native.Mathlib.Numerals.{add-one}
use native.Mathlib.Omega.{arith}
use lib.ListN.{length, take, drop}
use lib.Dec.{leb, ltb}
use lib.Ieee.{Float}
use borrow.Author.Tests.{ltb-true, leb-true, leb-false, lt-ltb, le-ltb, le-leb, lt-leb}
use Rattle.ieee.proofs.Pack.{le_or_lt}
use Rattle.lists.specs.Lists.{all_up_to}
use Rattle.lists.proofs.Counting.{and_no, all_fails, all_at}
use Rattle.mesh.specs.Levels.{vertex_count, per}
use Rattle.grid.specs.Bins.{dihedral_bin}
use Rattle.table.specs.File.{entry_of}
use Rattle.table.specs.declared.Entry.{Entry}
use Rattle.table.specs.declared.Table.{Table}
use Rattle.table.proofs.Accepts.{all_is}
use Rattle.reading.specs.Reading.{row_inside, energy_inside, entry_at}
use Rattle.reading.proofs.Inside.{kept, not_past, quite_past}
use Rattle.span.specs.Spans.{slab_in, bins_in, entry_touched, row_touched, rows_touched}

-- ---- every number below n

pub all_more : (p : ℕ → Bool) (n : ℕ) → all_up_to (n + 1) p ≡ (all_up_to n p && p n)
unfolding all_up_to
all_more p n = rw add-one

pub all_none : (p : ℕ → Bool) → true ≡ all_up_to 0 p
unfolding all_up_to
all_none p = refl

all_same : (p q : ℕ → Bool) (n : ℕ) → ((i : ℕ) → i < n → p i ≡ q i) → all_up_to n p ≡ all_up_to n q
unfolding all_up_to
all_same p q zero h = refl
all_same p q (suc n) h = rw (all_same p q n (λ i l. h i (omega arith)), h n (omega arith))

-- ---- the energies of a row

pub per-some : (v : ℕ) → 0 < per v
unfolding per vertex_count
per-some v = mul-pos {m = vertex_count v} (omega arith) (omega arith)

module _ (file : List ℕ) (t : Table) where
  inside_by : (o n : ℕ) → 0 < n → (x y : Bool) → leb (o + n) t.energies ≡ x → leb (t.energies_start + (o + n) * 4) (length file) ≡ y
      → all_up_to n (λ k. energy_inside file t (o + k)) ≡ (x && y)
  unfolding energy_inside
  inside_by o n N true true h k =
      all_is (λ i. energy_inside file t (o + i)) n
      (λ i l. rw (lt-ltb (o + i) t.energies (omega (arith, leb-true (o + n) t.energies h)), le-leb (t.energies_start + (o + i) * 4 + 4) (length file) (omega (arith, leb-true (t.energies_start + (o + n) * 4) (length file) k))))
  inside_by o n N true false h k =
      all_fails (λ i. energy_inside file t (o + i)) (n - 1) n (omega arith)
      (and_no (ltb (o + (n - 1)) t.energies) (leb (t.energies_start + (o + (n - 1)) * 4 + 4) (length file)) (lt-leb (t.energies_start + (o + (n - 1)) * 4 + 4) (length file) (omega (arith, leb-false (t.energies_start + (o + n) * 4) (length file) k))))
  inside_by o n N false y h k =
      all_fails (λ i. energy_inside file t (o + i)) (n - 1) n (omega arith) (rw (le-ltb (o + (n - 1)) t.energies (omega (arith, leb-false (o + n) t.energies h))))

  energies_inside : (o n : ℕ) → 0 < n → (leb (o + n) t.energies && leb (t.energies_start + (o + n) * 4) (length file)) ≡ all_up_to n (λ k. energy_inside file t (o + k))
  energies_inside o n N = sym (inside_by o n N _ _ refl refl)

  module _ (e : Entry) where
    pub plain_touched : e.kind ≤ 1 → true ≡ entry_touched file t e
    unfolding entry_touched
    plain_touched h = rw (le-leb e.kind 1 h)

    module _ (h : 1 < e.kind) where
      pub unknown_touched : (ltb 3 e.kind || leb t.levels e.level) ≡ true → false ≡ entry_touched file t e
      unfolding entry_touched
      unknown_touched k = rw (lt-leb e.kind 1 h, kept e.kind e.level t.levels, k)

      pub mesh_touched : (ltb 3 e.kind || leb t.levels e.level) ≡ false
          → (leb (e.offset + per e.level) t.energies && leb (t.energies_start + (e.offset + per e.level) * 4) (length file)) ≡ entry_touched file t e
      unfolding entry_touched
      mesh_touched k = rw (lt-leb e.kind 1 h, kept e.kind e.level t.levels, k) (energies_inside e.offset (per e.level) (per-some e.level))

      -- the bytes of its energies
      pub mesh_fits : entry_touched file t e ≡ true → t.energies_start + (e.offset + per e.level) * 4 ≤ length file
      unfolding entry_touched
      mesh_fits k =
          let a : ((leb e.kind 3 && ltb e.level t.levels) && all_up_to (per e.level) (λ i. energy_inside file t (e.offset + i))) ≡ true = rw (lt-leb e.kind 1 h) at k in
          let b = ((and-eq-true_iff (leb e.kind 3 && ltb e.level t.levels) _).0 a).1 in
          let n = per e.level in
          leb-true _ _ ((and-eq-true_iff (leb (e.offset + n) t.energies) (leb (t.energies_start + (e.offset + n) * 4) (length file))).0 (energies_inside e.offset n (per-some e.level) ∙ b)).1

-- ---- a row's place, by quotients

module _ (i n oi : ℕ) (N : 1 ≤ n) where
  below_limit : (limit : ℕ) → oi < limit → leb i ((limit - oi - 1) / n) ≡ ltb (i * n + oi) limit
  below_limit limit h =
      ⊎_elim
      (λ l. rw (le-leb i ((limit - oi - 1) / n) l) (sym (lt-ltb (i * n + oi) limit (not_past i n oi limit N h l))))
      (λ l. rw (lt-leb i ((limit - oi - 1) / n) l) (sym (le-ltb (i * n + oi) limit (quite_past i n oi limit N h l))))
      (le_or_lt i ((limit - oi - 1) / n))

  pub slab_fits : (start rows len : ℕ) → oi < rows → start < len → oi < (len - start) / 10
      → (leb i ((rows - oi - 1) / n) && leb i (((len - start) / 10 - oi - 1) / n)) ≡ (ltb (i * n + oi) rows && leb (start + (i * n + oi) * 10 + 10) len)
  slab_fits start rows len h k l = rw (below_limit rows h, below_limit ((len - start) / 10) l, bytes (i * n + oi) (le_or_lt ((len - start) / 10) (i * n + oi)))
    where
      bytes : (s : ℕ) → ((len - start) / 10 ≤ s) ⊎ (s < (len - start) / 10) → ltb s ((len - start) / 10) ≡ leb (start + s * 10 + 10) len
      bytes s (inl g) = rw (le-ltb s ((len - start) / 10) g, lt-leb (start + s * 10 + 10) len (omega arith))
      bytes s (inr g) = rw (lt-ltb s ((len - start) / 10) g, le-leb (start + s * 10 + 10) len (omega arith))

-- the rows of earlier bins are not after that of the last one
earlier : (a b n : ℕ) → a ≤ b → a * n ≤ b * n
earlier a b n h = mul-le-mul_right n h

not_wider : (a n : ℕ) → 1 ≤ n → a ≤ a * n
not_wider a n h = le_trans (le_of_eq (sym (mul-one a))) (mul-le-mul_left a h)

pub row_fits : (start first i last n oi len : ℕ) → first + i ≤ last → 1 ≤ n → start + (last * n + oi) * 10 + 10 ≤ len
    → (start + ((first + i) * n + oi) * 10 + 10 ≤ len) × (first + i ≤ (first + i) * n)
row_fits start first i last n oi len h N k = let m = earlier (first + i) last n h in (omega (arith, m, k), not_wider (first + i) n N)

-- ---- all rows

module _ (file : List ℕ) (t : Table) (first last : ℕ) (omega' : Float) where
  abbrev slab : ℕ → ℕ
  slab i = slab_in t.grid i omega'

  pub no_bins : (ltb 0 t.grid.n_r && ltb 0 t.grid.n_omega) ≡ false → false ≡ rows_touched file t first last omega'
  unfolding rows_touched
  no_bins h = rw h

  module _ (order : first ≤ last) (bins : (ltb 0 t.grid.n_r && ltb 0 t.grid.n_omega) ≡ true) where
    pub no_last : row_inside file t (slab last) ≡ false → false ≡ rows_touched file t first last omega'
    unfolding rows_touched row_touched
    no_last h =
        let e : first + (last - first) ≡ last = omega arith in
        rw bins (sym (all_fails (λ i. row_touched file t (slab_in t.grid (first + i) omega')) (last - first) (bins_in first last) (omega arith) (rw (e, h))))

    row_earlier : (i : ℕ) → i < bins_in first last → row_inside file t (slab last) ≡ true → row_inside file t (slab (first + i)) ≡ true
    unfolding row_inside
    row_earlier i l h =
        let oi = dihedral_bin omega' t.grid.omega_step t.grid.n_omega in
        let n = t.grid.n_omega in
        let k = (and-eq-true_iff (ltb (last * n + oi) t.rows) (leb (t.rows_start + (last * n + oi) * 10 + 10) (length file))).0 h in
        let m = earlier (first + i) last n (omega arith) in
        rw (lt-ltb ((first + i) * n + oi) t.rows (omega (arith, m, ltb-true (last * n + oi) t.rows k.0)), le-leb (t.rows_start + ((first + i) * n + oi) * 10 + 10) (length file) (omega (arith, m, leb-true (t.rows_start + (last * n + oi) * 10 + 10) (length file) k.1)))

    pub all_inside : (count : ℕ) → count ≡ last - first + 1 → row_inside file t (slab last) ≡ true
        → all_up_to count (λ i. entry_touched file t (entry_at file t (slab (first + i)))) ≡ rows_touched file t first last omega'
    unfolding rows_touched row_touched
    all_inside count c h =
        let e : count ≡ bins_in first last = omega arith in
        rw (bins, e) (all_same (λ i. entry_touched file t (entry_at file t (slab (first + i)))) (λ i. row_touched file t (slab (first + i))) (bins_in first last) (λ i l. rw (row_earlier i l h)))

  -- of a span that asks nothing more: its rows' bytes, and what is asked of each row
  pub row_held : rows_touched file t first last omega' ≡ true → (i : ℕ) → i < bins_in first last
      → (1 ≤ t.grid.n_omega)
      × (t.rows_start + slab (first + i) * 10 + 10 ≤ length file)
      × (entry_touched file t (entry_of (take 10 (drop (t.rows_start + slab (first + i) * 10) file))) ≡ true)
  unfolding rows_touched row_touched row_inside entry_at
  row_held h i l =
      let a = (and-eq-true_iff (ltb 0 t.grid.n_r && ltb 0 t.grid.n_omega) _).0 h in
      let b = (and-eq-true_iff (ltb 0 t.grid.n_r) (ltb 0 t.grid.n_omega)).0 a.0 in
      let r = (and-eq-true_iff (row_inside file t (slab (first + i))) (entry_touched file t (entry_at file t (slab (first + i))))).0 (all_at (λ j. row_touched file t (slab (first + j))) i (bins_in first last) l a.1) in
      let s = (and-eq-true_iff (ltb (slab (first + i)) t.rows) (leb (t.rows_start + slab (first + i) * 10 + 10) (length file))).0 r.0 in
      (ltb-true 0 t.grid.n_omega b.1, leb-true (t.rows_start + slab (first + i) * 10 + 10) (length file) s.1, r.1)
