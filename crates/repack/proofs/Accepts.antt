-- The strict reader accepts the packed file of a loosely packed one. Assumes nothing.
use mathlib.Core.Path.{◌≡◌, refl, sym, ap, ◌∙◌}
use mathlib.Core.Bool.{Bool, true, false, not, cond, ◌&&◌, and-eq-true_iff}
use mathlib.Core.List.{List, [], ◌∷◌, ◌++◌}
use mathlib.Core.Logic.{⊎_elim}
use Prim.Native.Nat.{ℕ, zero, suc, ◌+◌, ◌*◌, ◌-◌, ◌≤◌, ◌<◌}
use native.Mathlib.Omega.{arith}
use lib.ListN.{length, take, drop}
use lib.Seq.{drop-drop}
use lib.Dec.{leb, eqb}
use lib.Ieee.{Float, binary32, binary64, nan_bits, of_bits}
use borrow.Author.Tests.{eqb-true, eqb-false, eq-eqb, ne_eqb}
use Rattle.ieee.proofs.Pack.{le_or_lt}
use Rattle.lists.specs.Questions.{ask, first}
use Rattle.lists.specs.Lists.{every}
use Rattle.mesh.specs.Levels.{vertex_count, per}
use Rattle.table.specs.Bytes.{number_at, number_of, items}
use Rattle.table.specs.declared.Entry.{Entry}
use Rattle.table.specs.Tail.{Term, Tail, term_of, tail_valid}
use Rattle.table.specs.Read.{count_at, f64_at, layout, ended, table_laid_out, tail_at, grid_of, table_of, row_items, tail_in, table_valid, grid_valid, entry_valid, tiled, read_values, read_out}
use Rattle.table.specs.View.{host}
use Rattle.table.specs.Internal.{TableSections, rows_question, table_question}
use Rattle.table.specs.declared.Layout.{Layout}
use Rattle.table.specs.declared.Table.{Table}
use Rattle.std.proofs.Common.{Ok}
use Rattle.table.proofs.Accepted.{read_accepted, host-within, host-reads}
use Rattle.table.proofs.Accepts.{all_is}
use Rattle.table.proofs.Items.{items-many}
use Rattle.table.proofs.OfLoose.{counts_held}
use Rattle.repack.specs.Repack.{held, total, moved_to, placed, parts, repacked}
use Rattle.repack.specs.Internal.{rows_at, Loose}
use Rattle.repack.specs.Kept.{Unchanged}
use Rattle.repack.proofs.Outcome.{Yes, sections, loose, repacked-length}
use Rattle.repack.proofs.Packed.{before_rows, from_rows, count_new, from_energies, behind, rows_back, rows-without, parts-every}

-- ---- small laws

eqb_by : (a b u v : ℕ) (x : Bool) → eqb a b ≡ x → (a ≡ b → u ≡ v) → (u ≡ v → a ≡ b) → x ≡ eqb u v
eqb_by a b u v true e f g = sym (eq-eqb u v (f (eqb-true a b e)))
eqb_by a b u v false e f g = sym (ne_eqb u v (λ z. eqb-false a b e (g z)))

eqb_same : (a b u v : ℕ) → (a ≡ b → u ≡ v) → (u ≡ v → a ≡ b) → eqb a b ≡ eqb u v
eqb_same a b u v f g = eqb_by a b u v _ refl f g

both : {ts us : List Term} {x z : Float} → ts ≡ us → x ≡ z → ◌≡◌ {A = Tail} (record { terms = ts; prefactor = x }) (record { terms = us; prefactor = z })
both p q = rw (p, q)

-- ---- placed rows: 15 and 16

row_valid : (levels o : ℕ) (r : Entry) → entry_valid levels r ≡ true → entry_valid levels (moved_to o r) ≡ true
unfolding entry_valid
row_valid levels o r h = by (eqb r.kind 0) (eqb r.kind 1) refl refl h
  where
    by : (a b : Bool) → eqb r.kind 0 ≡ a → eqb r.kind 1 ≡ b → entry_valid levels r ≡ true → entry_valid levels (moved_to o r) ≡ true
    by true b e d q = let k = eqb-true r.kind 0 e in rw k (rw k at q)
    by false true e d q = let k = eqb-true r.kind 1 d in rw k (rw k at q)
    by false false e d q = rw (e, d) (rw (e, d) at q)

placed_valid : (levels o : ℕ) (rs : List Entry) → every (entry_valid levels) rs ≡ true → every (entry_valid levels) (placed o rs) ≡ true
unfolding every placed
placed_valid levels o [] h = refl
placed_valid levels o (r ∷ rs) h =
    let a = (and-eq-true_iff (entry_valid levels r) (every (entry_valid levels) rs)).0 h in
    rw (row_valid levels o r a.0, placed_valid levels (o + held r) rs a.1)

placed-tiled : (o n : ℕ) (rs : List Entry) → o + total rs ≡ n → tiled per o n (placed o rs) ≡ true
unfolding tiled placed total
placed-tiled o n [] h = eq-eqb o n (omega (arith, h))
placed-tiled o n (r ∷ rs) h = by (leb r.kind 1) refl (placed-tiled o n rs) (placed-tiled (o + per r.level) n rs)
  where
    by : (x : Bool) → leb r.kind 1 ≡ x → (o + total rs ≡ n → tiled per o n (placed o rs) ≡ true) → (o + per r.level + total rs ≡ n → tiled per (o + per r.level) n (placed (o + per r.level) rs) ≡ true)
        → cond x (tiled per o n (placed (o + cond x 0 (per r.level)) rs)) (eqb (cond x r.offset o) o && tiled per (o + per r.level) n (placed (o + cond x 0 (per r.level)) rs)) ≡ true
    by true e a b = let z : o + 0 ≡ o = omega arith in let k : held r ≡ 0 = rw e in rw z (a (omega (arith, h, k)))
    by false e a b = let k : held r ≡ per r.level = rw e in rw (eq-eqb o o refl) (b (omega (arith, h, k)))

-- ---- the packed file

module _ (f : List ℕ) (y : Yes f (table_of f (layout f))) where
  abbrev pub t : Table
  t = table_of f (layout f)

  abbrev pub g : List ℕ
  g = repacked f t

  abbrev pub T : ℕ
  T = total (row_items f t)

  pub l : Loose f t.rows_start t.rows t.energies_start t.energies
  l = loose f t refl y

  pub s : TableSections f (layout f)
  s = sections f y.laid

  -- the end of section 5, in f and in g
  abbrev pub end : ℕ
  end = t.energies_start + t.energies * 4

  abbrev pub new_end : ℕ
  new_end = t.energies_start + T * 4

  pub long : length g ≡ new_end + (length f - end)
  long = repacked-length f t l

  end_le : end ≤ length f
  end_le = l.energies

  -- bytes before the rows
  pub same_before : (at w : ℕ) → at + w ≤ t.rows_start → take w (drop at g) ≡ take w (drop at f)
  unfolding repacked
  same_before at w h = before_rows f t.rows_start t.rows t.energies_start t.energies l at w h

  pub same_number : (w at : ℕ) → at + w ≤ t.rows_start → number_at w g at ≡ number_at w f at
  unfolding number_at
  same_number w at h = ap number_of (same_before at w h)

  pub same_behind : drop new_end g ≡ drop end f
  unfolding repacked
  same_behind = behind f t.rows_start t.rows t.energies_start t.energies l

  pub behind_at : (i : ℕ) → drop (new_end + i) g ≡ drop (end + i) f
  behind_at i = sym (drop-drop i new_end g) ∙ ap (λ (q : List ℕ). drop i q) same_behind ∙ drop-drop i end f

  energies_count : number_at 4 g (t.rows_start + t.rows * 10) ≡ T
  unfolding repacked
  energies_count = count_new f t.rows_start t.rows t.energies_start t.energies l

  pub terms_count : count_at g new_end ≡ count_at f end
  unfolding number_at
  terms_count = ap (λ (q : List ℕ). number_of (take 4 q)) same_behind

  -- where the sections begin
  starts : (t.rows_start ≡ (layout f).rows + 4) × (t.levels_start ≡ (layout f).levels + 4) × (t.rows ≡ count_at f (layout f).rows) × (t.levels ≡ count_at f (layout f).levels) × ((layout f).end ≡ end)
  unfolding table_of layout
  starts = (refl, refl, refl, refl, refl)

  low : (28 ≡ (layout f).bins) × (40 ≡ (layout f).levels) × (t.rows_start ≡ 48 + t.levels * 4)
  low = (omega (arith, s.0.bins), omega (arith, s.0.levels), omega (arith, s.0.levels, s.0.rows, starts.0, starts.3))

  pub laid_new : layout g ≡ record { bins = (layout f).bins; levels = (layout f).levels; rows = (layout f).rows; energies = (layout f).energies; end = (layout f).energies + 4 + T * 4 }
  unfolding layout table_of
  laid_new =
      let a = same_number 4 0 (omega (arith, low.2)) in
      let b = same_number 4 (layout f).bins (omega (arith, low.0, low.2)) in
      let d = same_number 4 (layout f).levels (omega (arith, low.1, low.2)) in
      let e = same_number 4 (layout f).rows (omega (arith, starts.0)) in
      rw (a, b, d, e, energies_count)

  -- what read gives for it
  abbrev pub new_table : Table
  new_table = record {
    grid = t.grid;
    levels = t.levels;
    rows = t.rows;
    energies = T;
    terms = t.terms;
    grid_start = 4;
    bins_start = t.bins_start;
    levels_start = t.levels_start;
    rows_start = t.rows_start;
    energies_start = t.energies_start;
    tail_start = cond (eqb t.terms 0) (length g) (new_end + 4);
  }

  new_end_is : (layout f).energies + 4 + T * 4 ≡ new_end
  unfolding table_of
  new_end_is = refl

  energies_at_lem : count_at g (layout f).energies ≡ T
  unfolding table_of layout
  energies_at_lem = energies_count

  terms_at : count_at g ((layout f).energies + 4 + T * 4) ≡ count_at f (layout f).end
  unfolding table_of layout
  terms_at = terms_count

  table_at : table_of g (record { bins = (layout f).bins; levels = (layout f).levels; rows = (layout f).rows; energies = (layout f).energies; end = (layout f).energies + 4 + T * 4 }) ≡ new_table
  unfolding table_of grid_of tail_at
  table_at =
      rw (
        same_number 8 4 (omega (arith, low.2)),
        same_number 8 12 (omega (arith, low.2)),
        same_number 8 20 (omega (arith, low.2)),
        same_number 4 ((layout f).bins + 4) (omega (arith, low.0, low.2)),
        same_number 4 ((layout f).bins + 8) (omega (arith, low.0, low.2)),
        same_number 4 (layout f).levels (omega (arith, low.1, low.2)),
        same_number 4 (layout f).rows (omega (arith, starts.0)),
        energies_at_lem,
        terms_at,
      )

  pub table_new : table_of g (layout g) ≡ new_table
  table_new = ap (λ (p : Layout). table_of g p) laid_new ∙ table_at

  -- 13
  ended_new : ended g new_end ≡ ended f end
  unfolding ended
  ended_new =
      let n = count_at f end in
      let a = eqb_same new_end (length g) end (length f) (λ z. omega (arith, z, long, end_le)) (λ z. omega (arith, z, long, end_le)) in
      let b = eqb_same (new_end + 4 + n * 20 + 8) (length g) (end + 4 + n * 20 + 8) (length f) (λ z. omega (arith, z, long, end_le)) (λ z. omega (arith, z, long, end_le)) in
      rw (terms_count, a, b)

  laid_out_new : table_laid_out g (layout g) ≡ true
  unfolding table_laid_out
  laid_out_new =
      let a = same_number 4 0 (omega (arith, low.2)) in
      let b = same_number 4 (layout f).bins (omega (arith, low.0, low.2)) in
      rw (laid_new, a, b, new_end_is, ended_new, ← starts.4) y.laid

  -- 14
  valid_new : table_valid g new_table ≡ true
  unfolding table_valid
  valid_new =
      let a = (and-eq-true_iff (grid_valid t.grid t.levels) _).0 y.valid in
      let b = (and-eq-true_iff (eqb t.rows (t.grid.n_r * t.grid.n_omega)) _).0 a.1 in
      rw (a.0, b.0)
      (all_is (λ m. eqb (number_at 4 g (t.levels_start + 4 * m)) (vertex_count m)) t.levels
      (λ m h. eq-eqb _ (vertex_count m) (same_number 4 (t.levels_start + 4 * m) (omega (arith, h, low.1, low.2, starts.1)) ∙ counts_held f t y.valid m h)))

  -- the rows
  pub rows_new : rows_at g t.rows_start t.rows ≡ placed 0 (row_items f t)
  unfolding repacked
  rows_new =
      rows_back f g t.rows_start t.rows_start t.rows 0 _ (from_rows f t.rows_start t.rows t.energies_start t.energies l)
      (omega (arith, l.rows, l.energies)) (omega (arith, l.few))

  pub energies_new : drop t.energies_start g ≡ parts f t.energies_start (row_items f t) ++ drop end f
  unfolding repacked
  energies_new = from_energies f t.rows_start t.rows t.energies_start t.energies l

  -- 15 to 17
  rows-asked : rows_question per g t.levels t.rows_start t.rows t.energies_start T ≡ 0
  unfolding ask
  rows-asked =
      rw (
        rows_new,
        placed_valid t.levels 0 (row_items f t) y.known,
        placed-tiled 0 T (row_items f t) (omega arith),
        parts-every f g t.energies_start t.energies l.energies (λ x. not (nan_bits binary32 x)) y.numbers t.energies_start (row_items f t) _ energies_new l.inside,
      )

  -- ---- the tail

  items_behind : {A : Type 0} (dec : List ℕ → A) (w i n : ℕ) → items dec w g (new_end + i) n ≡ items dec w f (end + i) n
  unfolding items
  items_behind dec w i zero = refl
  items_behind dec w i (suc n) =
      let a : new_end + i + w ≡ new_end + (i + w) = omega arith in
      let b : end + i + w ≡ end + (i + w) = omega arith in
      rw (behind_at i, a, b, items_behind dec w (i + w) n)

  pub tail_starts : 0 < t.terms → (t.tail_start ≡ end + 4) × (new_table.tail_start ≡ new_end + 4)
  unfolding table_of tail_at layout
  tail_starts h = let z = ne_eqb t.terms 0 (λ e. omega (arith, e, h)) in (rw z, rw z)

  pub tail_inside : 0 < t.terms → t.tail_start + t.terms * 20 + 8 ≤ length f
  unfolding table_of layout
  tail_inside h = omega (arith, (tail_starts h).0, s.1 h)

  number_behind : (w i : ℕ) → number_at w g (new_end + i) ≡ number_at w f (end + i)
  unfolding number_at
  number_behind w i = ap (λ (q : List ℕ). number_of (take w q)) (behind_at i)

  pub tail_same : 0 < t.terms → tail_in g new_table ≡ tail_in f t
  tail_same h =
      let n = t.terms * 20 in
      let a = tail_starts h in
      let p : new_end + 4 + n ≡ new_end + (4 + n) = omega arith in
      let q : end + 4 + n ≡ end + (4 + n) = omega arith in
      both
      (ap (λ (i : ℕ). items term_of 20 g i t.terms) a.1 ∙ items_behind term_of 20 4 t.terms ∙ ap (λ (i : ℕ). items term_of 20 f i t.terms) (sym a.0))
      (ap (λ (i : ℕ). f64_at g (i + n)) a.1 ∙ ap (λ (i : ℕ). f64_at g i) p ∙ ap (λ (i : ℕ). of_bits binary64 i) (number_behind 8 (4 + n)) ∙ ap (λ (i : ℕ). f64_at f i) (sym q) ∙ ap (λ (i : ℕ). f64_at f (i + n)) (sym a.0))

  -- 23
  tail_valid_lem : tail_valid (tail_in g new_table) ≡ true
  unfolding tail_valid
  tail_valid_lem =
      ⊎_elim
      (λ h. rw (items-many term_of 20 g new_table.tail_start t.terms, eq-eqb t.terms 0 (omega (arith, h))))
      (λ h. ap tail_valid (tail_same h) ∙ y.tail)
      (le_or_lt t.terms 0)

  asked : 0 ≡ table_question host g (table_of g (layout g))
  unfolding ask first
  asked = rw (table_new, valid_new, host-within g new_table valid_new, rows-asked, tail_valid_lem)

  pub accepted_new : read_out g ≡ read_values (Ok new_table)
  accepted_new = sym (host-reads g) ∙ read_accepted host g laid_out_new 0 asked refl ∙ ap (λ (k : Table). read_values (Ok k)) table_new

  -- ---- what is unchanged

  behind_is : drop (layout g).end g ≡ drop (layout f).end f
  behind_is =
      ap (λ (p : Layout). drop p.end g) laid_new ∙ ap (λ (n : ℕ). drop n g) new_end_is ∙ same_behind ∙ ap (λ (n : ℕ). drop n f) (sym starts.4)

  pub unchanged : Unchanged f g
  unfolding repacked
  unchanged =
      let at : (table_of g (layout g)).rows_start ≡ t.rows_start = ap (λ (k : Table). k.rows_start) table_new in
      record {
        before = same_before 0 t.rows_start (omega arith);
        rows = λ i h. rw at
            (rows-without f g t.rows_start t.rows_start t.rows 0 _ (from_rows f t.rows_start t.rows t.energies_start t.energies l) (omega (arith, l.rows, l.energies)) i h);
        at = ap (λ (p : Layout). p.energies) laid_new;
        behind = behind_is;
      }
