-- Which rows and energies are inside a file, and what a reading answers by its stages. Assumes nothing.
use mathlib.Core.Path.{◌≡◌, refl, sym, ap, ◌∙◌}
use mathlib.Core.Bool.{Bool, true, false, not, cond, ◌&&◌, ◌||◌, and-eq-true_iff}
use mathlib.Core.List.{List}
use mathlib.Core.Logic.{⊎_elim}
use Rattle.std.proofs.Common.{Option, Some, None}
use Prim.Native.Nat.{ℕ, ◌+◌, ◌-◌, ◌*◌, ◌/◌, ◌≤◌, ◌<◌, min}
use native.Mathlib.Nat.{le-div_iff_mul-le, mul-le-mul}
use native.Mathlib.Omega.{arith}
use lib.ListN.{length, take, drop, get_or}
use lib.Dec.{leb, ltb, eqb}
use lib.Ieee.{Float, inf, binary32, binary64, of_bits, lt}
use lib.Ieee.Scale.{finite}
use borrow.Author.Tests.{lt-ltb, le-ltb, le-leb, lt-leb, leb-true, ltb-true, ltb-false, eqb-true, eqb-false, ne_eqb}
use Rattle.ieee.proofs.Pack.{le_or_lt}
use Rattle.lists.proofs.Counting.{or_none}
use Rattle.rows.specs.Rows.{resolution_of}
use Rattle.rows.specs.declared.SlabResolution.{SlabResolution}
use Rattle.rows.specs.declared.SlabResolution.TheVariants.{Scalar, Mesh, Repulsive}
use Rattle.search.specs.Search.{Locator}
use Rattle.table.specs.Bytes.{number_at}
use Rattle.table.specs.File.{entry_of}
use Rattle.table.specs.declared.Entry.{Entry}
use Rattle.table.proofs.Items.{entry_at as row_at, entry_at_lem}
use Rattle.grid.specs.Settings.{above}
use Rattle.grid.specs.declared.Grid.{Grid}
use Rattle.table.specs.declared.Table.{Table}
use Rattle.reading.specs.Resolve.{Reading, Refused, reading_values, plain, Query, Way, way_valid, unresolved, beyond, slab_at, query_valid, outside, resolve, Picks, unpicked, picked, Combination, widened, combined, boltzmann}
use Rattle.reading.specs.Reading.{row_inside, energy_inside, energy_at, entry_at, picks_by, entry_by, slab_by, read_entry, read_slab, reading_by, search_in, read_picks}
use Rattle.reading.specs.Internal.{items_inside, slab_of, rows_table, row_place, way_of, read_resolution}

-- ---- the items of a section

module _ (start w count n : ℕ) (W : 1 ≤ w) where
  reaches : (k : ℕ) → k < (n - start) / w → start + k * w + w ≤ n
  reaches k h = let m : (k + 1) * w ≤ n - start = (le-div_iff_mul-le W).0 (omega arith) in omega arith

  past : (k : ℕ) → (n - start) / w ≤ k → n < start + k * w + w
  past k h =
      ⊎_elim
      (λ l. let f : (k + 1) * w ≤ n - start = omega arith in let m : k + 1 ≤ (n - start) / w = (le-div_iff_mul-le W).1 f in absurd (omega arith))
      (λ l. l)
      (le_or_lt (start + k * w + w) n)

  -- below the count, with its bytes inside: below the number of those that are
  pub items_inside_lem : (k : ℕ) → (ltb k count && leb (start + k * w + w) n) ≡ ltb k (items_inside start w count n)
  unfolding items_inside
  items_inside_lem k =
      ⊎_elim
      (λ h. rw (le-ltb k count h, le-ltb k (min count ((n - start) / w)) (omega arith)))
      (λ h. ⊎_elim
      (λ g. rw (lt-ltb k count h, lt-leb (start + k * w + w) n (past k g), le-ltb k (min count ((n - start) / w)) (omega arith)))
      (λ g. rw (lt-ltb k count h, le-leb (start + k * w + w) n (reaches k g), lt-ltb k (min count ((n - start) / w)) (omega arith)))
      (le_or_lt ((n - start) / w) k))
      (le_or_lt count k)

  -- the bytes of one that is held
  pub held_fits : (k held : ℕ) → held ≡ items_inside start w count n → k < held → start + k * w + w ≤ n
  held_fits k held h l = leb-true _ _ ((and-eq-true_iff (ltb k count) (leb (start + k * w + w) n)).0 (items_inside_lem k ∙ rw (← h) (lt-ltb k held l))).1

-- a product that the limit is far above
pub not_past : (ri n oi limit : ℕ) → 1 ≤ n → oi < limit → ri ≤ (limit - oi - 1) / n → ri * n + oi < limit
not_past ri n oi limit N h l = let m : ri * n ≤ limit - oi - 1 = (le-div_iff_mul-le N).0 l in omega arith

pub quite_past : (ri n oi limit : ℕ) → 1 ≤ n → oi < limit → (limit - oi - 1) / n < ri → limit ≤ ri * n + oi
quite_past ri n oi limit N h l =
    ⊎_elim
    (λ g. g)
    (λ g. let f : ri * n ≤ limit - oi - 1 = omega arith in let m : ri ≤ (limit - oi - 1) / n = (le-div_iff_mul-le N).1 f in absurd (omega arith))
    (le_or_lt limit (ri * n + oi))

-- ---- rows

module _ (file : List ℕ) (t : Table) where
  places-below : (s held : ℕ) → held ≡ items_inside t.rows_start 10 t.rows (length file) → row_inside file t s ≡ ltb s held
  unfolding row_inside
  places-below s held h = rw h (items_inside_lem t.rows_start 10 t.rows (length file) (omega arith) s)

  -- the bytes of a row that was placed
  pub row_fits : (r held : ℕ) → held ≡ items_inside t.rows_start 10 t.rows (length file) → r < held → t.rows_start + r * 10 + 10 ≤ length file
  row_fits r held h l = held_fits t.rows_start 10 t.rows (length file) (omega arith) r held h l

-- by what reads a row
module _ (file : List ℕ) (t : Table) (read : Entry → Reading) where
  -- the row of slab s, where r is s or the number of rows held
  module _ (s r held : ℕ) (h : held ≡ items_inside t.rows_start 10 t.rows (length file)) (e : r ≡ min s held) where
    pub no_row : held ≤ r → Refused 19 ≡ slab_by file t read (slab_at s)
    no_row k = rw (places-below file t s held h, le-ltb s held (omega arith))

    pub row_at_lem : r < held → read (entry_of (take 10 (drop (t.rows_start + r * 10) file))) ≡ slab_by file t read (slab_at s)
    unfolding entry_at
    row_at_lem k = let z : r ≡ s = omega arith in rw (places-below file t s held h, lt-ltb s held (omega arith), z)

-- by a search of a level and what makes one energy of those that it picks
module _ (file : List ℕ) (t : Table) (f : Bool → Combination) (find : ℕ → Bool → Picks) where
  -- a Scalar row's short answer
  pub scalar-entry : (e : Entry) → e.kind ≡ 0 → plain (widened e.scalar) ≡ entry_by file t f find e
  scalar-entry e h = rw h

  -- picks, and so a row, ask a table for three numbers alone
  picks_table : (i : Bool) (o : ℕ) (p : Picks) → picks_by file (rows_table t.levels t.energies_start t.energies) (f i) o p ≡ picks_by file t (f i) o p
  unfolding energy_inside energy_at
  picks_table i o (unpicked n) = refl
  picks_table i o (picked ks u v x y) = refl

  pub entry-table : (e : Entry) → entry_by file (rows_table t.levels t.energies_start t.energies) f find e ≡ entry_by file t f find e
  entry-table e = rw (picks_table (eqb e.kind 3) e.offset (find e.level (eqb e.kind 3)))

module _ (file : List ℕ) (t : Table) (vs : List Float) (l : Locator) (way : Way) (q : Query) where
  -- an answer of what is resolved
  pub answered : (z : Reading) → z ≡ read_slab file t vs l way q (resolve (way_valid way) t.grid q) → reading_values z ≡ reading_by file t vs l way q
  unfolding reading_by
  answered z a = ap reading_values a

  scalar_read : (e : Entry) → e.kind ≡ 0 → plain (widened e.scalar) ≡ read_entry file t vs l way q e
  unfolding read_entry
  scalar_read e h = scalar-entry file t (combined way) (search_in vs l q) e h

  -- the answer by the row as the enum
  pub entry_by_lem : (e : Entry) → read_resolution file t vs l way q e.kind e.offset (resolution_of e.kind e.level e.scalar) ≡ read_entry file t vs l way q e
  unfolding read_entry resolution_of
  entry_by_lem e = by (eqb e.kind 0) (eqb e.kind 1)
    where
      by : (a b : Bool)
          → read_resolution file t vs l way q e.kind e.offset (cond a (Scalar (of_bits binary32 e.scalar)) (cond b Repulsive (Mesh e.level (eqb e.kind 3))))
          ≡ cond a (plain (widened e.scalar))
          (cond b (plain (inf false))
          (cond (leb e.kind 3 && ltb e.level t.levels) (read_picks file t way (eqb e.kind 3) e.offset (search_in vs l q e.level (eqb e.kind 3))) (Refused 19)))
      by true b = refl
      by false true = refl
      by false false = refl

-- ---- the first stage, question by question

pub row_place_le : (v n : ℕ) → v < 655362 → n ≤ 655362 → v * n ≤ 429499351044
row_place_le v n h k = let l : v ≤ 655362 = omega arith in mul-le-mul l k

pub bins_some : (a b : ℕ) → (eqb a 0 || eqb b 0) ≡ false → (1 ≤ a) × (1 ≤ b)
bins_some a b h = let k = or_none (eqb a 0) (eqb b 0) h in (some a (eqb-false a 0 k.0), some b (eqb-false b 0 k.1))
  where
    some : (n : ℕ) → (n ≡ 0 → ⊥) → 1 ≤ n
    some n h = ⊎_elim (λ l. absurd (h (omega arith))) (λ l. l) (le_or_lt n 0)

pub bins_none : (a b : ℕ) → (eqb a 0 || eqb b 0) ≡ true → (ltb 0 a && ltb 0 b) ≡ false
bins_none a b h =
    ⊎_elim
    (λ l. rw (le-ltb 0 a l))
    (λ l. let n : (a ≡ 0 → ⊥) = λ z. omega arith in
    let e : eqb b 0 ≡ true = sym (ap (λ (t : Bool). t || eqb b 0) (ne_eqb a 0 n)) ∙ h in
    let z : b ≡ 0 = eqb-true b 0 e in
    rw (lt-ltb 0 a l, z))
    (le_or_lt a 0)

-- a beta that is finite and above 0 stands for itself
pub own_way : (beta : Float) → way_valid (boltzmann beta) ≡ true → way_of beta ≡ boltzmann beta
unfolding way_valid above
own_way beta h = rw ((and-eq-true_iff (finite beta) (lt (of_bits binary64 0) beta)).0 h).1

module _ (valid : Bool) (g : Grid) (q : Query) where
  pub refused_18 : query_valid q ≡ false → unresolved 18 ≡ resolve valid g q
  unfolding resolve
  refused_18 h = rw h

  pub refused_21 : query_valid q ≡ true → valid ≡ false → unresolved 21 ≡ resolve valid g q
  unfolding resolve
  refused_21 h k = rw (h, k)

  module _ (h : query_valid q ≡ true) (v : valid ≡ true) where
    pub beyond_out : outside g q.r ≡ true → beyond ≡ resolve valid g q
    unfolding resolve
    beyond_out k = rw (h, v, k)

-- ---- the row's place

abbrev place_in : Option ℕ → ℕ
place_in (Some p) = p
place_in None = 0

abbrev is_some : Option ℕ → ℕ
is_some (Some p) = 1
is_some None = 0

pub not_some : (p : ℕ) → Some p ≡ None → ⊥
not_some p e = let z : ◌≡◌ {A = ℕ} 1 0 = ap is_some e in omega (arith, z)

pub same_place : (p r : ℕ) → Some p ≡ Some r → p ≡ r
same_place p r e = ap place_in e

module _ (file : List ℕ) (t : Table) (q : Query) where
  abbrev slab : ℕ
  slab = slab_of t.grid q.r q.omega

  abbrev held : ℕ
  held = items_inside t.rows_start 10 t.rows (length file)

  abbrev bins : Bool
  bins = ltb 0 t.grid.n_r && ltb 0 t.grid.n_omega

  -- a row that is placed
  pub record Placed (p : ℕ) : Type 0 where
    pub some : bins ≡ true
    pub row : slab < held
    pub at : p ≡ t.rows_start + slab * 10

  placed_by : (p : ℕ) (x y : Bool) → bins ≡ x → ltb slab held ≡ y → Some p ≡ cond (x && y) (Some (t.rows_start + slab * 10)) None → Placed p
  placed_by p true true f g e = record { some = f; row = ltb-true slab held g; at = same_place p (t.rows_start + slab * 10) e }
  placed_by p true false f g e = absurd (not_some p e)
  placed_by p false y f g e = absurd (not_some p e)

  pub placed : (p : ℕ) → Some p ≡ row_place t (length file) q → Placed p
  placed p e = placed_by p _ _ refl refl e

  pub place_fits : (p : ℕ) → Some p ≡ row_place t (length file) q → p + 10 ≤ length file
  place_fits p e = let k = placed p e in omega (arith, k.at, row_fits file t slab held refl k.row)

  module _ (vs : List Float) (l : Locator) (way : Way) (valid : Bool) (h : query_valid q ≡ true) (v : valid ≡ true) (o : outside t.grid q.r ≡ false) where
    abbrev Reads : Reading → Type 0
    Reads z = z ≡ read_slab file t vs l way q (resolve valid t.grid q)

    -- no row: there are no bins, or it is not held
    none_by : (x y : Bool) → bins ≡ x → ltb slab held ≡ y → None ≡ cond (x && y) (Some (t.rows_start + slab * 10)) None → Reads (Refused 19)
    unfolding resolve
    none_by true true f g e = absurd (not_some _ (sym e))
    none_by true false f g e =
        rw (h, v, o, f) (no_row file t (read_entry file t vs l way q) slab held held refl (omega (arith, ltb-false slab held g)) (omega arith))
    none_by false y f g e = rw (h, v, o, f) refl

    pub row_none : None ≡ row_place t (length file) q → Reads (Refused 19)
    row_none e = none_by _ _ refl refl e

    module _ (p : ℕ) (e : Some p ≡ row_place t (length file) q) where
      row_read : read_entry file t vs l way q (entry_of (take 10 (drop p file))) ≡ read_slab file t vs l way q (resolve valid t.grid q)
      unfolding resolve
      row_read =
          let k = placed p e in
          rw (h, v, o, k.some, k.at) (row_at_lem file t (read_entry file t vs l way q) slab slab held refl (omega (arith, k.row)) k.row)

      -- the answers of a row that is inside: a Scalar row's at once, and by what a row's answer asks of a table
      pub scalar_row : get_or file p 0 ≡ 0 → Reads (plain (widened (number_at 4 file (p + 6))))
      scalar_row z = scalar_read file t vs l way q (row_at file p) z ∙ rw (← entry_at_lem file p) row_read

      pub entry_row : (z : Reading) → z ≡ read_entry file (rows_table t.levels t.energies_start t.energies) vs l way q (entry_of (take 10 (drop p file))) → Reads z
      unfolding read_entry
      entry_row z a = a ∙ entry-table file t (combined way) (search_in vs l q) (entry_of (take 10 (drop p file))) ∙ row_read

-- ---- the row as the enum

-- a kind that is known and a level that is held, or not
pub kept : (k v n : ℕ) → (leb k 3 && ltb v n) ≡ not (ltb 3 k || leb n v)
kept k v n =
    ⊎_elim
    (λ h. ⊎_elim
    (λ g. rw (le-leb k 3 h, le-ltb 3 k h, le-ltb v n g, le-leb n v g))
    (λ g. rw (le-leb k 3 h, le-ltb 3 k h, lt-ltb v n g, lt-leb n v g))
    (le_or_lt n v))
    (λ h. rw (lt-leb k 3 h, lt-ltb 3 k h))
    (le_or_lt k 3)

module _ (file : List ℕ) (t : Table) (vs : List Float) (l : Locator) (way : Way) (q : Query) (kind o : ℕ) (row : SlabResolution) where
  pub row_scalar : (x : Float) → row ≡ Scalar x → plain x ≡ read_resolution file t vs l way q kind o row
  row_scalar x e = rw e

  pub row_repulsive : row ≡ Repulsive → plain (inf false) ≡ read_resolution file t vs l way q kind o row
  row_repulsive e = rw e

  pub row_unknown : (v : ℕ) (b : Bool) → row ≡ Mesh v b → (ltb 3 kind || leb t.levels v) ≡ true → Refused 19 ≡ read_resolution file t vs l way q kind o row
  row_unknown v b e h = rw (e, kept kind v t.levels, h)

  pub row_mesh : (v : ℕ) (b i : Bool) → row ≡ Mesh v b → b ≡ i → (ltb 3 kind || leb t.levels v) ≡ false → read_picks file t way i o (search_in vs l q v i) ≡ read_resolution file t vs l way q kind o row
  row_mesh v b i e z h = rw (e, z, kept kind v t.levels, h)
