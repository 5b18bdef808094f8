-- A reading of a loosely packed file and of its packed one agree. Assumes nothing.
use mathlib.Core.Path.{◌≡◌, refl, sym, ap, ◌∙◌}
use mathlib.Core.Bool.{Bool, true, false, not, ◌&&◌, and-eq-true_iff}
use mathlib.Core.List.{List, [], ◌∷◌, map}
use mathlib.Core.Logic.{⊎_elim}
use Prim.Native.Nat.{ℕ, zero, suc, ◌+◌, ◌*◌, ◌≤◌, ◌<◌}
use native.Mathlib.Omega.{arith}
use lib.ListN.{length, get_or, take}
use lib.Dec.{leb, ltb, eqb}
use lib.Ieee.{Float, binary64, of_bits, mul, is_nan}
use borrow.Author.Tests.{lt-ltb, le-ltb, le-leb, lt-leb, leb-true, eqb-true, eqb-false}
use Rattle.ieee.proofs.Pack.{le_or_lt}
use Rattle.lists.specs.Lists.{every}
use Rattle.lists.proofs.Counting.{chosen}
use Rattle.lists.proofs.Places.{place}
use Rattle.mesh.specs.Levels.{vertex_count, grid_size, per}
use Rattle.mesh.specs.declared.Face.{Face}
use Rattle.search.specs.Geometry.{unit}
use Rattle.search.specs.Search.{Locator, nearest_in, locator_from, vertices_from}
use Rattle.search.specs.declared.Nearest.{Nearest}
use Rattle.search.specs.declared.Located.{Located}
use Rattle.search.proofs.Below.{nearest_below, located_below}
use Rattle.table.specs.declared.Entry.{Entry}
use Rattle.table.specs.File.{entry_of}
use Rattle.table.specs.Read.{layout, table_of, row_items}
use Rattle.table.specs.Tail.{Tail}
use Rattle.table.specs.Internal.{ends_below}
use Rattle.table.specs.declared.Table.{Table}
use Rattle.table.proofs.Back.{All, item_at}
use Rattle.table.proofs.Items.{items-many}
use Rattle.reading.specs.Resolve.{reading_values, Way, way_valid, Resolved, unresolved, beyond, slab_at, resolve, Picks, unpicked, picked, Combination, combined, joint, pair_place, nearest_pick, face_pick}
use Rattle.reading.specs.Reading.{row_inside, energy_inside, entry_at, energy_at, search_in, picks_by, slab_by, read_entry, reading_by}
use Rattle.reading.specs.declared.Query.{Query}
use Rattle.reading.proofs.Picked.{both_found}
use Rattle.tail.specs.Rule.{sum_from}
use Rattle.tail.specs.Reading.{tail_values, tail_out}
use Rattle.std.proofs.Common.{Ok}
use Rattle.tail.proofs.Laws.{no_distance_lem, no_terms_lem, summed}
use Rattle.repack.specs.Repack.{held, total, moved_to, repacked}
use Rattle.repack.proofs.Outcome.{Yes}
use Rattle.repack.proofs.Packed.{placed_at, total_at, part_at, energy-same}
use Rattle.repack.proofs.Accepts.{T, l, long, new_table, rows_new, energies_new, tail_same, tail_starts, tail_inside}

-- ---- places that a search picks are a slab's, whatever was lent

abbrev PicksBelow : ℕ → Picks → Type 0
PicksBelow n (unpicked k) = Unit {0}
PicksBelow n (picked ks a b x y) = All (λ k. k < n) ks

pair_below : (n a b : ℕ) → a < n → b < n → pair_place n a b < n * n
pair_below n a b h k = omega (arith, place a n (b + 1) n h (omega (arith, k)))

nearest_picks : (n : ℕ) (a b : Nearest) → (a.number ≡ 0 → a.vertex < n) → (b.number ≡ 0 → b.vertex < n) → PicksBelow (n * n) (nearest_pick n a b)
unfolding nearest_pick
nearest_picks n a b h k =
    chosen (PicksBelow (n * n)) (eqb (joint a.number b.number) 0) _ _
    (λ e. let z = both_found a.number b.number (eqb-true (joint a.number b.number) 0 e) in (pair_below n a.vertex b.vertex (h z.0) (k z.1), tt)) tt

abbrev Low : ℕ → Face → Type 0
Low n f = (f.a < n) × (f.b < n) × (f.c < n)

face_picks : (n : ℕ) (a b : Located) → (a.number ≡ 0 → Low n a.face) → (b.number ≡ 0 → Low n b.face) → PicksBelow (n * n) (face_pick n a b)
unfolding face_pick
face_picks n a b u v =
    chosen (PicksBelow (n * n)) (eqb (joint a.number b.number) 0) _ _
    (λ e. let z = both_found a.number b.number (eqb-true (joint a.number b.number) 0 e) in
    let h = u z.0 in
    let k = v z.1 in (
      pair_below n _ _ h.0 k.0,
      (
        pair_below n _ _ h.0 k.1,
        (
          pair_below n _ _ h.0 k.2,
          (
            pair_below n _ _ h.1 k.0,
            (
              pair_below n _ _ h.1 k.1,
              (
                pair_below n _ _ h.1 k.2,
                (pair_below n _ _ h.2 k.0, (pair_below n _ _ h.2 k.1, (pair_below n _ _ h.2 k.2, tt))),
              ),
            ),
          ),
        ),
      ),
    )) tt

some-vertices : (v : ℕ) → 0 < vertex_count v
unfolding vertex_count
some-vertices v = omega arith

search-below : (vs : List Float) (p : Locator) (q : Query) (v : ℕ) (b : Bool) → PicksBelow (per v) (search_in vs p q v b)
unfolding search_in per nearest_in
search-below vs p q v b =
    let n = vertex_count v in
    let w = vertices_from v vs in
    let o = locator_from v p in
    chosen (PicksBelow (per v)) b _ _
    (λ e. face_picks n _ _ (located_below w n (unit q.a) (some-vertices v) o (grid_size n)) (located_below w n (unit q.b) (some-vertices v) o (grid_size n)))
    (nearest_picks n _ _ (nearest_below w n (unit q.a) o.cell_offsets o.cell_vertices (grid_size n)) (nearest_below w n (unit q.b) o.cell_offsets o.cell_vertices (grid_size n)))

-- ---- lists of places

map_same : (P : ℕ → Type 0) (a b : ℕ → ℕ) → ((k : ℕ) → P k → a k ≡ b k) → (ks : List ℕ) → All P ks → map a ks ≡ map b ks
map_same P a b h [] q = refl
map_same P a b h (k ∷ ks) q = rw (h k q.0, map_same P a b h ks q.1)

every_yes : (P : ℕ → Type 0) (p : ℕ → Bool) → ((k : ℕ) → P k → p k ≡ true) → (ks : List ℕ) → All P ks → every p ks ≡ true
unfolding every
every_yes P p h [] q = refl
every_yes P p h (k ∷ ks) q = rw (h k q.0, every_yes P p h ks q.1)

-- of every entry, that of one
every_at : (p : Entry → Bool) (rs : List Entry) (i : ℕ) (d : Entry) → i < length rs → every p rs ≡ true → p (get_or rs i d) ≡ true
unfolding every
every_at p [] i d h e = absurd (omega (arith, h))
every_at p (r ∷ rs) zero d h e = ((and-eq-true_iff (p r) (every p rs)).0 e).0
every_at p (r ∷ rs) (suc i) d h e = every_at p rs i d (omega (arith, h)) ((and-eq-true_iff (p r) (every p rs)).0 e).1

module _ (f : List ℕ) (y : Yes f (table_of f (layout f))) where
  abbrev k : Table
  k = new_table f y

  abbrev o₀ : Table
  o₀ = table_of f (layout f)

  abbrev G : List ℕ
  G = repacked f (table_of f (layout f))

  abbrev rs : List Entry
  rs = row_items f (table_of f (layout f))

  abbrev none : Entry
  none = record { kind = 1; level = 0; offset = 0; scalar = 0 }

  rs_many : length rs ≡ o₀.rows
  rs_many = items-many entry_of 10 f o₀.rows_start o₀.rows

  -- row i in both
  entry_old : (i : ℕ) → i < o₀.rows → entry_at f o₀ i ≡ get_or rs i none
  unfolding entry_at
  entry_old i h = sym (item_at entry_of 10 f none o₀.rows_start o₀.rows i h)

  entry_new : (i : ℕ) → i < o₀.rows → entry_at G k i ≡ moved_to (total (take i rs)) (get_or rs i none)
  unfolding entry_at
  entry_new i h =
      let z : 0 + total (take i rs) ≡ total (take i rs) = omega arith in
      sym (item_at entry_of 10 G none o₀.rows_start o₀.rows i h)
      ∙ ap (λ (q : List Entry). get_or q i none) (rows_new f y)
      ∙ placed_at 0 rs i none (omega (arith, h, rs_many)) ∙ ap (λ (o : ℕ). moved_to o (get_or rs i none)) z

  -- the energies of row i in both
  module _ (i : ℕ) (h : i < o₀.rows) where
    abbrev r : Entry
    r = get_or rs i none

    abbrev o : ℕ
    o = total (take i rs)

    inside_old : (j : ℕ) → j < held r → energy_inside f o₀ (r.offset + j) ≡ true
    unfolding energy_inside
    inside_old j q = by (leb r.kind 1) refl
      where
        by : (x : Bool) → leb r.kind 1 ≡ x → (ltb (r.offset + j) o₀.energies && leb (o₀.energies_start + (r.offset + j) * 4 + 4) (length f)) ≡ true
        by true e = absurd (let n : held r ≡ 0 = rw e in omega (arith, q, n))
        by false e =
            let n : held r ≡ per r.level = rw e in
            let b = every_at (ends_below o₀.energies) rs i none (omega (arith, h, rs_many)) (l f y).inside in
            let a = leb-true (per r.level + r.offset) o₀.energies ((and-eq-true_iff (not (eqb r.offset 0xFFFF_FFFF)) (leb (per r.level + r.offset) o₀.energies)).0 (rw e at b)).1 in
            rw (lt-ltb (r.offset + j) o₀.energies (omega (arith, a, n, q)), le-leb (o₀.energies_start + (r.offset + j) * 4 + 4) (length f) (omega (arith, a, n, q, (l f y).energies)))

    inside_new : (j : ℕ) → j < held r → energy_inside G k (o + j) ≡ true
    unfolding energy_inside
    inside_new j q =
        let a = total_at rs i none (omega (arith, h, rs_many)) in
        rw (lt-ltb (o + j) (T f y) (omega (arith, a, q)), le-leb (o₀.energies_start + (o + j) * 4 + 4) (length G) (omega (arith, a, q, long f y)))

    energy_is : (j : ℕ) → j < held r → energy_at f o₀ (r.offset + j) ≡ energy_at G k (o + j)
    unfolding energy_at
    energy_is j q =
        energy-same f G o₀.energies_start o₀.energies (l f y).energies o₀.energies_start o r
        (part_at f G o₀.energies_start o₀.energies (l f y).energies o₀.energies_start rs _ none (energies_new f y) (l f y).inside i (omega (arith, h, rs_many))) j q

    picks_same : (c : Combination) (p : Picks) → PicksBelow (held r) p → picks_by f o₀ c r.offset p ≡ picks_by G k c o p
    picks_same c (unpicked n) b = refl
    picks_same c (picked ks u v x w) b =
        rw (
          every_yes (λ j. j < held r) (λ j. energy_inside f o₀ (r.offset + j)) inside_old ks b,
          every_yes (λ j. j < held r) (λ j. energy_inside G k (o + j)) inside_new ks b,
          map_same (λ j. j < held r) (λ j. energy_at f o₀ (r.offset + j)) (λ j. energy_at G k (o + j)) energy_is ks b,
        )

    module _ (vs : List Float) (p : Locator) (way : Way) (q : Query) where
      by_kind : (a b : Bool) → eqb r.kind 0 ≡ a → eqb r.kind 1 ≡ b → read_entry f o₀ vs p way q r ≡ read_entry G k vs p way q (moved_to o r)
      unfolding read_entry
      by_kind true b e d = rw e
      by_kind false true e d = rw (e, d)
      by_kind false false e d =
          let m : leb r.kind 1 ≡ false = above-one r.kind e d in
          let n : held r ≡ per r.level = rw m in
          let same = picks_same (combined way (eqb r.kind 3)) (search_in vs p q r.level (eqb r.kind 3)) (rw n (search-below vs p q r.level (eqb r.kind 3))) in
          rw (e, d, m, same)
        where
          above-one : (n : ℕ) → eqb n 0 ≡ false → eqb n 1 ≡ false → leb n 1 ≡ false
          above-one n e d = ⊎_elim (λ z. absurd (small n e d z)) (λ z. lt-leb n 1 z) (le_or_lt n 1)
            where
              small : (n : ℕ) → eqb n 0 ≡ false → eqb n 1 ≡ false → n ≤ 1 → ⊥
              small zero e d z = eqb-false 0 0 e refl
              small (suc zero) e d z = eqb-false 1 1 d refl
              small (suc (suc n)) e d z = omega (arith, z)

      entry-same : read_entry f o₀ vs p way q (entry_at f o₀ i) ≡ read_entry G k vs p way q (entry_at G k i)
      entry-same = rw (entry_old i h, entry_new i h) (by_kind _ _ refl refl)

  row_old : (i : ℕ) → i < o₀.rows → row_inside f o₀ i ≡ true
  unfolding row_inside
  row_old i h = rw (lt-ltb i o₀.rows h, le-leb (o₀.rows_start + i * 10 + 10) (length f) (omega (arith, h, (l f y).rows, (l f y).energies)))

  row_new : (i : ℕ) → i < o₀.rows → row_inside G k i ≡ true
  unfolding row_inside
  row_new i h = rw (lt-ltb i o₀.rows h, le-leb (o₀.rows_start + i * 10 + 10) (length G) (omega (arith, h, (l f y).rows, long f y)))

  outside_old : (i : ℕ) → o₀.rows ≤ i → row_inside f o₀ i ≡ false
  unfolding row_inside
  outside_old i z = rw (le-ltb i o₀.rows z)

  outside_new : (i : ℕ) → o₀.rows ≤ i → row_inside G k i ≡ false
  unfolding row_inside
  outside_new i z = rw (le-ltb i o₀.rows z)

  slab-same : (vs : List Float) (p : Locator) (way : Way) (q : Query) (x : Resolved) → slab_by f o₀ (read_entry f o₀ vs p way q) x ≡ slab_by G k (read_entry G k vs p way q) x
  slab-same vs p way q (unresolved n) = refl
  slab-same vs p way q beyond = refl
  slab-same vs p way q (slab_at i) =
      ⊎_elim
      (λ z. rw (outside_old i z, outside_new i z))
      (λ z. rw (row_old i z, row_new i z) (entry-same i z vs p way q))
      (le_or_lt o₀.rows i)

  pub readings-same : (vs : List Float) (p : Locator) (way : Way) (q : Query) → reading_by f o₀ vs p way q ≡ reading_by G k vs p way q
  unfolding reading_by
  readings-same vs p way q = ap reading_values (slab-same vs p way q (resolve (way_valid way) o₀.grid q))

  -- ---- the tail

  tail_some : 0 < o₀.terms → (r : Float) → is_nan r ≡ false → tail_out f o₀ r ≡ tail_out G k r
  tail_some h r e =
      let n : (o₀.terms ≡ 0 → ⊥) = λ z. omega (arith, z, h) in
      let a = tail_starts f y h in
      let old = le-leb (o₀.tail_start + o₀.terms * 20 + 8) (length f) (tail_inside f y h) in
      let new = le-leb (k.tail_start + o₀.terms * 20 + 8) (length G) (omega (arith, tail_inside f y h, a.0, a.1, long f y)) in
      summed f o₀ r e n old
      ∙ ap (λ (z : Tail). tail_values (Ok (mul binary64 z.prefactor (sum_from r (of_bits binary64 0x8000_0000_0000_0000) z.terms)))) (sym (tail_same f y h))
      ∙ sym (summed G k r e n new)

  tail_none : o₀.terms ≡ 0 → (r : Float) → is_nan r ≡ false → tail_out f o₀ r ≡ tail_out G k r
  tail_none z r e = no_terms_lem f o₀ r e z ∙ sym (no_terms_lem G k r e z)

  tail_by : (x : Bool) (r : Float) → is_nan r ≡ x → tail_out f o₀ r ≡ tail_out G k r
  tail_by true r e = no_distance_lem f o₀ r e ∙ sym (no_distance_lem G k r e)
  tail_by false r e = ⊎_elim (λ z. tail_none (omega (arith, z)) r e) (λ z. tail_some z r e) (le_or_lt o₀.terms 0)

  pub tails-same : (r : Float) → tail_out f o₀ r ≡ tail_out G k r
  tails-same r = tail_by _ r refl
