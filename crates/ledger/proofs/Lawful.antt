-- What both ledgers have in common, and what a call does to a slice. Assumes nothing.
use mathlib.Core.Path.{◌≡◌, refl, sym, ap, ◌∙◌}
use mathlib.Core.Bool.{Bool, true, false, not, cond, ◌&&◌, true≢false, and-eq-true_iff}
use mathlib.Core.List.{List, [], ◌∷◌, ◌++◌, map}
use mathlib.Core.Logic.{◌⊎◌, inl, inr, ⊎_elim}
use Prim.Native.Nat.{ℕ, suc, ◌+◌, ◌*◌, ◌≤◌, ◌<◌}
use native.Mathlib.Omega.{arith}
use lib.ListN.{length, set, length-set, length-map}
use lib.Dec.{eqb, ltb, lit<}
use lib.Ieee.{Float, is_nan}
use borrow.Author.Tests.{eqb-true, eq-eqb, ltb-true, lt-ltb, le-ltb}
use Rattle.ieee.proofs.Pack.{le_or_lt}
use Rattle.lists.specs.Questions.{ask}
use Rattle.lists.specs.Lists.{every, put}
use Rattle.lists.proofs.Asking.{ask_yes}
use Rattle.lists.proofs.Places.{place}
use Rattle.lists.proofs.Written.{length-put}
use Rattle.rows.specs.Rows.{Row, scalar, repulsive, mesh}
use Rattle.settling.specs.Settling.{new_row, in_place_of, from_level}
use Rattle.settling.specs.declared.Verdict.{Verdict}
use Rattle.settling.specs.declared.Verdict.TheVariants.{Empty as empty, Blocked as blocked, Isotropic as isotropic, Smooth as smooth, Rough as rough}
use Rattle.table.proofs.Back.{All}
use Rattle.ledger.specs.Ledger.{Ledger, set_entered}
use Rattle.ledger.specs.Replay.{Kind, sets, settles, writes, Keeping, onward, slice_of}
use Rattle.ledger.proofs.Store.{all_set}
use Rattle.ledger.proofs.Slices.{slice_many, own_set, other_set, own_put, other_put, slices_ext}

-- ---- kinds

abbrev pub which : Kind → ℕ
which (sets ri oi) = 0
which (settles ri) = 1
which writes = 2

abbrev pub distance : Kind → ℕ
distance (sets ri oi) = ri
distance (settles ri) = ri
distance writes = 0

abbrev pub dihedral : Kind → ℕ
dihedral (sets ri oi) = oi
dihedral (settles ri) = 0
dihedral writes = 0

-- ---- rows

-- without energies; with energies, if any, of level c or a higher one
abbrev pub Bare : Row Float → Type 0
Bare (scalar x) = Unit {0}
Bare repulsive = Unit {0}
Bare (mesh v b e) = ⊥

abbrev pub Above : ℕ → Row Float → Type 0
Above c (scalar x) = Unit {0}
Above c repulsive = Unit {0}
Above c (mesh v b e) = c ≤ v

-- entry by entry, the second list has the first's, or what h makes of it
abbrev pub Mixed : (Row Float → Row Float) → List (Row Float) → List (Row Float) → Type 0
Mixed h [] [] = Unit {0}
Mixed h [] (q ∷ qs) = ⊥
Mixed h (r ∷ rs) [] = ⊥
Mixed h (r ∷ rs) (q ∷ qs) = ((q ≡ r) ⊎ (q ≡ h r)) × Mixed h rs qs

-- the row that settling at level c leaves, f finding the verdict
abbrev pub settled_row : (ℕ → Row Float → Verdict) → ℕ → Row Float → Row Float
settled_row f c r = in_place_of r (new_row c (f c r))

pub not_true : (x : Bool) → not x ≡ true → x ≡ false
not_true true h = sym h
not_true false h = refl

-- a level and rows
abbrev pub pair : ℕ → List (Row Float) → Ledger
pair c rs = record { level = c; rows = rs }

pub ledger_eq : (b d : Ledger) → b.level ≡ d.level → b.rows ≡ d.rows → b ≡ d
ledger_eq b d e f = ap (λ (v : ℕ). pair v b.rows) e ∙ ap (pair d.level) f

-- 8 to 10 of a set, energies e at a level of n of them
abbrev pub set_number : Bool → ℕ → List Float → ℕ
set_number inside n e = ask inside 8 (ask (eqb (length e) n) 9 (ask (every (λ x. not (is_nan x)) e) 10 0))

-- ---- a ledger that obeys

pub record Lawful (k : Keeping) : Type 0 where
  -- how many energies a row of a level has
  pub each : ℕ → ℕ
  pub rising : (v w : ℕ) → v < w → each v < each w
  pub energies : k.Calls → List Float
  -- the verdict on a row at a level
  pub seen : ℕ → Row Float → Verdict
  pub seen_scalar : (c : ℕ) (x : Float) → seen c (scalar x) ≡ empty
  pub seen_repulsive : (c : ℕ) → seen c repulsive ≡ empty
  pub seen_mesh : (c v w : ℕ) (b d : Bool) (e : List Float) → seen c (mesh v b e) ≡ seen c (mesh w d e)
  -- the level after a settle of these rows
  pub next : ℕ → List (Row Float) → ℕ
  pub next_level : (c : ℕ) (rs : List (Row Float)) → (next c rs ≡ c) ⊎ (suc (next c rs) ≡ c)
  pub next_mixed : (c : ℕ) (rs qs : List (Row Float)) → Mixed (settled_row seen c) rs qs → map (settled_row seen c) qs ≡ map (settled_row seen c) rs
      → next c rs ≡ c → next c qs ≡ c
  pub next_bare : (c : ℕ) (rs : List (Row Float)) → All Bare rs → next c rs ≡ c
  pub set-number : (b : Ledger) (c : k.Calls) (ri oi : ℕ) → k.kind c ≡ sets ri oi
      → k.number b c ≡ set_number (ltb ri k.distances && ltb oi k.dihedrals) (each b.level) (energies c)
  pub set_enters : (b : Ledger) (c : k.Calls) (ri oi : ℕ) → k.kind c ≡ sets ri oi
      → k.enter b c ≡ cond (eqb (k.number b c) 0) (set_entered b (ri * k.dihedrals + oi) (energies c)) b
  pub settle_number : (b : Ledger) → length b.rows ≡ k.distances * k.dihedrals → (c : k.Calls) (ri : ℕ) → k.kind c ≡ settles ri
      → k.number b c ≡ ask (ltb ri k.distances) 8 (ask (every (from_level b.level) (slice_of k b ri)) 11 0)
  pub settle_enters : (b : Ledger) → length b.rows ≡ k.distances * k.dihedrals → (c : k.Calls) (ri : ℕ) → k.kind c ≡ settles ri
      → k.enter b c
      ≡ cond (eqb (k.number b c) 0)
      (pair (next b.level (slice_of k b ri)) (put b.rows (ri * k.dihedrals) (map (settled_row seen b.level) (slice_of k b ri))))
      b
  pub write_enters : (b : Ledger) (c : k.Calls) → k.kind c ≡ writes → k.enter b c ≡ b
  pub fresh-many : length k.fresh.rows ≡ k.distances * k.dihedrals
  pub fresh_bare : (ri : ℕ) → All Bare (slice_of k k.fresh ri)

module _ (k : Keeping) (law : Lawful k) where
  abbrev n : ℕ
  n = k.dihedrals

  abbrev many : Ledger → Type 0
  many b = length b.rows ≡ k.distances * k.dihedrals

  abbrev one : ℕ → Row Float → Row Float
  one c r = settled_row law.seen c r

  -- ---- a settled row

  abbrev placed : ℕ → ℕ → Bool → List Float → Verdict → Row Float
  placed c v b e x = in_place_of (mesh v b e) (new_row c x)

  one-scalar : (c : ℕ) (x : Float) → one c (scalar x) ≡ scalar x
  one-scalar c x = rw (law.seen_scalar c x) refl

  one-repulsive : (c : ℕ) → one c repulsive ≡ repulsive
  one-repulsive c = rw (law.seen_repulsive c) refl

  -- it is of the level, if it has energies, and settled again it stays
  placed_level : (c v : ℕ) (b : Bool) (e : List Float) → v ≡ c → (x : Verdict) → from_level c (placed c v b e x) ≡ true
  placed_level c v b e h empty = eq-eqb v c h
  placed_level c v b e h blocked = refl
  placed_level c v b e h (isotropic x) = refl
  placed_level c v b e h (smooth x) = eq-eqb c c refl
  placed_level c v b e h (rough x) = eq-eqb v c h

  one_level : (c : ℕ) (r : Row Float) → from_level c r ≡ true → from_level c (one c r) ≡ true
  one_level c (scalar x) h = rw (one-scalar c x) refl
  one_level c repulsive h = rw (one-repulsive c) refl
  one_level c (mesh v b e) h = placed_level c v b e (eqb-true v c h) (law.seen c (mesh v b e))

  placed_again : (c v : ℕ) (b : Bool) (e : List Float) (x : Verdict) → law.seen c (mesh v b e) ≡ x → one c (placed c v b e x) ≡ placed c v b e x
  placed_again c v b e empty h = rw h refl
  placed_again c v b e blocked h = one-repulsive c
  placed_again c v b e (isotropic x) h = one-scalar c x
  placed_again c v b e (smooth x) h = rw (law.seen_mesh c c v false b e, h) refl
  placed_again c v b e (rough x) h = rw h refl

  one_again : (c : ℕ) (r : Row Float) → one c (one c r) ≡ one c r
  one_again c (scalar x) = ap (one c) (one-scalar c x)
  one_again c repulsive = ap (one c) (one-repulsive c)
  one_again c (mesh v b e) = placed_again c v b e (law.seen c (mesh v b e)) refl

  placed-above : (c v : ℕ) (b : Bool) (e : List Float) → c ≤ v → (x : Verdict) → Above c (placed c v b e x)
  placed-above c v b e h empty = h
  placed-above c v b e h blocked = tt
  placed-above c v b e h (isotropic x) = tt
  placed-above c v b e h (smooth x) = omega arith
  placed-above c v b e h (rough x) = h

  one-above : (c : ℕ) (r : Row Float) → Above c r → Above c (one c r)
  one-above c (scalar x) h = rw (one-scalar c x) tt
  one-above c repulsive h = rw (one-repulsive c) tt
  one-above c (mesh v b e) h = placed-above c v b e h (law.seen c (mesh v b e))

  ones_above : (c : ℕ) (rs : List (Row Float)) → All (Above c) rs → All (Above c) (map (one c) rs)
  ones_above c [] a = tt
  ones_above c (r ∷ rs) a = (one-above c r a.0, ones_above c rs a.1)

  -- ---- a settled slice, with the level that its settle leaves

  unfoldable pub settled_slice : ℕ → List (Row Float) → Ledger
  settled_slice c rs = cond (every (from_level c) rs) (pair (law.next c rs) (map (one c) rs)) (pair c rs)

  pub settled_yes : (c : ℕ) (rs : List (Row Float)) → every (from_level c) rs ≡ true → settled_slice c rs ≡ pair (law.next c rs) (map (one c) rs)
  unfolding settled_slice
  settled_yes c rs e = rw e refl

  pub settled_no : (c : ℕ) (rs : List (Row Float)) → every (from_level c) rs ≡ false → settled_slice c rs ≡ pair c rs
  unfolding settled_slice
  settled_no c rs e = rw e refl

  -- settling again, with any of the rows as they were before, gives the same where the level stayed
  mixed_level : (c : ℕ) (rs qs : List (Row Float)) → Mixed (one c) rs qs → every (from_level c) rs ≡ true → every (from_level c) qs ≡ true
  unfolding every
  mixed_level c [] [] x h = refl
  mixed_level c [] (q ∷ qs) x h = absurd x
  mixed_level c (r ∷ rs) [] x h = absurd x
  mixed_level c (r ∷ rs) (q ∷ qs) x h =
      let y = (and-eq-true_iff (from_level c r) (every (from_level c) rs)).0 h in
      (and-eq-true_iff (from_level c q) (every (from_level c) qs)).1 (
        ⊎_elim (λ e. ap (from_level c) e ∙ y.0) (λ e. ap (from_level c) e ∙ one_level c r y.0) x.0,
        mixed_level c rs qs x.1 y.1,
      )

  mixed_ones : (c : ℕ) (rs qs : List (Row Float)) → Mixed (one c) rs qs → map (one c) qs ≡ map (one c) rs
  mixed_ones c [] [] x = refl
  mixed_ones c [] (q ∷ qs) x = absurd x
  mixed_ones c (r ∷ rs) [] x = absurd x
  mixed_ones c (r ∷ rs) (q ∷ qs) x =
      let e : one c q ≡ one c r = ⊎_elim (λ e. ap (one c) e) (λ e. ap (one c) e ∙ one_again c r) x.0 in
      rw (e, mixed_ones c rs qs x.1) refl

  pub settled-mixed : (c : ℕ) (rs qs : List (Row Float)) → every (from_level c) rs ≡ true → Mixed (one c) rs qs → law.next c rs ≡ c
      → settled_slice c qs ≡ pair c (map (one c) rs)
  unfolding settled_slice
  settled-mixed c rs qs h x l = rw (mixed_level c rs qs x h, law.next_mixed c rs qs x (mixed_ones c rs qs x) l, mixed_ones c rs qs x) refl

  -- rows of a level above: nothing is settled
  bare_ones : (c : ℕ) (rs : List (Row Float)) → All Bare rs → map (one c) rs ≡ rs
  bare_ones c [] a = refl
  bare_ones c (scalar x ∷ rs) a = rw (one-scalar c x, bare_ones c rs a.1) refl
  bare_ones c (repulsive ∷ rs) a = rw (one-repulsive c, bare_ones c rs a.1) refl
  bare_ones c (mesh v b e ∷ rs) a = absurd a.0

  all_bare : (c d : ℕ) → d < c → (rs : List (Row Float)) → All (Above c) rs → every (from_level d) rs ≡ true → All Bare rs
  unfolding every
  all_bare c d h [] a e = tt
  all_bare c d h (scalar x ∷ rs) a e = (tt, all_bare c d h rs a.1 e)
  all_bare c d h (repulsive ∷ rs) a e = (tt, all_bare c d h rs a.1 e)
  all_bare c d h (mesh v b x ∷ rs) a e =
      let y = (and-eq-true_iff (eqb v d) (every (from_level d) rs)).0 e in
      let z : v ≡ d = eqb-true v d y.0 in
      absurd (omega (arith, a.0))

  pub settled-below : (c d : ℕ) → d < c → (rs : List (Row Float)) → All (Above c) rs → settled_slice d rs ≡ pair d rs
  unfolding settled_slice
  settled-below c d h rs a = by (every (from_level d) rs) refl
    where
      by : (x : Bool) → every (from_level d) rs ≡ x → cond x (pair (law.next d rs) (map (one d) rs)) (pair d rs) ≡ pair d rs
      by true e = let bare = all_bare c d h rs a e in rw (law.next_bare d rs bare, bare_ones d rs bare) refl
      by false e = refl

  ones_mixed : (c : ℕ) (rs : List (Row Float)) → Mixed (one c) rs (map (one c) rs)
  ones_mixed c [] = tt
  ones_mixed c (r ∷ rs) = (inr refl, ones_mixed c rs)

  -- settled again, at the level that it left, a slice stays
  pub settled_again : (c : ℕ) (rs : List (Row Float)) → All (Above c) rs → settled_slice (settled_slice c rs).level (settled_slice c rs).rows ≡ settled_slice c rs
  settled_again c rs a = by (every (from_level c) rs) refl
    where
      low : every (from_level c) rs ≡ true → (law.next c rs ≡ c) ⊎ (suc (law.next c rs) ≡ c) → settled_slice (law.next c rs) (map (one c) rs) ≡ pair (law.next c rs) (map (one c) rs)
      low e (inl l) = rw l (settled-mixed c rs (map (one c) rs) e (ones_mixed c rs) l)
      low e (inr l) = settled-below c (law.next c rs) (omega arith) (map (one c) rs) (ones_above c rs a)

      by : (x : Bool) → every (from_level c) rs ≡ x → settled_slice (settled_slice c rs).level (settled_slice c rs).rows ≡ settled_slice c rs
      by true e = let z = settled_yes c rs e in rw z (low e (law.next_level c rs))
      by false e = let z = settled_no c rs e in rw z z

  -- a slice that is refused stays refused at every lower level
  pub refused-below : (c d : ℕ) → d ≤ c → (rs : List (Row Float)) → All (Above c) rs → every (from_level c) rs ≡ false → every (from_level d) rs ≡ false
  unfolding every
  refused-below c d h [] a e = absurd (true≢false e)
  refused-below c d h (scalar x ∷ rs) a e = refused-below c d h rs a.1 e
  refused-below c d h (repulsive ∷ rs) a e = refused-below c d h rs a.1 e
  refused-below c d h (mesh v b x ∷ rs) a e = by (eqb v d) refl (λ y. refused-below c d h rs a.1 y)
    where
      by : (p : Bool) → eqb v d ≡ p → (every (from_level c) rs ≡ false → every (from_level d) rs ≡ false) → p && every (from_level d) rs ≡ false
      by false y i = refl
      by true y i =
          let j : v ≡ d = eqb-true v d y in
          i (rw (eq-eqb v c (omega (arith, a.0))) at e)

  -- what settling leaves: as many rows, of the new level or a higher one
  abbrev Settled : ℕ → List (Row Float) → Ledger → Type 0
  Settled c rs x = (length x.rows ≡ length rs) × ((x.level ≡ c) ⊎ (suc x.level ≡ c)) × All (Above c) x.rows

  pub settled_is : (c : ℕ) (rs : List (Row Float)) → All (Above c) rs → Settled c rs (settled_slice c rs)
  unfolding settled_slice
  settled_is c rs a = by (every (from_level c) rs)
    where
      by : (x : Bool) → Settled c rs (cond x (pair (law.next c rs) (map (one c) rs)) (pair c rs))
      by true = (length-map rs (one c), law.next_level c rs, ones_above c rs a)
      by false = (refl, inl refl, a)

  -- ---- a call changes a slice, and perhaps the level

  -- slice ri of b becomes r's rows, and the level r's
  pub record Changed (b : Ledger) (ri : ℕ) (r d : Ledger) : Type 0 where
    pub level : d.level ≡ r.level
    pub long : length d.rows ≡ length b.rows
    pub own : slice_of k d ri ≡ r.rows
    pub others : (rj : ℕ) → (rj ≡ ri → ⊥) → slice_of k d rj ≡ slice_of k b rj

  pub changed_same : (b : Ledger) (ri : ℕ) (d : Ledger) → many b → Changed b ri (pair b.level (slice_of k b ri)) d → d ≡ b
  changed_same b ri d e c = ledger_eq d b c.level (slices_ext n k.distances d.rows b.rows (c.long ∙ e) e (λ rj h. by rj (native.Mathlib.Decide.ℕ_discrete rj ri)))
    where
      by : (rj : ℕ) → Dec (rj ≡ ri) → slice_of k d rj ≡ slice_of k b rj
      by rj (yes q) = rw q c.own
      by rj (no q) = c.others rj q

  unchanged : (b : Ledger) (ri : ℕ) → Changed b ri (pair b.level (slice_of k b ri)) b
  unchanged b ri = record { level = refl; long = refl; own = refl; others = λ rj h. refl }

  -- a set is answered by the level alone
  pub set-number-same : (b d : Ledger) (c : k.Calls) (ri oi : ℕ) → k.kind c ≡ sets ri oi → b.level ≡ d.level → k.number b c ≡ k.number d c
  set-number-same b d c ri oi q e = law.set-number b c ri oi q ∙ rw e (sym (law.set-number d c ri oi q))

  -- a set that is refused, and not by 9, is refused at every level
  never_by : (i : Bool) (v w : ℕ) (e : List Float) → (set_number i v e ≡ 0 → ⊥) → (set_number i v e ≡ 9 → ⊥) → set_number i w e ≡ 0 → ⊥
  unfolding ask
  never_by false v w e x y z = omega (arith, z)
  never_by true v w e x y z = by (eqb (length e) v) refl
    where
      fine : every (λ x. not (is_nan x)) e ≡ true
      fine = (ask_yes (lit< tt) (ask_yes {q = eqb (length e) w} {n = 9} {r = ask (every (λ x. not (is_nan x)) e) 10 0} (lit< tt) z).1).0

      by : (t : Bool) → eqb (length e) v ≡ t → ⊥
      by true h = x (rw (h, fine) refl)
      by false h = y (rw h refl)

  pub set_never : (b d : Ledger) (c : k.Calls) (ri oi : ℕ) → k.kind c ≡ sets ri oi → (k.number b c ≡ 0 → ⊥) → (k.number b c ≡ 9 → ⊥) → k.number d c ≡ 0 → ⊥
  set_never b d c ri oi q x y z =
      let e = law.set-number b c ri oi q in
      never_by (ltb ri k.distances && ltb oi k.dihedrals) (law.each b.level) (law.each d.level) (law.energies c) (λ h. x (e ∙ h)) (λ h. y (e ∙ h)) (sym (law.set-number d c ri oi q) ∙ z)

  pub set-refused : (b : Ledger) (c : k.Calls) (ri oi : ℕ) → k.kind c ≡ sets ri oi → eqb (k.number b c) 0 ≡ false → k.enter b c ≡ b
  set-refused b c ri oi q e = law.set_enters b c ri oi q ∙ rw e refl

  -- a set that is accepted
  pub record Inside (b : Ledger) (c : k.Calls) (ri oi : ℕ) : Type 0 where
    pub distance : ri < k.distances
    pub dihedral : oi < k.dihedrals
    pub size : length (law.energies c) ≡ law.each b.level
    pub fine : every (λ x. not (is_nan x)) (law.energies c) ≡ true

  pub inside : (b : Ledger) (c : k.Calls) (ri oi : ℕ) → k.kind c ≡ sets ri oi → k.number b c ≡ 0 → Inside b c ri oi
  inside b c ri oi q e =
      let q8 = ask_yes (lit< tt) (sym (law.set-number b c ri oi q) ∙ e) in
      let q9 = ask_yes (lit< tt) q8.1 in
      let q10 = ask_yes (lit< tt) q9.1 in
      let bins = (and-eq-true_iff (ltb ri k.distances) (ltb oi k.dihedrals)).0 q8.0 in
      record {
        distance = ltb-true ri k.distances bins.0;
        dihedral = ltb-true oi k.dihedrals bins.1;
        size = eqb-true _ _ q9.0;
        fine = q10.0;
      }

  pub set_changes : (b : Ledger) (c : k.Calls) (ri oi : ℕ) → k.kind c ≡ sets ri oi → k.number b c ≡ 0
      → Changed b ri (pair b.level (set (slice_of k b ri) oi (mesh b.level true (law.energies c)))) (k.enter b c)
  unfolding set_entered
  set_changes b c ri oi q e =
      let i = inside b c ri oi q e in
      let x = mesh b.level true (law.energies c) in
      rw (law.set_enters b c ri oi q, eq-eqb _ 0 e) (record {
        level = refl;
        long = length-set b.rows (ri * n + oi) x;
        own = own_set n b.rows ri oi x i.dihedral;
        others = other_set n b.rows ri oi x i.dihedral;
      })

  -- a settle of a slice that there is
  settle_by : (b : Ledger) → many b → (c : k.Calls) (ri : ℕ) → k.kind c ≡ settles ri → ri < k.distances → (x : Bool) → every (from_level b.level) (slice_of k b ri) ≡ x
      → Changed b ri (settled_slice b.level (slice_of k b ri)) (k.enter b c)
  unfolding settled_slice ask
  settle_by b e c ri q h true y =
      let rs = slice_of k b ri in
      let l = map (one b.level) rs in
      let z : length l ≡ n = length-map rs (one b.level) ∙ slice_many n b.rows k.distances ri e h in
      let p = place ri k.distances n n h (omega arith) in
      rw (law.settle_enters b e c ri q, law.settle_number b e c ri q, lt-ltb ri k.distances h, y) (record {
        level = refl;
        long = length-put b.rows (ri * n) l (omega (arith, p));
        own = own_put n b.rows ri l z (omega (arith, p));
        others = other_put n b.rows ri l z (omega (arith, p));
      })
  settle_by b e c ri q h false y = rw (law.settle_enters b e c ri q, law.settle_number b e c ri q, lt-ltb ri k.distances h, y) (unchanged b ri)

  pub settle_changes : (b : Ledger) → many b → (c : k.Calls) (ri : ℕ) → k.kind c ≡ settles ri → ri < k.distances → Changed b ri (settled_slice b.level (slice_of k b ri)) (k.enter b c)
  settle_changes b e c ri q h = settle_by b e c ri q h _ refl

  pub settle_outside : (b : Ledger) → many b → (c : k.Calls) (ri : ℕ) → k.kind c ≡ settles ri → k.distances ≤ ri → (k.number b c ≡ 8) × (k.enter b c ≡ b)
  unfolding ask
  settle_outside b e c ri q h =
      let z : ltb ri k.distances ≡ false = le-ltb ri k.distances h in
      let x : k.number b c ≡ 8 = law.settle_number b e c ri q ∙ rw z refl in
      (x, law.settle_enters b e c ri q ∙ rw x refl)

  -- ---- every ledger that calls reach has all its rows, and no energies of a level below its own

  pub record Sound (b : Ledger) : Type 0 where
    pub long : many b
    pub above : (ri : ℕ) → All (Above b.level) (slice_of k b ri)

  all_lower : (c d : ℕ) → d ≤ c → (rs : List (Row Float)) → All (Above c) rs → All (Above d) rs
  all_lower c d h [] a = tt
  all_lower c d h (scalar x ∷ rs) a = (tt, all_lower c d h rs a.1)
  all_lower c d h (repulsive ∷ rs) a = (tt, all_lower c d h rs a.1)
  all_lower c d h (mesh v b e ∷ rs) a = (omega (arith, a.0), all_lower c d h rs a.1)

  pub changed_sound : (b : Ledger) (ri : ℕ) (r d : Ledger) → Sound b → r.level ≤ b.level → All (Above r.level) r.rows → Changed b ri r d → Sound d
  changed_sound b ri r d s h a c =
      record {
        long = c.long ∙ s.long;
        above = λ rj. by rj (native.Mathlib.Decide.ℕ_discrete rj ri);
      }
    where
      by : (rj : ℕ) → Dec (rj ≡ ri) → All (Above d.level) (slice_of k d rj)
      by rj (yes e) = rw (e, c.level, c.own) a
      by rj (no e) = rw (c.level, c.others rj e) (all_lower b.level r.level h (slice_of k b rj) (s.above rj))

  level_le : (c d : ℕ) → (d ≡ c) ⊎ (suc d ≡ c) → d ≤ c
  level_le c d (inl e) = omega arith
  level_le c d (inr e) = omega arith

  -- what a call does: nothing, a set, or a settle
  pub data Move (b : Ledger) (c : k.Calls) : Type 0 where
    idle : k.enter b c ≡ b → Move b c
    setting : (ri oi : ℕ) → k.kind c ≡ sets ri oi → k.number b c ≡ 0 → Move b c
    settling : (ri : ℕ) → k.kind c ≡ settles ri → ri < k.distances → Move b c

  pub move : (b : Ledger) → many b → (c : k.Calls) → Move b c
  move b e c = by (k.kind c) refl
    where
      asked : (ri oi : ℕ) → k.kind c ≡ sets ri oi → (x : Bool) → eqb (k.number b c) 0 ≡ x → Move b c
      asked ri oi q true d = setting ri oi q (eqb-true _ 0 d)
      asked ri oi q false d = idle (set-refused b c ri oi q d)

      by : (t : Kind) → k.kind c ≡ t → Move b c
      by (sets ri oi) q = asked ri oi q _ refl
      by (settles ri) q = ⊎_elim (λ h. idle (settle_outside b e c ri q h).1) (λ h. settling ri q h) (le_or_lt k.distances ri)
      by writes q = idle (law.write_enters b c q)

  pub sound_step : (b : Ledger) (c : k.Calls) → Sound b → Move b c → Sound (k.enter b c) × ((k.enter b c).level ≤ b.level)
  sound_step b c s (idle e) = rw e (s, omega arith)
  sound_step b c s (setting ri oi q e) =
      let x = set_changes b c ri oi q e in
      let l : b.level ≤ b.level = omega arith in
      (changed_sound b ri _ (k.enter b c) s l (all_set (Above b.level) (slice_of k b ri) oi _ l (s.above ri)) x, omega (arith, x.level))
  sound_step b c s (settling ri q h) =
      let x = settle_changes b s.long c ri q h in
      let r = settled_slice b.level (slice_of k b ri) in
      let y = settled_is b.level (slice_of k b ri) (s.above ri) in
      let l : r.level ≤ b.level = level_le b.level r.level y.1 in
      (changed_sound b ri r (k.enter b c) s l (all_lower b.level r.level l r.rows y.2) x, omega (arith, x.level))

  bare_above : (c : ℕ) (rs : List (Row Float)) → All Bare rs → All (Above c) rs
  bare_above c [] a = tt
  bare_above c (scalar x ∷ rs) a = (tt, bare_above c rs a.1)
  bare_above c (repulsive ∷ rs) a = (tt, bare_above c rs a.1)
  bare_above c (mesh v b e ∷ rs) a = absurd a.0

  pub fresh_sound : Sound k.fresh
  fresh_sound = record { long = law.fresh-many; above = λ ri. bare_above k.fresh.level (slice_of k k.fresh ri) (law.fresh_bare ri) }

  pub onward_sound : (b : Ledger) (cs : List k.Calls) → Sound b → Sound (onward k b cs)
  unfolding onward
  onward_sound b [] s = s
  onward_sound b (c ∷ cs) s = onward_sound (k.enter b c) cs (sound_step b c s (move b s.long c)).0

-- calls one list after another
pub onward-append : (k : Keeping) (b : Ledger) (bs cs : List k.Calls) → onward k b (bs ++ cs) ≡ onward k (onward k b bs) cs
unfolding onward
onward-append k b [] cs = refl
onward-append k b (c ∷ bs) cs = onward-append k (k.enter b c) bs cs
