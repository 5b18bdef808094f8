-- Clean calls played again change nothing, and a walk along them that goes back ends as they do. Assumes nothing.
use mathlib.Core.Path.{◌≡◌, refl, sym, ap, ◌∙◌, subst}
use mathlib.Core.Bool.{Bool, true, false, not, cond, ◌||◌, true≢false, and-eq-true_iff}
use mathlib.Core.List.Memᴰ
use mathlib.Core.List.{List, [], ◌∷◌, ◌++◌, Memᴰ, append-nil, append_assoc, head-eq_of_cons-eq, tail-eq_of_cons-eq}
use mathlib.Core.Logic.{◌⊎◌, inl, inr, ⊎_elim}
use Prim.Native.Nat.{ℕ, ◌*◌, ◌≤◌, ◌<◌}
use native.Mathlib.Omega.{arith}
use lib.ListN.{length, get_or, set, length-set}
use lib.Seq.{get_or-set_same, get_or-set_other, set-get_or}
use lib.Dec.{eqb}
use lib.Ieee.{Float}
use borrow.Author.Tests.{eqb-true, eqb-false, eq-eqb, ne_eqb}
use Rattle.ieee.proofs.Pack.{le_or_lt}
use Rattle.lists.proofs.Counting.{or_none}
use Rattle.rows.specs.Rows.{Row, repulsive, mesh}
use Rattle.ledger.specs.Ledger.{Ledger}
use Rattle.ledger.specs.Replay.{Kind, sets, settles, writes, Keeping, some, of_slice, settling, sets_slice, sets_slab, settles_slice, onward, after, slice_of, clean_call, clean_from, clean, closed_call, closed, Walk, starts, plays, goes_back, Replay, Resume}
use Rattle.ledger.proofs.Slices.{slice_many, slices_ext}
use Rattle.ledger.proofs.Lawful.{which, not_true, pair, ledger_eq, Lawful, settled_slice, Changed, set-number-same, set-refused, set_never, set_changes, settle_changes, settle_outside, Sound, fresh_sound, onward_sound, onward-append}
use Rattle.ledger.proofs.Played.{row, Raw, Dirty, Played, clear, idle_played, set-played, settle_played}

-- ---- lists

-- the first list, its last entry in front, before the second
onto : {A : Type 0} → List A → List A → List A
onto [] l = l
onto (x ∷ xs) l = onto xs (x ∷ l)

onto_mem : {A : Type 0} (x : A) (xs l : List A) → Memᴰ x xs ⊎ Memᴰ x l → Memᴰ x (onto xs l)
unfolding onto
onto_mem x [] l (inl h) = absurd (Memᴰ.not-nil h)
onto_mem x [] l (inr h) = h
onto_mem x (y ∷ xs) l (inl h) = onto_mem x xs (y ∷ l) (⊎_elim (λ e. inr (Memᴰ.head e)) (λ m. inl m) (Memᴰ.cases_cons h))
onto_mem x (y ∷ xs) l (inr h) = onto_mem x xs (y ∷ l) (inr (Memᴰ.tail h))

or_true : (a : Bool) → a || true ≡ true
or_true true = refl
or_true false = refl

some_mem : {A : Type 0} (p : A → Bool) (x : A) (l : List A) → Memᴰ x l → p x ≡ true → some p l ≡ true
unfolding some
some_mem p x [] m h = absurd (Memᴰ.not-nil m)
some_mem p x (y ∷ l) m h = by (Memᴰ.cases_cons m) (λ i. some_mem p x l i h)
  where
    by : (x ≡ y) ⊎ Memᴰ x l → (Memᴰ x l → some p l ≡ true) → p y || some p l ≡ true
    by (inl e) i = let z : p y ≡ true = ap p (sym e) ∙ h in rw z refl
    by (inr j) i = let z = i j in rw z (or_true (p y))

or_assoc : (a b c : Bool) → a || (b || c) ≡ (b || a) || c
or_assoc true true c = refl
or_assoc true false c = refl
or_assoc false true c = refl
or_assoc false false c = refl

some_onto : {A : Type 0} (p : A → Bool) (xs l : List A) → some p (onto xs l) ≡ some p xs || some p l
unfolding onto some
some_onto p [] l = refl
some_onto p (x ∷ xs) l = some_onto p xs (x ∷ l) ∙ or_assoc (some p xs) (p x) (some p l)

some-append : {A : Type 0} (p : A → Bool) (xs l : List A) → some p (xs ++ l) ≡ some p xs || some p l
unfolding some
some-append p [] l = refl
some-append p (x ∷ xs) l = by (p x) (some-append p xs l)
  where
    by : (t : Bool) → some p (xs ++ l) ≡ some p xs || some p l → t || some p (xs ++ l) ≡ (t || some p xs) || some p l
    by true e = refl
    by false e = e

module _ (k : Keeping) (law : Lawful k) where
  -- ---- clean calls

  played_step : (b : Ledger) (made : List k.Calls) (c : k.Calls) (rest : List k.Calls) → Played k law b made (c ∷ rest)
      → clean_call k (k.kind c) (k.number b c) rest ≡ true → Played k law (k.enter b c) (c ∷ made) rest
  played_step b made c rest p h = by (k.kind c) refl
    where
      idle : k.enter b c ≡ b → Played k law b (c ∷ made) rest → Played k law (k.enter b c) (c ∷ made) rest
      idle e z = subst (λ (x : Ledger). Played k law x (c ∷ made) rest) (sym e) z

      asked : (ri oi : ℕ) → k.kind c ≡ sets ri oi → (x : Bool) → eqb (k.number b c) 0 ≡ x → cond x (not (sets_slab k ri oi rest)) (not (eqb (k.number b c) 9)) ≡ true
          → Played k law (k.enter b c) (c ∷ made) rest
      asked ri oi q true e y = set-played k law b made c rest p ri oi q (eqb-true _ 0 e) (not_true (sets_slab k ri oi rest) y)
      asked ri oi q false e y =
          let z = set-refused k law b c ri oi q e in
          idle z (idle_played k law b made c rest p z
          (λ d rj oj r t. set_never k law b d c ri oi q (eqb-false _ 0 e) (eqb-false _ 9 (not_true (eqb (k.number b c) 9) y)) t)
          (λ rj t. absurd (true≢false (sym t ∙ ap (settling rj) q))))

      settled : (ri : ℕ) → k.kind c ≡ settles ri → sets_slice k ri rest ≡ false → (k.distances ≤ ri) ⊎ (ri < k.distances) → Played k law (k.enter b c) (c ∷ made) rest
      settled ri q y (inl i) =
          let z = (settle_outside k law b p.sound.long c ri q i).1 in
          idle z (idle_played k law b made c rest p z
          (λ d rj oj r t. let u = ap which (sym r ∙ q) in omega (arith, u))
          (λ rj t. let e : rj ≡ ri = eqb-true rj ri (sym (ap (settling rj) q) ∙ t) in (rw e i, rw e y)))
      settled ri q y (inr i) = settle_played k law b made c rest p ri q i y

      by : (t : Kind) → k.kind c ≡ t → Played k law (k.enter b c) (c ∷ made) rest
      by (sets ri oi) q = let y = rw q at h in asked ri oi q _ refl y
      by (settles ri) q = let y = rw q at h in settled ri q (not_true (sets_slice k ri rest) y) (le_or_lt k.distances ri)
      by writes q =
          let z = law.write_enters b c q in
          idle z (idle_played k law b made c rest p z (λ d rj oj r t. let u = ap which (sym r ∙ q) in omega (arith, u)) (λ rj t. absurd (true≢false (sym t ∙ ap (settling rj) q))))

  played_on : (b : Ledger) (made cs rest : List k.Calls) → Played k law b made (cs ++ rest) → clean_from k b (cs ++ rest) ≡ true → Played k law (onward k b cs) (onto cs made) rest
  unfolding onward onto clean_from
  played_on b made [] rest p h = p
  played_on b made (c ∷ cs) rest p h =
      let z = (and-eq-true_iff (clean_call k (k.kind c) (k.number b c) (cs ++ rest)) (clean_from k (k.enter b c) (cs ++ rest))).0 h in
      played_on (k.enter b c) (c ∷ made) cs rest (played_step b made c (cs ++ rest) p z.0) z.1

  played : (cs rest : List k.Calls) → clean k (cs ++ rest) ≡ true → Played k law (after k cs) (onto cs []) rest
  unfolding some
  played cs rest h = played_on k.fresh [] cs rest start h
    where
      start : Played k law k.fresh [] (cs ++ rest)
      start =
          record {
            sound = fresh_sound k law;
            high = λ c ri oi m. absurd (Memᴰ.not-nil m);
            no_slice = λ ri e. absurd (true≢false (sym e));
            no_slab = λ c ri oi m. absurd (Memᴰ.not-nil m);
            stands = λ c ri oi m. absurd (Memᴰ.not-nil m);
            back = λ ri e. absurd (true≢false (sym e));
          }

  -- ---- playing them again

  -- x is the ledger b that the calls made left, but for slices that were set again and of which a settle is to come
  record Near (b : Ledger) (made : List k.Calls) (x : Ledger) (w : List k.Calls) : Type 0 where
    level : x.level ≡ b.level
    long : length x.rows ≡ k.distances * k.dihedrals
    at : (ri : ℕ) → ri < k.distances
        → (slice_of k x ri ≡ slice_of k b ri) ⊎ ((settles_slice k ri made ≡ true) × (settles_slice k ri w ≡ true) × Dirty k law b made ri (slice_of k x ri))

  near_same : (b x : Ledger) (made w : List k.Calls) → Sound k law b → x ≡ b → Near b made x w
  near_same b x made w s e = record { level = ap (λ (l : Ledger). l.level) e; long = ap (λ (l : Ledger). length l.rows) e ∙ s.long; at = λ ri h. inl (ap (λ (l : Ledger). slice_of k l ri) e) }

  near_end : (b x : Ledger) (made : List k.Calls) → Sound k law b → Near b made x [] → x ≡ b
  unfolding some
  near_end b x made s z =
      ledger_eq x b z.level (slices_ext k.dihedrals k.distances x.rows b.rows z.long s.long (λ ri h. ⊎_elim (λ e. e) (λ e. absurd (true≢false (sym e.1))) (z.at ri h)))

  near-more : (b x : Ledger) (made w v : List k.Calls) → ((ri : ℕ) → settles_slice k ri w ≡ true → settles_slice k ri v ≡ true) → Near b made x w → Near b made x v
  near-more b x made w v h z = record { level = z.level; long = z.long; at = λ ri i. ⊎_elim (λ e. inl e) (λ e. inr (e.0, h ri e.1, e.2)) (z.at ri i) }

  module _ (b : Ledger) (made rest : List k.Calls) (p : Played k law b made rest) (x : Ledger) (c : k.Calls) (w : List k.Calls) (z : Near b made x (c ∷ w)) (m : Memᴰ c made) where
    abbrev x' : Ledger
    x' = k.enter x c

    -- a slice is dirty, settled or not
    dirty : (ri : ℕ) → ri < k.distances → Dirty k law b made ri (slice_of k x ri)
    dirty ri h = ⊎_elim (λ e. subst (λ (l : List (Row Float)). Dirty k law b made ri l) (sym e) (clear k law b made ri p.sound h)) (λ e. e.2) (z.at ri h)

    left : (t : Kind) → k.kind c ≡ t → (ri : ℕ) → settles_slice k ri (c ∷ w) ≡ true → settling ri t || settles_slice k ri w ≡ true
    unfolding some
    left t q ri h = rw q at h

    passed : k.enter x c ≡ x → ((ri : ℕ) → ri < k.distances → settles_slice k ri (c ∷ w) ≡ true → settles_slice k ri w ≡ true) → Near b made x' w
    passed e h =
        subst (λ (y : Ledger). Near b made y w) (sym e)
        (record { level = z.level; long = z.long; at = λ ri i. ⊎_elim (λ d. inl d) (λ d. inr (d.0, h ri i d.1, d.2)) (z.at ri i) })

    -- a set that is taken
    module _ (rj oj : ℕ) (q : k.kind c ≡ sets rj oj) (t : k.number x c ≡ 0) (closes : settles_slice k rj made ≡ true → settles_slice k rj w ≡ true) where
      abbrev cx : Changed k law x rj (pair x.level (set (slice_of k x rj) oj (mesh x.level true (law.energies c)))) x'
      cx = set_changes k law x c rj oj q t

      abbrev new : Row Float
      new = mesh x.level true (law.energies c)

      taken : k.number b c ≡ 0
      taken = sym (set-number-same k law x b c rj oj q z.level) ∙ t

      -- its slice was settled: the row is a raw one
      set_dirty : rj < k.distances → Dirty k law b made rj (slice_of k x' rj)
      set_dirty h =
          let d = dirty rj h in
          subst (λ (l : List (Row Float)). Dirty k law b made rj l) (sym cx.own)
          (record { many = length-set (slice_of k x rj) oj (mesh x.level true (law.energies c)) ∙ d.many; at = λ oi i. by oi i (native.Mathlib.Decide.ℕ_discrete oi oj) })
        where
          many : length (slice_of k x rj) ≡ k.dihedrals
          many = slice_many k.dihedrals x.rows k.distances rj z.long h

          by : (oi : ℕ) → oi < k.dihedrals → Dec (oi ≡ oj)
              → (get_or (set (slice_of k x rj) oj new) oi repulsive ≡ row k law b rj oi) ⊎ Raw k law b made rj oi (get_or (set (slice_of k x rj) oj new) oi repulsive)
          by oi i (yes e) =
              inr (record { call = c; one_of = m; kind = q ∙ ap (sets rj) (sym e); taken = taken; same = rw (e, get_or-set_same (slice_of k x rj) oj new repulsive (omega (arith, many, i, e)), z.level) refl })
          by oi i (no e) = rw (get_or-set_other (slice_of k x rj) oj oi new repulsive e) ((dirty rj h).at oi i)

      -- it was not: the row stands already
      set_same : rj < k.distances → settles_slice k rj made ≡ false → slice_of k x' rj ≡ slice_of k b rj
      set_same h y =
          let e : slice_of k x rj ≡ slice_of k b rj = ⊎_elim (λ e. e) (λ e. absurd (true≢false (sym e.0 ∙ y))) (z.at rj h) in
          cx.own ∙ rw (e, z.level, ← p.stands c rj oj m q taken y) (set-get_or (slice_of k b rj) oj repulsive)

      set_at : (ri : ℕ) → ri < k.distances → Dec (ri ≡ rj) → (y : Bool) → settles_slice k rj made ≡ y
          → (slice_of k x' ri ≡ slice_of k b ri) ⊎ ((settles_slice k ri made ≡ true) × (settles_slice k ri w ≡ true) × Dirty k law b made ri (slice_of k x' ri))
      set_at ri h (no e) y f = rw (cx.others ri e) (⊎_elim (λ d. inl d) (λ d. inr (d.0, left (sets rj oj) q ri d.1, d.2)) (z.at ri h))
      set_at ri h (yes e) true f = let i = rw e at h in rw e (inr (f, closes f, set_dirty i))
      set_at ri h (yes e) false f = let i = rw e at h in rw e (inl (set_same i f))

      set-near : Near b made x' w
      set-near = record { level = cx.level ∙ z.level; long = cx.long ∙ z.long; at = λ ri h. set_at ri h (native.Mathlib.Decide.ℕ_discrete ri rj) _ refl }

    -- a settle brings its slice back
    module _ (rj : ℕ) (q : k.kind c ≡ settles rj) (j : rj < k.distances) where
      abbrev sx : Changed k law x rj (settled_slice k law x.level (slice_of k x rj)) x'
      sx = settle_changes k law x z.long c rj q j

      came_back : settled_slice k law x.level (slice_of k x rj) ≡ pair b.level (slice_of k b rj)
      came_back = rw z.level (p.back rj (some_mem (λ y. settling rj (k.kind y)) c made m (ap (settling rj) q ∙ eq-eqb rj rj refl)) j (slice_of k x rj) (dirty rj j))

      settle_at : (ri : ℕ) → ri < k.distances → Dec (ri ≡ rj)
          → (slice_of k x' ri ≡ slice_of k b ri) ⊎ ((settles_slice k ri made ≡ true) × (settles_slice k ri w ≡ true) × Dirty k law b made ri (slice_of k x' ri))
      settle_at ri h (yes e) = inl (rw e (sx.own ∙ ap (λ (l : Ledger). l.rows) came_back))
      settle_at ri h (no e) =
          rw (sx.others ri e) (⊎_elim (λ d. inl d) (λ d. let y = left (settles rj) q ri d.1 in inr (d.0, rw (ne_eqb ri rj e) at y, d.2)) (z.at ri h))

      settle_near : Near b made x' w
      settle_near = record { level = sx.level ∙ ap (λ (l : Ledger). l.level) came_back; long = sx.long ∙ z.long; at = λ ri h. settle_at ri h (native.Mathlib.Decide.ℕ_discrete ri rj) }

    near_step : ((ri oi : ℕ) → k.kind c ≡ sets ri oi → settles_slice k ri made ≡ true → settles_slice k ri w ≡ true) → Near b made x' w
    near_step closes = by (k.kind c) refl
      where
        asked : (ri oi : ℕ) → k.kind c ≡ sets ri oi → (y : Bool) → eqb (k.number x c) 0 ≡ y → Near b made x' w
        asked ri oi q true e = set-near ri oi q (eqb-true _ 0 e) (closes ri oi q)
        asked ri oi q false e = passed (set-refused k law x c ri oi q e) (λ rj h s. left (sets ri oi) q rj s)

        by : (t : Kind) → k.kind c ≡ t → Near b made x' w
        by (sets ri oi) q = asked ri oi q _ refl
        by (settles ri) q =
            ⊎_elim
            (λ h. passed (settle_outside k law x z.long c ri q h).1 (λ rj i s. let y = left (settles ri) q rj s in rw (ne_eqb rj ri (λ e. omega (arith, h, i, e))) at y))
            (λ h. settle_near ri q h)
            (le_or_lt k.distances ri)
        by writes q = passed (law.write_enters x c q) (λ rj h s. left writes q rj s)

  -- ---- in any order

  near_on : (b : Ledger) (made rest : List k.Calls) → Played k law b made rest → (cs : List k.Calls) → ((ri : ℕ) → settles_slice k ri made ≡ settles_slice k ri cs)
      → (x : Ledger) (w : List k.Calls) → ((c : k.Calls) → Memᴰ c w → Memᴰ c made) → closed k cs w ≡ true → Near b made x w → Near b made (onward k x w) []
  unfolding onward closed
  near_on b made rest p cs f x [] h o z = z
  near_on b made rest p cs f x (c ∷ w) h o z =
      let y = (and-eq-true_iff (closed_call k cs (k.kind c) w) (closed k cs w)).0 o in
      near_on b made rest p cs f (k.enter x c) w (λ d i. h d (Memᴰ.tail i)) y.1
      (near_step b made rest p x c w z (h c (Memᴰ.head refl)) (λ ri oi q s. let u : not (settles_slice k ri cs) || settles_slice k ri w ≡ true = ap (λ (t : Kind). closed_call k cs t w) (sym q) ∙ y.0 in
      let v : settles_slice k ri cs ≡ true = sym (f ri) ∙ s in
      rw v at u))

  or_false : (a : Bool) → a || false ≡ a
  or_false true = refl
  or_false false = refl

  made-settles : (cs : List k.Calls) (ri : ℕ) → settles_slice k ri (onto cs []) ≡ settles_slice k ri cs
  unfolding some
  made-settles cs ri = some_onto (λ c. settling ri (k.kind c)) cs [] ∙ or_false (settles_slice k ri cs)

  pub replay : Replay k
  replay cs w h m o =
      let p : Played k law (after k cs) (onto cs []) [] = played cs [] (rw (append-nil cs) h) in
      let b = after k cs in
      onward-append k k.fresh cs w
      ∙ near_end b (onward k b w) (onto cs []) p.sound
      (near_on b (onto cs []) [] p cs (made-settles cs) b w (λ c i. onto_mem c cs [] (inl (m c i))) o (near_same b b (onto cs []) w p.sound refl))

  -- ---- a walk

  -- the calls made along cs, those behind and those ahead: the walk has been as far as mid goes
  record At (made behind ahead : List k.Calls) : Type 0 where
    mid : List k.Calls
    far : List k.Calls
    split : ahead ≡ mid ++ far
    near : Near (after k (behind ++ mid)) (onto (behind ++ mid) []) (after k made) mid

  snoc : (xs : List k.Calls) (c : k.Calls) (ys : List k.Calls) → (xs ++ c ∷ []) ++ ys ≡ xs ++ c ∷ ys
  snoc xs c ys = append_assoc xs (c ∷ []) ys

  after_snoc : (xs : List k.Calls) (c : k.Calls) → after k (xs ++ c ∷ []) ≡ k.enter (after k xs) c
  unfolding onward
  after_snoc xs c = onward-append k k.fresh xs (c ∷ [])

  module _ (cs : List k.Calls) (h : clean k cs ≡ true) where
    sound_after : (bs : List k.Calls) → Sound k law (after k bs)
    sound_after bs = onward_sound k law k.fresh bs (fresh_sound k law)

    -- a set that is played again has its settle, if any, still to come
    settle_comes : (behind : List k.Calls) (c : k.Calls) (mid far : List k.Calls) → behind ++ c ∷ (mid ++ far) ≡ cs → (ri oi : ℕ) → k.kind c ≡ sets ri oi
        → settles_slice k ri (onto (behind ++ c ∷ mid) []) ≡ true → settles_slice k ri mid ≡ true
    unfolding some
    settle_comes behind c mid far e ri oi q s = by (settles_slice k ri behind) refl (sym (some-append (λ d. settling ri (k.kind d)) behind (c ∷ mid)) ∙ sym (made-settles (behind ++ c ∷ mid) ri) ∙ s)
      where
        p : Played k law (after k behind) (onto behind []) (c ∷ (mid ++ far))
        p = played behind (c ∷ (mid ++ far)) (rw e h)

        by : (x : Bool) → settles_slice k ri behind ≡ x → x || (settling ri (k.kind c) || settles_slice k ri mid) ≡ true → settles_slice k ri mid ≡ true
        by false y z = rw q at z
        by true y z =
            let u = p.no_slice ri (made-settles behind ri ∙ y) in
            let v : eqb ri ri || sets_slice k ri (mid ++ far) ≡ false = ap (λ (t : Kind). of_slice ri t || sets_slice k ri (mid ++ far)) (sym q) ∙ u in
            absurd (true≢false (sym (eq-eqb ri ri refl) ∙ (or_none (eqb ri ri) (sets_slice k ri (mid ++ far)) v).0))

    plays_on : (made behind ahead : List k.Calls) (c : k.Calls) → behind ++ c ∷ ahead ≡ cs → (mid far : List k.Calls) → c ∷ ahead ≡ mid ++ far
        → Near (after k (behind ++ mid)) (onto (behind ++ mid) []) (after k made) mid → At (made ++ c ∷ []) (behind ++ c ∷ []) ahead
    plays_on made behind ahead c e [] far s z =
        let b = after k behind in
        let z' = rw (append-nil behind) at z in
        let same : after k made ≡ b = near_end b (after k made) (onto behind []) (sound_after behind) z' in
        record {
          mid = [];
          far = ahead;
          split = refl;
          near = rw (append-nil (behind ++ c ∷ [])) (near_same (after k (behind ++ c ∷ [])) (after k (made ++ c ∷ [])) (onto (behind ++ c ∷ []) []) [] (sound_after (behind ++ c ∷ []))
              (after_snoc made c ∙ ap (λ (x : Ledger). k.enter x c) same ∙ sym (after_snoc behind c)));
        }
    plays_on made behind ahead c e (d ∷ mid) far s z =
        let i : (c ≡ d) × (ahead ≡ mid ++ far) = (head-eq_of_cons-eq s, tail-eq_of_cons-eq s) in
        let z' : Near (after k (behind ++ c ∷ mid)) (onto (behind ++ c ∷ mid) []) (after k made) (c ∷ mid) = rw (← i.0) at z in
        let whole : behind ++ c ∷ (mid ++ far) ≡ cs = rw i.1 at e in
        let p : Played k law (after k (behind ++ c ∷ mid)) (onto (behind ++ c ∷ mid) []) far = played (behind ++ c ∷ mid) far (rw (append_assoc behind (c ∷ mid) far, whole) h) in
        record {
          mid = mid;
          far = far;
          split = i.1;
          near = rw (snoc behind c mid, after_snoc made c) (near_step (after k (behind ++ c ∷ mid)) (onto (behind ++ c ∷ mid) []) far p (after k made) c mid z'
              (onto_mem c (behind ++ c ∷ mid) [] (inl (Memᴰ.append_right behind (Memᴰ.head refl)))) (settle_comes behind c mid far whole));
        }

    goes_on : (made behind again ahead : List k.Calls) → At made (behind ++ again) ahead → At made behind (again ++ ahead)
    goes_on made behind again ahead a =
        let z = rw (append_assoc behind again a.mid) at a.near in
        record {
          mid = again ++ a.mid;
          far = a.far;
          split = rw a.split (sym (append_assoc again a.mid a.far));
          near = near-more _ _ _ a.mid (again ++ a.mid) (λ ri s. some-append (λ c. settling ri (k.kind c)) again a.mid ∙ rw s (or_true (settles_slice k ri again))) z;
        }

    walk_at : {made behind ahead : List k.Calls} → Walk made behind ahead → behind ++ ahead ≡ cs → At made behind ahead
    unfolding onward onto
    walk_at (starts {cs = ahead}) e = record { mid = []; far = ahead; split = refl; near = near_same k.fresh k.fresh [] [] (fresh_sound k law) refl }
    walk_at (plays {made = made} {behind = behind} {ahead = ahead} {c = c} w) e =
        let f = sym (snoc behind c ahead) ∙ e in
        let a = walk_at w f in
        plays_on made behind ahead c f a.mid a.far a.split a.near
    walk_at (goes_back {made = made} behind again ahead w) e = goes_on made behind again ahead (walk_at w (append_assoc behind again ahead ∙ e))

  ends : (cs made : List k.Calls) → (mid far : List k.Calls) → [] ≡ mid ++ far → Near (after k (cs ++ mid)) (onto (cs ++ mid) []) (after k made) mid → after k made ≡ after k cs
  ends cs made [] far e z = let z' = rw (append-nil cs) at z in near_end (after k cs) (after k made) (onto cs []) (onward_sound k law k.fresh cs (fresh_sound k law)) z'
  ends cs made (c ∷ mid) far e z = let n = ap length e in absurd (omega (arith, n))

  pub resume : Resume k
  resume cs made h w = let a = walk_at cs h w (append-nil cs) in ends cs made a.mid a.far a.split a.near
