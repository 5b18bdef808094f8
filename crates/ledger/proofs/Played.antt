-- What holds of a ledger after clean calls: what each of them, played again, can change. Assumes nothing.
use mathlib.Core.Path.{◌≡◌, refl, sym, ap, ◌∙◌}
use mathlib.Core.Bool.{Bool, true, false, ◌&&◌, ◌||◌, true≢false}
use mathlib.Core.List.Memᴰ
use mathlib.Core.List.{List, [], ◌∷◌, map, Memᴰ}
use mathlib.Core.Logic.{◌⊎◌, inl, inr, ⊎_elim}
use Prim.Native.Nat.{ℕ, suc, ◌≤◌, ◌<◌}
use native.Mathlib.Omega.{arith}
use lib.ListN.{length, get_or, set}
use lib.Seq.{ext_get_or, get_or-set_same, get_or-set_other}
use lib.Dec.{eqb}
use lib.Ieee.{Float}
use borrow.Author.Tests.{eqb-true, eqb-false, eq-eqb, ne_eqb}
use Rattle.lists.specs.Lists.{every}
use Rattle.lists.proofs.Counting.{or_none}
use Rattle.rows.specs.Rows.{Row, repulsive, mesh}
use Rattle.settling.specs.Settling.{from_level}
use Rattle.table.proofs.Back.{All}
use Rattle.ledger.specs.Ledger.{Ledger}
use Rattle.ledger.specs.Replay.{sets, settles, Keeping, some, of_slab, of_slice, settling, sets_slab, sets_slice, settles_slice, slice_of}
use Rattle.ledger.proofs.Slices.{slice_many}
use Rattle.ledger.proofs.Lawful.{which, distance, dihedral, Above, Mixed, settled_row, pair, Lawful, settled_slice, settled_yes, settled_no, settled-mixed, settled-below, settled_is, Changed, set-number-same, inside, set_changes, settle_changes, Sound, move, sound_step}
use Rattle.ledger.proofs.SettledStays.{gone}

-- two lists of one length, by their entries
mixed_at : (h : Row Float → Row Float) (rs qs : List (Row Float)) → length rs ≡ length qs
    → ((i : ℕ) → i < length rs → (get_or qs i repulsive ≡ get_or rs i repulsive) ⊎ (get_or qs i repulsive ≡ get_or (map h rs) i repulsive)) → Mixed h rs qs
mixed_at h [] [] e z = tt
mixed_at h [] (q ∷ qs) e z = absurd (omega arith)
mixed_at h (r ∷ rs) [] e z = absurd (omega arith)
mixed_at h (r ∷ rs) (q ∷ qs) e z = (z 0 (omega arith), mixed_at h rs qs (omega arith) (λ i l. z (suc i) (omega arith)))

module _ (k : Keeping) (law : Lawful k) where
  -- the row of slab (ri, oi)
  abbrev pub row : Ledger → ℕ → ℕ → Row Float
  row b ri oi = get_or (slice_of k b ri) oi repulsive

  -- the row that a set among the calls made leaves at the level of b, which takes it
  pub record Raw (b : Ledger) (made : List k.Calls) (ri oi : ℕ) (r : Row Float) : Type 0 where
    pub call : k.Calls
    pub one_of : Memᴰ call made
    pub kind : k.kind call ≡ sets ri oi
    pub taken : k.number b call ≡ 0
    pub same : r ≡ mesh b.level true (law.energies call)

  -- rows of slice ri: each as it stands in b, or as one of these sets leaves it
  pub record Dirty (b : Ledger) (made : List k.Calls) (ri : ℕ) (rs : List (Row Float)) : Type 0 where
    pub many : length rs ≡ k.dihedrals
    pub at : (oi : ℕ) → oi < k.dihedrals → (get_or rs oi repulsive ≡ row b ri oi) ⊎ Raw b made ri oi (get_or rs oi repulsive)

  -- b is the ledger after the calls made, and rest are those to come
  pub record Played (b : Ledger) (made rest : List k.Calls) : Type 0 where
    pub sound : Sound k law b
    -- no set among them is taken at a lower level
    pub high : (c : k.Calls) (ri oi : ℕ) → Memᴰ c made → k.kind c ≡ sets ri oi → (d : Ledger) → d.level < b.level → k.number d c ≡ 0 → ⊥
    pub no_slice : (ri : ℕ) → settles_slice k ri made ≡ true → sets_slice k ri rest ≡ false
    pub no_slab : (c : k.Calls) (ri oi : ℕ) → Memᴰ c made → k.kind c ≡ sets ri oi → k.number b c ≡ 0 → sets_slab k ri oi rest ≡ false
    -- the row of a set whose slice was not settled stands
    pub stands : (c : k.Calls) (ri oi : ℕ) → Memᴰ c made → k.kind c ≡ sets ri oi → k.number b c ≡ 0 → settles_slice k ri made ≡ false
        → row b ri oi ≡ mesh b.level true (law.energies c)
    -- a slice that was settled comes back by a settle, whichever of its slabs are set again
    pub back : (ri : ℕ) → settles_slice k ri made ≡ true → ri < k.distances → (rs : List (Row Float)) → Dirty b made ri rs
        → settled_slice k law b.level rs ≡ pair b.level (slice_of k b ri)

  -- every row as it stands
  pub clear : (b : Ledger) (made : List k.Calls) (ri : ℕ) → Sound k law b → ri < k.distances → Dirty b made ri (slice_of k b ri)
  clear b made ri s h = record { many = slice_many k.dihedrals b.rows k.distances ri s.long h; at = λ oi i. inl refl }

  -- rows that are all as they stand
  pub as_stands : (b : Ledger) (made : List k.Calls) (ri : ℕ) (rs : List (Row Float)) → Sound k law b → ri < k.distances → Dirty b made ri rs
      → ((oi : ℕ) → oi < k.dihedrals → Raw b made ri oi (get_or rs oi repulsive) → get_or rs oi repulsive ≡ row b ri oi) → rs ≡ slice_of k b ri
  as_stands b made ri rs s h d z =
      ext_get_or repulsive rs (slice_of k b ri) (d.many ∙ sym (slice_many k.dihedrals b.rows k.distances ri s.long h))
      (λ oi i. let j : oi < k.dihedrals = omega (arith, d.many) in ⊎_elim (λ e. e) (z oi j) (d.at oi j))

  module _ (b : Ledger) (made : List k.Calls) (c : k.Calls) (rest : List k.Calls) (p : Played b made (c ∷ rest)) where
    abbrev b' : Ledger
    b' = k.enter b c

    -- of a call that no ledger takes as a set
    abbrev NoSet : Type 0
    NoSet = (d : Ledger) (ri oi : ℕ) → k.kind c ≡ sets ri oi → k.number d c ≡ 0 → ⊥

    earlier : NoSet → (d : Ledger) (x : k.Calls) (ri oi : ℕ) → Memᴰ x (c ∷ made) → k.kind x ≡ sets ri oi → k.number d x ≡ 0 → Memᴰ x made
    earlier never d x ri oi m q t = by (Memᴰ.cases_cons m)
      where
        by : (x ≡ c) ⊎ Memᴰ x made → Memᴰ x made
        by (inl e) = absurd (never d ri oi (ap k.kind (sym e) ∙ q) (ap (k.number d) (sym e) ∙ t))
        by (inr h) = h

    rest_slice : (ri : ℕ) → settles_slice k ri made ≡ true → sets_slice k ri rest ≡ false
    unfolding some
    rest_slice ri h = (or_none (of_slice ri (k.kind c)) (sets_slice k ri rest) (p.no_slice ri h)).1

    rest-slab : (x : k.Calls) (ri oi : ℕ) → Memᴰ x made → k.kind x ≡ sets ri oi → k.number b x ≡ 0 → sets_slab k ri oi rest ≡ false
    unfolding some
    rest-slab x ri oi m q t = (or_none (of_slab ri oi (k.kind c)) (sets_slab k ri oi rest) (p.no_slab x ri oi m q t)).1

    -- ---- a call that changes nothing

    dirty_idle : NoSet → (ri : ℕ) (rs : List (Row Float)) → Dirty b (c ∷ made) ri rs → Dirty b made ri rs
    dirty_idle never ri rs d =
        record {
          many = d.many;
          at = λ oi i. ⊎_elim (λ e. inl e) (λ r. inr (record { call = r.call; one_of = earlier never b r.call ri oi r.one_of r.kind r.taken; kind = r.kind; taken = r.taken; same = r.same })) (d.at oi i);
        }

    pub idle_played : k.enter b c ≡ b → NoSet → ((ri : ℕ) → settling ri (k.kind c) ≡ true → (k.distances ≤ ri) × (sets_slice k ri rest ≡ false)) → Played b (c ∷ made) rest
    unfolding some
    idle_played e never far =
        record {
          sound = p.sound;
          high = λ x ri oi m q d l t. p.high x ri oi (earlier never d x ri oi m q t) q d l t;
          no_slice = λ ri h. slice_by ri (settling ri (k.kind c)) refl h;
          no_slab = λ x ri oi m q t. rest-slab x ri oi (earlier never b x ri oi m q t) q t;
          stands = λ x ri oi m q t h. p.stands x ri oi (earlier never b x ri oi m q t) q t (or_none (settling ri (k.kind c)) (settles_slice k ri made) h).1;
          back = λ ri h i rs d. back_by ri (settling ri (k.kind c)) refl h i rs d;
        }
      where
        slice_by : (ri : ℕ) (x : Bool) → settling ri (k.kind c) ≡ x → x || settles_slice k ri made ≡ true → sets_slice k ri rest ≡ false
        slice_by ri true y h = (far ri y).1
        slice_by ri false y h = rest_slice ri h

        back_by : (ri : ℕ) (x : Bool) → settling ri (k.kind c) ≡ x → x || settles_slice k ri made ≡ true → ri < k.distances → (rs : List (Row Float)) → Dirty b (c ∷ made) ri rs
            → settled_slice k law b.level rs ≡ pair b.level (slice_of k b ri)
        back_by ri true y h i rs d = absurd (let z = (far ri y).0 in omega (arith, i, z))
        back_by ri false y h i rs d = p.back ri h i rs (dirty_idle never ri rs d)

    -- ---- a set that is accepted

    module _ (rj oj : ℕ) (q : k.kind c ≡ sets rj oj) (t : k.number b c ≡ 0) (once : sets_slab k rj oj rest ≡ false) where
      abbrev cb : Changed k law b rj (pair b.level (set (slice_of k b rj) oj (mesh b.level true (law.energies c)))) b'
      cb = set_changes k law b c rj oj q t

      same_number : (x : k.Calls) (ri oi : ℕ) → k.kind x ≡ sets ri oi → k.number b' x ≡ 0 → k.number b x ≡ 0
      same_number x ri oi y z = set-number-same k law b b' x ri oi y (sym cb.level) ∙ z

      other_row : (ri oi : ℕ) → eqb ri rj && eqb oi oj ≡ false → row b' ri oi ≡ row b ri oi
      other_row ri oi h = by (native.Mathlib.Decide.ℕ_discrete ri rj)
        where
          by : Dec (ri ≡ rj) → row b' ri oi ≡ row b ri oi
          by (no x) = ap (λ (l : List (Row Float)). get_or l oi repulsive) (cb.others ri x)
          by (yes x) =
              let z : eqb oi oj ≡ false = rw (eq-eqb ri rj x) at h in
              rw (x, cb.own) (get_or-set_other (slice_of k b rj) oj oi (mesh b.level true (law.energies c)) repulsive (eqb-false oi oj z))

      own_row : row b' rj oj ≡ mesh b.level true (law.energies c)
      own_row =
          let i = inside k law b c rj oj q t in
          let n = slice_many k.dihedrals b.rows k.distances rj p.sound.long i.distance in
          ap (λ (l : List (Row Float)). get_or l oj repulsive) cb.own ∙ get_or-set_same (slice_of k b rj) oj (mesh b.level true (law.energies c)) repulsive (omega (arith, n, i.dihedral))

      -- a slice that was settled is another one
      not_settled : (ri : ℕ) → settles_slice k ri made ≡ true → ri ≡ rj → ⊥
      unfolding some
      not_settled ri h e =
          let z : eqb ri rj ≡ false = ap (of_slice ri) (sym q) ∙ (or_none (of_slice ri (k.kind c)) (sets_slice k ri rest) (p.no_slice ri h)).0 in
          eqb-false ri rj z e

      settled_before : (ri : ℕ) (x : Bool) → settles_slice k ri (c ∷ made) ≡ x → settles_slice k ri made ≡ x
      unfolding some
      settled_before ri x h = rw q at h

      bins_same : (x : k.Calls) (ri oi : ℕ) → k.kind x ≡ sets ri oi → x ≡ c → (ri ≡ rj) × (oi ≡ oj)
      bins_same x ri oi y e = let z : sets ri oi ≡ sets rj oj = sym y ∙ ap k.kind e ∙ q in (ap distance z, ap dihedral z)

      set_high : (x : k.Calls) (ri oi : ℕ) → (x ≡ c) ⊎ Memᴰ x made → k.kind x ≡ sets ri oi → (d : Ledger) → d.level < b'.level → k.number d x ≡ 0 → ⊥
      set_high x ri oi (inl e) y d l z =
          let l' : d.level < b.level = omega (arith, cb.level) in
          let nine = (gone k law b d x ri oi y (ap (k.number b) e ∙ t) l').0 in
          omega (arith, nine, z)
      set_high x ri oi (inr m) y d l z = let l' : d.level < b.level = omega (arith, cb.level) in p.high x ri oi m y d l' z

      set_no_slab : (x : k.Calls) (ri oi : ℕ) → (x ≡ c) ⊎ Memᴰ x made → k.kind x ≡ sets ri oi → k.number b' x ≡ 0 → sets_slab k ri oi rest ≡ false
      set_no_slab x ri oi (inl e) y z = let i = bins_same x ri oi y e in rw (i.0, i.1) once
      set_no_slab x ri oi (inr m) y z = rest-slab x ri oi m y (same_number x ri oi y z)

      set_stands : (x : k.Calls) (ri oi : ℕ) → (x ≡ c) ⊎ Memᴰ x made → k.kind x ≡ sets ri oi → k.number b' x ≡ 0 → settles_slice k ri made ≡ false
          → row b' ri oi ≡ mesh b'.level true (law.energies x)
      unfolding some
      set_stands x ri oi (inl e) y z h = let i = bins_same x ri oi y e in rw (i.0, i.1, e, cb.level) own_row
      set_stands x ri oi (inr m) y z h =
          let s = same_number x ri oi y z in
          let ne : eqb ri rj && eqb oi oj ≡ false = ap (of_slab ri oi) (sym q) ∙ (or_none (of_slab ri oi (k.kind c)) (sets_slab k ri oi rest) (p.no_slab x ri oi m y s)).0 in
          other_row ri oi ne ∙ p.stands x ri oi m y s h ∙ rw cb.level refl

      set_dirty : (ri : ℕ) → (ri ≡ rj → ⊥) → (rs : List (Row Float)) → Dirty b' (c ∷ made) ri rs → Dirty b made ri rs
      set_dirty ri ne rs d = record { many = d.many; at = λ oi i. by oi (d.at oi i) }
        where
          by : (oi : ℕ) → (get_or rs oi repulsive ≡ row b' ri oi) ⊎ Raw b' (c ∷ made) ri oi (get_or rs oi repulsive) → (get_or rs oi repulsive ≡ row b ri oi) ⊎ Raw b made ri oi (get_or rs oi repulsive)
          by oi (inl e) = inl (e ∙ ap (λ (l : List (Row Float)). get_or l oi repulsive) (cb.others ri ne))
          by oi (inr r) =
              ⊎_elim (λ e. absurd (ne (bins_same r.call ri oi r.kind e).0))
              (λ m. inr (record { call = r.call; one_of = m; kind = r.kind; taken = same_number r.call ri oi r.kind r.taken; same = r.same ∙ rw cb.level refl }))
              (Memᴰ.cases_cons r.one_of)

      pub set-played : Played b' (c ∷ made) rest
      set-played =
          record {
            sound = (sound_step k law b c p.sound (move k law b p.sound.long c)).0;
            high = λ x ri oi m. set_high x ri oi (Memᴰ.cases_cons m);
            no_slice = λ ri h. rest_slice ri (settled_before ri true h);
            no_slab = λ x ri oi m. set_no_slab x ri oi (Memᴰ.cases_cons m);
            stands = λ x ri oi m y z h. set_stands x ri oi (Memᴰ.cases_cons m) y z (settled_before ri false h);
            back = λ ri h i rs d.
                let ne = not_settled ri (settled_before ri true h) in
                rw (cb.level, cb.others ri ne) (p.back ri (settled_before ri true h) i rs (set_dirty ri ne rs d));
          }

    -- ---- a settle

    module _ (rj : ℕ) (q : k.kind c ≡ settles rj) (j : rj < k.distances) (last : sets_slice k rj rest ≡ false) where
      abbrev old : List (Row Float)
      old = slice_of k b rj

      abbrev cs : Changed k law b rj (settled_slice k law b.level old) b'
      cs = settle_changes k law b p.sound.long c rj q j

      abbrev after_sound : Sound k law b'
      after_sound = (sound_step k law b c p.sound (move k law b p.sound.long c)).0

      never : NoSet
      never d ri oi y t = let z = ap which (sym y ∙ q) in omega (arith, z)

      settle_no_slice : (ri : ℕ) (x : Bool) → eqb ri rj ≡ x → x || settles_slice k ri made ≡ true → sets_slice k ri rest ≡ false
      settle_no_slice ri true y h = rw (eqb-true ri rj y) last
      settle_no_slice ri false y h = rest_slice ri h

      settled_by : (ri : ℕ) (x : Bool) → settles_slice k ri (c ∷ made) ≡ x → eqb ri rj || settles_slice k ri made ≡ x
      unfolding some
      settled_by ri x h = rw q at h

      other_before : (ri : ℕ) (x : Bool) → (ri ≡ rj → ⊥) → settles_slice k ri (c ∷ made) ≡ x → settles_slice k ri made ≡ x
      other_before ri x ne h = let z = settled_by ri x h in rw (ne_eqb ri rj ne) at z

      -- the level stays
      module _ (stays : b'.level ≡ b.level) where
        number-stays : (x : k.Calls) (ri oi : ℕ) → k.kind x ≡ sets ri oi → k.number b' x ≡ 0 → k.number b x ≡ 0
        number-stays x ri oi y z = set-number-same k law b b' x ri oi y (sym stays) ∙ z

        raw_before : (ri oi : ℕ) (r : Row Float) → Raw b' (c ∷ made) ri oi r → Raw b made ri oi r
        raw_before ri oi r x =
            record {
              call = x.call;
              one_of = earlier never b' x.call ri oi x.one_of x.kind x.taken;
              kind = x.kind;
              taken = number-stays x.call ri oi x.kind x.taken;
              same = x.same ∙ rw stays refl;
            }

        dirty_before : (ri : ℕ) (rs : List (Row Float)) → slice_of k b' ri ≡ slice_of k b ri → Dirty b' (c ∷ made) ri rs → Dirty b made ri rs
        dirty_before ri rs e d =
            record { many = d.many; at = λ oi i. ⊎_elim (λ x. inl (x ∙ ap (λ (l : List (Row Float)). get_or l oi repulsive) e)) (λ x. inr (raw_before ri oi (get_or rs oi repulsive) x)) (d.at oi i) }

        -- the slice was settled before: this settle changes nothing
        again_same : settles_slice k rj made ≡ true → slice_of k b' rj ≡ slice_of k b rj
        again_same h = cs.own ∙ ap (λ (l : Ledger). l.rows) (p.back rj h j old (clear b made rj p.sound j))

        -- it is settled for the first time: each row is the one before the settle, or the one after it
        first_at : settles_slice k rj made ≡ false → (rs : List (Row Float)) → Dirty b' (c ∷ made) rj rs → (oi : ℕ) → oi < k.dihedrals
            → (get_or rs oi repulsive ≡ get_or old oi repulsive) ⊎ (get_or rs oi repulsive ≡ get_or (slice_of k b' rj) oi repulsive)
        first_at h rs d oi i =
            ⊎_elim (λ e. inr e) (λ x. let y = raw_before rj oi (get_or rs oi repulsive) x in inl (y.same ∙ sym (p.stands y.call rj oi y.one_of y.kind y.taken h))) (d.at oi i)

        first_back : settles_slice k rj made ≡ false → (rs : List (Row Float)) → Dirty b' (c ∷ made) rj rs → (x : Bool) → every (from_level b.level) old ≡ x
            → settled_slice k law b.level rs ≡ pair b.level (slice_of k b' rj)
        first_back h rs d true y =
            let e = settled_yes k law b.level old y in
            let own : slice_of k b' rj ≡ map (settled_row law.seen b.level) old = cs.own ∙ ap (λ (l : Ledger). l.rows) e in
            let level : law.next b.level old ≡ b.level = sym (ap (λ (l : Ledger). l.level) e) ∙ sym cs.level ∙ stays in
            let n = slice_many k.dihedrals b.rows k.distances rj p.sound.long j in
            rw own (settled-mixed k law b.level old rs y
            (mixed_at (settled_row law.seen b.level) old rs (n ∙ sym d.many) (λ oi i. let z = first_at h rs d oi (omega (arith, n)) in rw own at z)) level)
        first_back h rs d false y =
            let e = settled_no k law b.level old y in
            let own : slice_of k b' rj ≡ old = cs.own ∙ ap (λ (l : Ledger). l.rows) e in
            let same : rs ≡ old =
            as_stands b' (c ∷ made) rj rs after_sound j d (λ oi i x. ⊎_elim (λ z. z ∙ ap (λ (l : List (Row Float)). get_or l oi repulsive) (sym own)) (λ z. z) (first_at h rs d oi i)) ∙ own in
            rw (same, own) e

        stays_back : (ri : ℕ) → settles_slice k ri (c ∷ made) ≡ true → ri < k.distances → (rs : List (Row Float)) → Dirty b' (c ∷ made) ri rs → Dec (ri ≡ rj)
            → (x : Bool) → settles_slice k rj made ≡ x → settled_slice k law b.level rs ≡ pair b.level (slice_of k b' ri)
        stays_back ri h i rs d (no ne) x y = rw (cs.others ri ne) (p.back ri (other_before ri true ne h) i rs (dirty_before ri rs (cs.others ri ne) d))
        stays_back ri h i rs d (yes e) true y =
            let z = again_same y in
            let d' = rw e at d in
            rw (e, z) (p.back rj y j rs (dirty_before rj rs z d'))
        stays_back ri h i rs d (yes e) false y = let d' = rw e at d in rw e (first_back y rs d' _ refl)

        settle_stays : Played b' (c ∷ made) rest
        settle_stays =
            record {
              sound = after_sound;
              high = λ x ri oi m y d l t. p.high x ri oi (earlier never d x ri oi m y t) y d (omega (arith, stays)) t;
              no_slice = λ ri h. settle_no_slice ri _ refl (settled_by ri true h);
              no_slab = λ x ri oi m y t. rest-slab x ri oi (earlier never b' x ri oi m y t) y (number-stays x ri oi y t);
              stands = λ x ri oi m y t h.
                  let ne : (ri ≡ rj → ⊥) = λ e. true≢false (sym (eq-eqb ri rj e) ∙ (or_none (eqb ri rj) (settles_slice k ri made) (settled_by ri false h)).0) in
                  ap (λ (l : List (Row Float)). get_or l oi repulsive) (cs.others ri ne)
                  ∙ p.stands x ri oi (earlier never b' x ri oi m y t) y (number-stays x ri oi y t) (other_before ri false ne h) ∙ rw stays refl;
              back = λ ri h i rs d. rw stays (stays_back ri h i rs d (native.Mathlib.Decide.ℕ_discrete ri rj) _ refl);
            }

      -- the level drops: no set that was made is taken any more, and every row is of a higher level
      module _ (falls : suc b'.level ≡ b.level) where
        none-taken : (x : k.Calls) (ri oi : ℕ) → Memᴰ x (c ∷ made) → k.kind x ≡ sets ri oi → k.number b' x ≡ 0 → ⊥
        none-taken x ri oi m y t = p.high x ri oi (earlier never b' x ri oi m y t) y b' (omega (arith, falls)) t

        higher : (ri : ℕ) → Dec (ri ≡ rj) → All (Above b.level) (slice_of k b' ri)
        higher ri (yes e) = rw (e, cs.own) (settled_is k law b.level old (p.sound.above rj)).2
        higher ri (no e) = rw (cs.others ri e) (p.sound.above ri)

        settle_falls : Played b' (c ∷ made) rest
        settle_falls =
            record {
              sound = after_sound;
              high = λ x ri oi m y d l t. p.high x ri oi (earlier never d x ri oi m y t) y d (omega (arith, falls)) t;
              no_slice = λ ri h. settle_no_slice ri _ refl (settled_by ri true h);
              no_slab = λ x ri oi m y t. absurd (none-taken x ri oi m y t);
              stands = λ x ri oi m y t h. absurd (none-taken x ri oi m y t);
              back = λ ri h i rs d.
                  let same = as_stands b' (c ∷ made) ri rs after_sound i d (λ oi z x. absurd (none-taken x.call ri oi x.one_of x.kind x.taken)) in
                  rw same (settled-below k law b.level b'.level (omega (arith, falls)) (slice_of k b' ri) (higher ri (native.Mathlib.Decide.ℕ_discrete ri rj)));
            }

      pub settle_played : Played b' (c ∷ made) rest
      settle_played =
          ⊎_elim (λ e. settle_stays (cs.level ∙ e)) (λ e. settle_falls (ap suc cs.level ∙ e)) (settled_is k law b.level old (p.sound.above rj)).1
