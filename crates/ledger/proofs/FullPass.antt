-- A set that is set over leaves no trace, and a full pass forgets all but the level. Assumes nothing.
use mathlib.Core.Path.{◌≡◌, refl, sym, ap, ◌∙◌, subst}
use mathlib.Core.Bool.{Bool, true, false, not, ◌&&◌, true≢false, and-eq-true_iff}
use mathlib.Core.List.{List, [], ◌∷◌}
use mathlib.Core.Logic.{◌⊎◌, inl, inr, ⊎_elim}
use Prim.Native.Nat.{ℕ, ◌*◌, ◌<◌}
use native.Mathlib.Omega.{arith}
use lib.ListN.{length, get_or, set}
use lib.Seq.{ext_get_or, get_or-set_same, get_or-set_other}
use lib.Dec.{eqb}
use lib.Ieee.{Float}
use borrow.Author.Tests.{eqb-true, eq-eqb, ne_eqb}
use Rattle.ieee.proofs.Pack.{le_or_lt}
use Rattle.lists.proofs.Counting.{and_no}
use Rattle.rows.specs.Rows.{Row, repulsive, mesh}
use Rattle.ledger.specs.Ledger.{Ledger}
use Rattle.ledger.specs.Replay.{Kind, sets, settles, writes, Keeping, onward, after, slice_of, set_first_by, set_first, SetOver, FullPass}
use Rattle.ledger.proofs.Slices.{slice_many, slices_ext}
use Rattle.ledger.proofs.Lawful.{not_true, pair, ledger_eq, Lawful, settled_slice, Changed, set-refused, inside, set_changes, set-number-same, settle_changes, settle_outside, Sound, fresh_sound, onward_sound, onward-append}

module _ (k : Keeping) (law : Lawful k) where
  -- the row of slab (ri, oi)
  abbrev row : Ledger → ℕ → ℕ → Row Float
  row b ri oi = get_or (slice_of k b ri) oi repulsive

  abbrev many : Ledger → Type 0
  many b = length b.rows ≡ k.distances * k.dihedrals

  -- two ledgers before the calls cs: their rows are the same but where cs sets them first
  record Like (b d : Ledger) (cs : List k.Calls) : Type 0 where
    level : b.level ≡ d.level
    long : many b
    long_too : many d
    at : (ri oi : ℕ) → ri < k.distances → oi < k.dihedrals → (row b ri oi ≡ row d ri oi) ⊎ (set_first k ri oi b cs ≡ true)

  like_end : (b d : Ledger) → Like b d [] → b ≡ d
  unfolding set_first
  like_end b d l =
      ledger_eq b d l.level (slices_ext k.dihedrals k.distances b.rows d.rows l.long l.long_too (λ ri h.
      let n = slice_many k.dihedrals b.rows k.distances ri l.long h in
      ext_get_or repulsive (slice_of k b ri) (slice_of k d ri) (n ∙ sym (slice_many k.dihedrals d.rows k.distances ri l.long_too h))
      (λ oi i. ⊎_elim (λ e. e) (λ e. absurd (true≢false (sym e))) (l.at ri oi h (omega (arith, n))))))

  module _ (b d : Ledger) (c : k.Calls) (cs : List k.Calls) (l : Like b d (c ∷ cs)) where
    -- what is left to be set first, after c
    left : (t : Kind) → k.kind c ≡ t → (ri oi : ℕ) → set_first k ri oi b (c ∷ cs) ≡ true → set_first_by k ri oi t (k.number b c) (set_first k ri oi (k.enter b c) cs) ≡ true
    unfolding set_first
    left t q ri oi h = rw q at h

    -- a call that both pass over
    passed : k.enter b c ≡ b → k.enter d c ≡ d → ((ri oi : ℕ) → ri < k.distances → set_first k ri oi b (c ∷ cs) ≡ true → set_first k ri oi (k.enter b c) cs ≡ true)
        → Like (k.enter b c) (k.enter d c) cs
    passed e f z =
        record {
          level = rw (e, f) l.level;
          long = rw e l.long;
          long_too = rw f l.long_too;
          at = λ ri oi h i. ⊎_elim (λ s. inl (rw (e, f) s)) (λ s. inr (z ri oi h s)) (l.at ri oi h i);
        }

    -- a set that both accept
    module _ (rj oj : ℕ) (q : k.kind c ≡ sets rj oj) (e : k.number b c ≡ 0) (f : k.number d c ≡ 0) where
      abbrev cb : Changed k law b rj (pair b.level (set (slice_of k b rj) oj (mesh b.level true (law.energies c)))) (k.enter b c)
      cb = set_changes k law b c rj oj q e

      abbrev cd : Changed k law d rj (pair d.level (set (slice_of k d rj) oj (mesh d.level true (law.energies c)))) (k.enter d c)
      cd = set_changes k law d c rj oj q f

      set_left_lem : (ri oi : ℕ) → eqb ri rj && eqb oi oj ≡ false → set_first k ri oi b (c ∷ cs) ≡ true → set_first k ri oi (k.enter b c) cs ≡ true
      set_left_lem ri oi ne h = let z = left (sets rj oj) q ri oi h in rw (e, ne) at z

      set_at : (ri oi : ℕ) → ri < k.distances → oi < k.dihedrals → Dec (ri ≡ rj) → Dec (oi ≡ oj)
          → (row (k.enter b c) ri oi ≡ row (k.enter d c) ri oi) ⊎ (set_first k ri oi (k.enter b c) cs ≡ true)
      set_at ri oi h i (no x) y =
          rw (cb.others ri x, cd.others ri x) (⊎_elim (λ s. inl s) (λ s. inr (set_left_lem ri oi (rw (ne_eqb ri rj x) refl) s)) (l.at ri oi h i))
      set_at ri oi h i (yes x) (no y) =
          let p : row (k.enter b c) ri oi ≡ row b ri oi = rw (x, cb.own) (get_or-set_other (slice_of k b rj) oj oi (mesh b.level true (law.energies c)) repulsive y) in
          let r : row (k.enter d c) ri oi ≡ row d ri oi = rw (x, cd.own) (get_or-set_other (slice_of k d rj) oj oi (mesh d.level true (law.energies c)) repulsive y) in
          ⊎_elim (λ s. inl (p ∙ s ∙ sym r)) (λ s. inr (set_left_lem ri oi (and_no (eqb ri rj) (eqb oi oj) (ne_eqb oi oj y)) s)) (l.at ri oi h i)
      set_at ri oi h i (yes x) (yes y) =
          let z = inside k law b c rj oj q e in
          let n = slice_many k.dihedrals b.rows k.distances rj l.long z.distance in
          let m = slice_many k.dihedrals d.rows k.distances rj l.long_too z.distance in
          inl (rw (
            x,
            y,
            cb.own,
            cd.own,
            get_or-set_same (slice_of k b rj) oj (mesh b.level true (law.energies c)) repulsive (omega (arith, n, z.dihedral)),
            get_or-set_same (slice_of k d rj) oj (mesh d.level true (law.energies c)) repulsive (omega (arith, m, z.dihedral)),
            l.level,
          ) refl)

      both_set : Like (k.enter b c) (k.enter d c) cs
      both_set =
          record {
            level = cb.level ∙ l.level ∙ sym cd.level;
            long = cb.long ∙ l.long;
            long_too = cd.long ∙ l.long_too;
            at = λ ri oi h i. set_at ri oi h i (native.Mathlib.Decide.ℕ_discrete ri rj) (native.Mathlib.Decide.ℕ_discrete oi oj);
          }

    -- a settle of a slice that there is: it was set as a whole
    module _ (rj : ℕ) (q : k.kind c ≡ settles rj) (j : rj < k.distances) where
      settle_left_lem : (ri oi : ℕ) → set_first k ri oi b (c ∷ cs) ≡ true → (eqb ri rj ≡ false) × (set_first k ri oi (k.enter b c) cs ≡ true)
      settle_left_lem ri oi h =
          let z = (and-eq-true_iff (not (eqb ri rj)) (set_first k ri oi (k.enter b c) cs)).0 (left (settles rj) q ri oi h) in
          (not_true (eqb ri rj) z.0, z.1)

      one_slice : slice_of k b rj ≡ slice_of k d rj
      one_slice =
          let n = slice_many k.dihedrals b.rows k.distances rj l.long j in
          ext_get_or repulsive (slice_of k b rj) (slice_of k d rj) (n ∙ sym (slice_many k.dihedrals d.rows k.distances rj l.long_too j))
          (λ oi i. ⊎_elim (λ e. e) (λ e. absurd (true≢false (sym (eq-eqb rj rj refl) ∙ (settle_left_lem rj oi e).0))) (l.at rj oi j (omega (arith, n))))

      both_settle : Like (k.enter b c) (k.enter d c) cs
      both_settle =
          record {
            level = cb.level ∙ same_level ∙ sym cd.level;
            long = cb.long ∙ l.long;
            long_too = cd.long ∙ l.long_too;
            at = λ ri oi h i. by ri oi h i (native.Mathlib.Decide.ℕ_discrete ri rj);
          }
        where
          cb : Changed k law b rj (settled_slice k law b.level (slice_of k b rj)) (k.enter b c)
          cb = settle_changes k law b l.long c rj q j

          cd : Changed k law d rj (settled_slice k law d.level (slice_of k d rj)) (k.enter d c)
          cd = settle_changes k law d l.long_too c rj q j

          same : settled_slice k law b.level (slice_of k b rj) ≡ settled_slice k law d.level (slice_of k d rj)
          same = rw (l.level, one_slice) refl

          same_level : (settled_slice k law b.level (slice_of k b rj)).level ≡ (settled_slice k law d.level (slice_of k d rj)).level
          same_level = ap (λ (r : Ledger). r.level) same

          by : (ri oi : ℕ) → ri < k.distances → oi < k.dihedrals → Dec (ri ≡ rj) → (row (k.enter b c) ri oi ≡ row (k.enter d c) ri oi) ⊎ (set_first k ri oi (k.enter b c) cs ≡ true)
          by ri oi h i (yes x) = inl (rw (x, cb.own, cd.own) (ap (λ (r : Ledger). get_or r.rows oi repulsive) same))
          by ri oi h i (no x) = rw (cb.others ri x, cd.others ri x) (⊎_elim (λ s. inl s) (λ s. inr (settle_left_lem ri oi s).1) (l.at ri oi h i))

    like_step : Like (k.enter b c) (k.enter d c) cs
    like_step = by (k.kind c) refl
      where
        asked : (ri oi : ℕ) → k.kind c ≡ sets ri oi → (x : Bool) → eqb (k.number b c) 0 ≡ x → Like (k.enter b c) (k.enter d c) cs
        asked ri oi q true e =
            let z = eqb-true _ 0 e in both_set ri oi q z (sym (set-number-same k law b d c ri oi q l.level) ∙ z)
        asked ri oi q false e =
            passed (set-refused k law b c ri oi q e) (set-refused k law d c ri oi q (rw (sym (set-number-same k law b d c ri oi q l.level)) e))
            (λ rj oj h s. let z = left (sets ri oi) q rj oj s in rw e at z)

        by : (t : Kind) → k.kind c ≡ t → Like (k.enter b c) (k.enter d c) cs
        by (sets ri oi) q = asked ri oi q _ refl
        by (settles ri) q =
            ⊎_elim
            (λ h. passed (settle_outside k law b l.long c ri q h).1 (settle_outside k law d l.long_too c ri q h).1
            (λ rj oj i s. ((and-eq-true_iff (not (eqb rj ri)) (set_first k rj oj (k.enter b c) cs)).0 (left (settles ri) q rj oj s)).1))
            (λ h. both_settle ri q h)
            (le_or_lt k.distances ri)
        by writes q = passed (law.write_enters b c q) (law.write_enters d c q) (λ rj oj h s. left writes q rj oj s)

  like_on : (b d : Ledger) (cs : List k.Calls) → Like b d cs → onward k b cs ≡ onward k d cs
  unfolding onward
  like_on b d [] l = like_end b d l
  like_on b d (c ∷ cs) l = like_on (k.enter b c) (k.enter d c) cs (like_step b d c cs l)

  pub full_pass : FullPass k
  full_pass b d cs e n m h = like_on b d cs (record { level = e; long = n; long_too = m; at = λ ri oi i j. inr (h ri oi i j) })

  pub set-over : SetOver k
  unfolding onward
  set-over bs c ri oi cs q h =
      onward-append k k.fresh bs (c ∷ cs) ∙ by (eqb (k.number b c) 0) refl ∙ sym (onward-append k k.fresh bs cs)
    where
      b : Ledger
      b = after k bs

      s : Sound k law b
      s = onward_sound k law k.fresh bs (fresh_sound k law)

      first : set_first k ri oi (k.enter b c) cs ≡ true
      first = subst (λ (x : Ledger). set_first k ri oi x cs ≡ true) (onward-append k k.fresh bs (c ∷ [])) h

      by : (x : Bool) → eqb (k.number b c) 0 ≡ x → onward k (k.enter b c) cs ≡ onward k b cs
      by false e = ap (λ (x : Ledger). onward k x cs) (set-refused k law b c ri oi q e)
      by true e = like_on (k.enter b c) b cs (record { level = z.level; long = z.long ∙ s.long; long_too = s.long; at = at })
        where
          z : Changed k law b ri (pair b.level (set (slice_of k b ri) oi (mesh b.level true (law.energies c)))) (k.enter b c)
          z = set_changes k law b c ri oi q (eqb-true _ 0 e)

          at_by : (rj oj : ℕ) → Dec (rj ≡ ri) → Dec (oj ≡ oi) → (row (k.enter b c) rj oj ≡ row b rj oj) ⊎ (set_first k rj oj (k.enter b c) cs ≡ true)
          at_by rj oj (no x) y = inl (ap (λ (l : List (Row Float)). get_or l oj repulsive) (z.others rj x))
          at_by rj oj (yes x) (no y) = inl (rw (x, z.own) (get_or-set_other (slice_of k b ri) oi oj (mesh b.level true (law.energies c)) repulsive y))
          at_by rj oj (yes x) (yes y) = inr (rw (x, y) first)

          at : (rj oj : ℕ) → rj < k.distances → oj < k.dihedrals → (row (k.enter b c) rj oj ≡ row b rj oj) ⊎ (set_first k rj oj (k.enter b c) cs ≡ true)
          at rj oj h i = at_by rj oj (native.Mathlib.Decide.ℕ_discrete rj ri) (native.Mathlib.Decide.ℕ_discrete oj oi)
