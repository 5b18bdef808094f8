-- A settled slice stays as it is until a slab of it is set, and a set of a level that has gone is refused. Assumes nothing.
use mathlib.Core.Path.{◌≡◌, refl, sym, ap, ◌∙◌, subst}
use mathlib.Core.Bool.{Bool, true, false}
use mathlib.Core.List.{List, [], ◌∷◌, ◌++◌}
use mathlib.Core.Logic.{◌⊎◌, inl, inr, ⊎_elim}
use Prim.Native.Nat.{ℕ, ◌*◌, ◌≤◌, ◌<◌}
use native.Mathlib.Omega.{arith}
use native.Mathlib.Nat.{eq-or-lt_of_le, mul-le-mul}
use lib.ListN.{length, take, drop_of_length-le}
use lib.Seq.{take-nil}
use lib.Dec.{eqb}
use borrow.Author.Tests.{eqb-false, ne_eqb, lt-ltb}
use Rattle.ieee.proofs.Pack.{le_or_lt}
use Rattle.lists.specs.Questions.{ask}
use Rattle.lists.specs.Lists.{every}
use Rattle.lists.proofs.Counting.{or_none}
use Rattle.settling.specs.Settling.{from_level}
use Rattle.ledger.specs.Ledger.{Ledger}
use Rattle.ledger.specs.Replay.{settles, Keeping, some, of_slice, sets_slice, onward, after, slice_of, SettledStays, Gone}
use Rattle.ledger.proofs.Lawful.{pair, Lawful, settled_slice, settled_yes, settled_no, settled_again, settled-below, changed_same, refused-below, Changed, set-refused, inside, set_changes, settle_changes, settle_outside, Sound, Move, idle, setting, settling, move, sound_step, fresh_sound, onward_sound, onward-append}

module _ (k : Keeping) (law : Lawful k) where
  -- ---- settled stays settled

  -- a settle of slice ri leaves b as it is
  abbrev pub Quiet : Ledger → ℕ → Type 0
  Quiet b ri = settled_slice k law b.level (slice_of k b ri) ≡ pair b.level (slice_of k b ri)

  -- from d to b the slice stayed and the level did not rise
  record Held (d b : Ledger) (ri : ℕ) : Type 0 where
    slice : slice_of k b ri ≡ slice_of k d ri
    low : b.level ≤ d.level

  held_quiet : (d b : Ledger) (ri : ℕ) → Sound k law d → Quiet d ri → Held d b ri → Quiet b ri
  held_quiet d b ri s q h = rw h.slice (⊎_elim (λ e. rw e q) (λ l. settled-below k law d.level b.level l (slice_of k d ri) (s.above ri)) (eq-or-lt_of_le h.low))

  -- a set of another slice, or any settle
  held_step : (d b : Ledger) (ri : ℕ) (c : k.Calls) → Sound k law d → Quiet d ri → Sound k law b → Held d b ri → of_slice ri (k.kind c) ≡ false → Move k law b c → Held d (k.enter b c) ri
  held_step d b ri c s q t h o (idle e) = rw e h
  held_step d b ri c s q t h o (setting rj oj y e) =
      let x = set_changes k law b c rj oj y e in
      record { slice = x.others ri (eqb-false ri rj (rw y at o)) ∙ h.slice; low = omega (arith, x.level, h.low) }
  held_step d b ri c s q t h o (settling rj y i) = by (native.Mathlib.Decide.ℕ_discrete ri rj)
    where
      x : Changed k law b rj (settled_slice k law b.level (slice_of k b rj)) (k.enter b c)
      x = settle_changes k law b t.long c rj y i

      low : (k.enter b c).level ≤ d.level
      low = omega (arith, (sound_step k law b c t (settling rj y i)).1, h.low)

      by : Dec (ri ≡ rj) → Held d (k.enter b c) ri
      by (yes e) =
          let z : slice_of k (k.enter b c) ri ≡ slice_of k b ri = ap (slice_of k (k.enter b c)) e ∙ x.own ∙ ap (λ (u : ℕ). (settled_slice k law b.level (slice_of k b u)).rows) (sym e) ∙ ap (λ (u : Ledger). u.rows) (held_quiet d b ri s q h) in
          record { slice = z ∙ h.slice; low = low }
      by (no e) = record { slice = x.others ri e ∙ h.slice; low = low }

  held_on : (d b : Ledger) (ri : ℕ) (cs : List k.Calls) → Sound k law d → Quiet d ri → Sound k law b → Held d b ri → sets_slice k ri cs ≡ false → Held d (onward k b cs) ri
  unfolding onward some
  held_on d b ri [] s q t h o = h
  held_on d b ri (c ∷ cs) s q t h o =
      let z = or_none (of_slice ri (k.kind c)) (sets_slice k ri cs) o in
      let m = move k law b t.long c in
      held_on d (k.enter b c) ri cs s q (sound_step k law b c t m).0 (held_step d b ri c s q t h z.0 m) z.1

  -- after a settle, and of a slice that there is not
  settle_quiet : (b : Ledger) (c : k.Calls) (ri : ℕ) → Sound k law b → k.kind c ≡ settles ri → (k.distances ≤ ri) ⊎ (ri < k.distances) → Quiet (k.enter b c) ri
  unfolding every
  settle_quiet b c ri s q (inl h) =
      let same : k.dihedrals ≤ k.dihedrals = omega arith in
      let far : length b.rows ≤ ri * k.dihedrals = omega (arith, s.long, mul-le-mul h same) in
      let none : slice_of k b ri ≡ [] = ap (take k.dihedrals) (drop_of_length-le b.rows far) ∙ take-nil k.dihedrals in
      rw ((settle_outside k law b s.long c ri q h).1, none, settled_yes k law b.level [] refl, law.next_bare b.level [] tt) refl
  settle_quiet b c ri s q (inr h) =
      let x = settle_changes k law b s.long c ri q h in
      rw (x.level, x.own) (settled_again k law b.level (slice_of k b ri) (s.above ri))

  quiet_enter : (b : Ledger) (c : k.Calls) (ri : ℕ) → Sound k law b → k.kind c ≡ settles ri → Quiet b ri → (k.distances ≤ ri) ⊎ (ri < k.distances) → k.enter b c ≡ b
  quiet_enter b c ri s q z (inl h) = (settle_outside k law b s.long c ri q h).1
  quiet_enter b c ri s q z (inr h) =
      changed_same k law b ri (k.enter b c) s.long (subst (λ (r : Ledger). Changed k law b ri r (k.enter b c)) z (settle_changes k law b s.long c ri q h))

  -- the number stays where it refuses
  module _ (b x : Ledger) (c : k.Calls) (ri : ℕ) (s : Sound k law b) (t : Sound k law x) (q : k.kind c ≡ settles ri) (h : Held (k.enter b c) x ri) where
    refused_by : ri < k.distances → (y : Bool) → every (from_level b.level) (slice_of k b ri) ≡ y → (k.number b c ≡ 0 → ⊥) → k.number x c ≡ k.number b c
    unfolding ask
    refused_by i true y ne = absurd (ne (law.settle_number b s.long c ri q ∙ rw (lt-ltb ri k.distances i, y) refl))
    refused_by i false y ne =
        let d = settle_changes k law b s.long c ri q i in
        let no = settled_no k law b.level (slice_of k b ri) y in
        let same : slice_of k x ri ≡ slice_of k b ri = h.slice ∙ d.own ∙ ap (λ (u : Ledger). u.rows) no in
        let low : x.level ≤ b.level = omega (arith, h.low, d.level ∙ ap (λ (u : Ledger). u.level) no) in
        let z : every (from_level x.level) (slice_of k x ri) ≡ false = rw same (refused-below k law b.level x.level low (slice_of k b ri) (s.above ri) y) in
        rw (law.settle_number x t.long c ri q, law.settle_number b s.long c ri q, y, z) refl

    refused-stays : (k.distances ≤ ri) ⊎ (ri < k.distances) → (k.number b c ≡ 0 → ⊥) → k.number x c ≡ k.number b c
    refused-stays (inl i) ne = (settle_outside k law x t.long c ri q i).0 ∙ sym (settle_outside k law b s.long c ri q i).0
    refused-stays (inr i) ne = refused_by i _ refl ne

  pub settled-stays : SettledStays k
  unfolding onward
  settled-stays bs c ri cs q o =
      let b = after k bs in
      let s = onward_sound k law k.fresh bs (fresh_sound k law) in
      let d = k.enter b c in
      let t = (sound_step k law b c s (move k law b s.long c)).0 in
      let x = onward k d cs in
      let u = onward_sound k law d cs t in
      let z = settle_quiet b c ri s q (le_or_lt k.distances ri) in
      let same : Held d d ri = record { slice = refl; low = omega arith } in
      let h = held_on d d ri cs t z t same o in
      let end : after k (bs ++ c ∷ cs) ≡ x = onward-append k k.fresh bs (c ∷ cs) in
      let again : after k (bs ++ c ∷ (cs ++ c ∷ [])) ≡ k.enter x c = onward-append k k.fresh bs (c ∷ (cs ++ c ∷ [])) ∙ onward-append k d cs (c ∷ []) in
      let first : after k (bs ++ c ∷ []) ≡ d = onward-append k k.fresh bs (c ∷ []) in
      record {
        nothing = again ∙ quiet_enter x c ri u q (held_quiet d x ri t z h) (le_or_lt k.distances ri) ∙ sym end;
        slice = rw (end, first) h.slice;
        refused = λ ne. ap (λ (y : Ledger). k.number y c) end ∙ refused-stays b x c ri s u q h (le_or_lt k.distances ri) ne;
      }

  -- ---- a level that has gone

  pub gone : Gone k
  unfolding ask
  gone b d c ri oi q e h =
      let i = inside k law b c ri oi q e in
      let no : eqb (length (law.energies c)) (law.each d.level) ≡ false = ne_eqb (length (law.energies c)) (law.each d.level) (λ z. omega (arith, i.size, law.rising d.level b.level h)) in
      let nine : k.number d c ≡ 9 = law.set-number d c ri oi q ∙ rw (lt-ltb ri k.distances i.distance, lt-ltb oi k.dihedrals i.dihedral, no) refl in
      (nine, set-refused k law d c ri oi q (rw nine refl))
