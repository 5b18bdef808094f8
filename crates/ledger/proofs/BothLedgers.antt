-- The two ledgers obey the laws of calls played again: what is particular to each. Assumes nothing.
use mathlib.Core.Path.{◌≡◌, refl, sym, ap, ◌∙◌}
use mathlib.Core.Bool.{Bool, true, false, cond, ◌&&◌, ◌||◌, true≢false, and-eq-true_iff}
use mathlib.Core.List.{List, [], ◌∷◌, map}
use mathlib.Core.Logic.{◌⊎◌, inl, inr, ⊎_elim}
use Prim.Native.Nat.{ℕ, zero, suc, ◌+◌, ◌*◌, ◌-◌, ◌≤◌, ◌<◌}
use native.Mathlib.Omega.{arith}
use native.Mathlib.Nat.{mul-le-mul}
use lib.ListN.{length, get_or, set, take, drop, replicate, length-replicate}
use lib.Seq.{drop-cons}
use lib.Dec.{eqb, ltb, lit<}
use lib.Ieee.{Float, lt}
use borrow.Author.Tests.{eqb-true, ltb-true}
use Rattle.lists.specs.Questions.{ask}
use Rattle.lists.specs.Lists.{every, put}
use Rattle.lists.proofs.Asking.{ask_yes}
use Rattle.mesh.specs.Levels.{vertex_count, per}
use Rattle.mesh.specs.Mesh.{Mesh, level_part}
use Rattle.grid.specs.declared.Grid.{Grid}
use Rattle.grid.specs.declared.AtomGrid.{AtomGrid}
use Rattle.rows.specs.Rows.{Row, scalar, repulsive, mesh}
use Rattle.settling.specs.Gradient.{zero as nought}
use Rattle.settling.specs.Settling.{new_row, in_place_of, from_level, verdict_of, verdicts, settled_rows, settles as settlesBy, some_settle, not_repulsive, steeper_of, largest_from, drops, settled_slice, atom_verdict_of, atom_level}
use Rattle.settling.specs.declared.AtomVerdict.{AtomVerdict}
use Rattle.settling.specs.declared.Verdict.{Verdict}
use Rattle.settling.specs.declared.Verdict.TheVariants.{Empty as empty, Blocked as blocked, Isotropic as isotropic, Smooth as smooth, Rough as rough}
use Rattle.builder.specs.Refusals.{set_question}
use Rattle.builder.specs.Atom.{atom_set_question}
use Rattle.table.proofs.Back.{All}
use Rattle.ledger.specs.Ledger.{Call, set_call, settle_call, write_call, Ledger, opened, ledger_question, set_entered, settle_entered, entered, ledger}
use Rattle.ledger.specs.AtomLedger.{AtomCall, set_call as atom-set, settle_call as atom-settle, write_call as atom-write, atom_opened, atom_ledger_question, atom_settle_entered, atom_entered, atom_ledger}
use Rattle.ledger.specs.Replay.{sets, settles, writes, Keeping, kind_of, number_of, keeping, atom_kind_of, atom_number_of, atom_keeping, onward, slice_of}
use Rattle.ledger.proofs.Store.{all_replicate, put-sets}
use Rattle.ledger.proofs.Lawful.{Bare, Mixed, settled_row, pair, set_number, Lawful, which, distance, dihedral}

-- ---- a higher level has more energies

squares_rise : (a b : ℕ) → a < b → a * a < b * b
squares_rise a b h =
    let p : a ≤ a = omega arith in
    let q : a ≤ b = omega arith in
    let r : suc a ≤ b = omega arith in
    let s : b ≤ b = omega arith in
    let x : suc a * b ≡ a * b + b = omega arith in
    omega (arith, mul-le-mul p q, mul-le-mul r s, x)

count_rises : (v w : ℕ) → v < w → vertex_count v < vertex_count w
unfolding vertex_count
count_rises v w h = omega (arith, squares_rise (v + 1) (w + 1) (omega arith))

per_rises : (v w : ℕ) → v < w → per v < per w
unfolding per
per_rises v w h = squares_rise (vertex_count v) (vertex_count w) (count_rises v w h)

-- ---- the energies of a set

abbrev energies : Call → List Float
energies (set_call ri oi e) = e
energies (settle_call ri) = []
energies (write_call t out) = []

abbrev energies_by : AtomCall → List Float
energies_by (atom-set ri e) = e
energies_by (atom-settle ri) = []
energies_by (atom-write out) = []

-- ---- lists

module _ {A : Type 0} (P : A → Type 0) where
  all_take : (n : ℕ) (l : List A) → All P l → All P (take n l)
  all_take zero l a = tt
  all_take (suc n) [] a = tt
  all_take (suc n) (x ∷ l) a = (a.0, all_take n l a.1)

  all_drop : (n : ℕ) (l : List A) → All P l → All P (drop n l)
  all_drop zero l a = a
  all_drop (suc n) [] a = tt
  all_drop (suc n) (x ∷ l) a = all_drop n l a.1

and_true : (x : Bool) → x && true ≡ x
and_true true = refl
and_true false = refl

-- a level that falls where x holds, which needs a level above 0
falls : (c : ℕ) (x : Bool) → (x ≡ true → 0 < c) → (cond x (c - 1) c ≡ c) ⊎ (suc (cond x (c - 1) c) ≡ c)
falls c true h = inr (omega (arith, h refl))
falls c false h = inl refl

not_fallen : (c : ℕ) (x : Bool) → (x ≡ true → 0 < c) → cond x (c - 1) c ≡ c → x ≡ false
not_fallen c true h e = absurd (omega (arith, h refl))
not_fallen c false h e = refl

-- x where a and b hold, without a where it does not hold any more
weaker : (a b y z : Bool) → (b ≡ true → a ≡ true) → z ≡ y → a && y ≡ false → b && z ≡ false
weaker a false y z h e f = refl
weaker a true y z h e f = let i = h refl in e ∙ rw i at f

-- ---- between molecules

module _ (g : Grid) (m : Mesh) (top : ℕ) where
  abbrev k : Keeping
  k = keeping g m top

  abbrev seen : ℕ → Row Float → Verdict
  seen c r = verdict_of g.threshold g.beta (level_part c m) (vertex_count c) r

  -- the rows and the level of a settled slice
  rows_are : (c : ℕ) (rs : List (Row Float)) → settled_rows c rs (map (seen c) rs) ≡ map (settled_row seen c) rs
  unfolding settled_rows
  rows_are c [] = refl
  rows_are c (r ∷ rs) = ap (λ (l : List (Row Float)). settled_row seen c r ∷ l) (rows_are c rs)

  abbrev falling : ℕ → List (Row Float) → Bool
  falling c rs = drops g.threshold c (map (seen c) rs) (settled_rows c rs (map (seen c) rs))

  abbrev next : ℕ → List (Row Float) → ℕ
  next c rs = cond (falling c rs) (c - 1) c

  above_zero : (c : ℕ) (rs : List (Row Float)) → falling c rs ≡ true → 0 < c
  unfolding drops
  above_zero c rs h =
      let vs = map (seen c) rs in
      let a = (and-eq-true_iff (some_settle vs) (every not_repulsive (settled_rows c rs vs) && (lt (largest_from nought vs) g.threshold && ltb 0 c))).0 h in
      let b = (and-eq-true_iff (every not_repulsive (settled_rows c rs vs)) (lt (largest_from nought vs) g.threshold && ltb 0 c)).0 a.1 in
      ltb-true 0 c ((and-eq-true_iff (lt (largest_from nought vs) g.threshold) (ltb 0 c)).0 b.1).1

  -- what the verdict on a settled row adds to the largest gradient, and to the settled slabs
  abbrev Again : Verdict → Verdict → Type 0
  Again x y = ((z : Float) → steeper_of z y ≡ steeper_of z x) × (settlesBy y ≡ true → settlesBy x ≡ true)

  again_mesh : (c v : ℕ) (b : Bool) (e : List Float) (x : Verdict) → seen c (mesh v b e) ≡ x → Again x (seen c (in_place_of (mesh v b e) (new_row c x)))
  again_mesh c v b e empty h = rw h ((λ z. refl), λ i. i)
  again_mesh c v b e blocked h = ((λ z. refl), λ i. i)
  again_mesh c v b e (isotropic x) h = ((λ z. refl), λ i. refl)
  again_mesh c v b e (smooth x) h = rw h ((λ z. refl), λ i. i)
  again_mesh c v b e (rough x) h = rw h ((λ z. refl), λ i. i)

  again : (c : ℕ) (r : Row Float) → Again (seen c r) (seen c (settled_row seen c r))
  again c (scalar x) = ((λ z. refl), λ i. i)
  again c repulsive = ((λ z. refl), λ i. i)
  again c (mesh v b e) = again_mesh c v b e (seen c (mesh v b e)) refl

  again_by : (c : ℕ) (r q : Row Float) → (q ≡ r) ⊎ (q ≡ settled_row seen c r) → Again (seen c r) (seen c q)
  again_by c r q (inl e) = rw e ((λ z. refl), λ i. i)
  again_by c r q (inr e) = rw e (again c r)

  or_weaker : (a b s t : Bool) → (b ≡ true → a ≡ true) → (t ≡ true → s ≡ true) → b || t ≡ true → a || s ≡ true
  or_weaker true b s t x y h = refl
  or_weaker false true s t x y h = absurd (true≢false (sym (x refl)))
  or_weaker false false s t x y h = y h

  mixed_settle : (c : ℕ) (rs qs : List (Row Float)) → Mixed (settled_row seen c) rs qs → some_settle (map (seen c) qs) ≡ true → some_settle (map (seen c) rs) ≡ true
  unfolding some_settle
  mixed_settle c [] [] x h = h
  mixed_settle c [] (q ∷ qs) x h = absurd x
  mixed_settle c (r ∷ rs) [] x h = absurd x
  mixed_settle c (r ∷ rs) (q ∷ qs) x h =
      or_weaker (settlesBy (seen c r)) (settlesBy (seen c q)) (some_settle (map (seen c) rs)) (some_settle (map (seen c) qs)) (again_by c r q x.0).1 (mixed_settle c rs qs x.1) h

  mixed-largest : (c : ℕ) (z : Float) (rs qs : List (Row Float)) → Mixed (settled_row seen c) rs qs → largest_from z (map (seen c) qs) ≡ largest_from z (map (seen c) rs)
  unfolding largest_from
  mixed-largest c z [] [] x = refl
  mixed-largest c z [] (q ∷ qs) x = absurd x
  mixed-largest c z (r ∷ rs) [] x = absurd x
  mixed-largest c z (r ∷ rs) (q ∷ qs) x = ap (λ (y : Float). largest_from y (map (seen c) qs)) ((again_by c r q x.0).0 z) ∙ mixed-largest c (steeper_of z (seen c r)) rs qs x.1

  falls_less : (c : ℕ) (rs qs : List (Row Float)) → (some_settle (map (seen c) qs) ≡ true → some_settle (map (seen c) rs) ≡ true)
      → settled_rows c qs (map (seen c) qs) ≡ settled_rows c rs (map (seen c) rs) → largest_from nought (map (seen c) qs) ≡ largest_from nought (map (seen c) rs)
      → falling c rs ≡ false → falling c qs ≡ false
  unfolding drops
  falls_less c rs qs h e l f =
      weaker (some_settle (map (seen c) rs)) (some_settle (map (seen c) qs))
      (every not_repulsive (settled_rows c rs (map (seen c) rs)) && (lt (largest_from nought (map (seen c) rs)) g.threshold && ltb 0 c))
      (every not_repulsive (settled_rows c qs (map (seen c) qs)) && (lt (largest_from nought (map (seen c) qs)) g.threshold && ltb 0 c))
      h (rw (e, l) refl) f

  next_mixed : (c : ℕ) (rs qs : List (Row Float)) → Mixed (settled_row seen c) rs qs → map (settled_row seen c) qs ≡ map (settled_row seen c) rs → next c rs ≡ c → next c qs ≡ c
  next_mixed c rs qs x e h = rw (stays (not_fallen c (falling c rs) (above_zero c rs) h)) refl
    where
      rows : settled_rows c qs (map (seen c) qs) ≡ settled_rows c rs (map (seen c) rs)
      rows = rows_are c qs ∙ e ∙ sym (rows_are c rs)

      stays : falling c rs ≡ false → falling c qs ≡ false
      stays f = falls_less c rs qs (mixed_settle c rs qs x) rows (mixed-largest c nought rs qs x) f

  bare_settle : (c : ℕ) (rs : List (Row Float)) → All Bare rs → some_settle (map (seen c) rs) ≡ false
  unfolding some_settle
  bare_settle c [] a = refl
  bare_settle c (scalar x ∷ rs) a = bare_settle c rs a.1
  bare_settle c (repulsive ∷ rs) a = bare_settle c rs a.1
  bare_settle c (mesh v b e ∷ rs) a = absurd a.0

  next_bare : (c : ℕ) (rs : List (Row Float)) → All Bare rs → next c rs ≡ c
  unfolding drops
  next_bare c rs a = rw (bare_settle c rs a) refl

  -- ---- the calls

  set-number : (b : Ledger) (c : Call) (ri oi : ℕ) → kind_of c ≡ sets ri oi → number_of g b c ≡ set_number (ltb ri g.n_r && ltb oi g.n_omega) (per b.level) (energies c)
  unfolding set_question
  set-number b (set_call rj oj e) ri oi q = rw (← ap distance q, ← ap dihedral q) refl
  set-number b (settle_call rj) ri oi q = let z = ap which q in absurd (omega (arith, z))
  set-number b (write_call t out) ri oi q = let z = ap which q in absurd (omega (arith, z))

  set_enters : (b : Ledger) (c : Call) (ri oi : ℕ) → kind_of c ≡ sets ri oi → entered g m b c ≡ cond (eqb (number_of g b c) 0) (set_entered b (ri * g.n_omega + oi) (energies c)) b
  unfolding entered
  set_enters b (set_call rj oj e) ri oi q = rw (← ap distance q, ← ap dihedral q) refl
  set_enters b (settle_call rj) ri oi q = let z = ap which q in absurd (omega (arith, z))
  set_enters b (write_call t out) ri oi q = let z = ap which q in absurd (omega (arith, z))

  settle_number : (b : Ledger) (c : Call) (ri : ℕ) → kind_of c ≡ settles ri → number_of g b c ≡ ask (ltb ri g.n_r) 8 (ask (every (from_level b.level) (slice_of k b ri)) 11 0)
  unfolding ledger_question
  settle_number b (set_call rj oj e) ri q = let z = ap which q in absurd (omega (arith, z))
  settle_number b (settle_call rj) ri q = let z : ri * g.n_omega + 0 ≡ ri * g.n_omega = omega arith in rw (ap distance q, z) refl
  settle_number b (write_call t out) ri q = let z = ap which q in absurd (omega (arith, z))

  settle_enters : (b : Ledger) (c : Call) (ri : ℕ) → kind_of c ≡ settles ri
      → entered g m b c ≡ cond (eqb (number_of g b c) 0) (pair (next b.level (slice_of k b ri)) (put b.rows (ri * g.n_omega) (map (settled_row seen b.level) (slice_of k b ri)))) b
  unfolding entered settle_entered settled_slice verdicts
  settle_enters b (set_call rj oj e) ri q = let z = ap which q in absurd (omega (arith, z))
  settle_enters b (settle_call rj) ri q =
      let z : ri * g.n_omega + 0 ≡ ri * g.n_omega = omega arith in
      rw (ap distance q, z, ← rows_are b.level (slice_of k b ri)) refl
  settle_enters b (write_call t out) ri q = let z = ap which q in absurd (omega (arith, z))

  write_enters : (b : Ledger) (c : Call) → kind_of c ≡ writes → entered g m b c ≡ b
  unfolding entered
  write_enters b (set_call rj oj e) q = let z = ap which q in absurd (omega (arith, z))
  write_enters b (settle_call rj) q = let z = ap which q in absurd (omega (arith, z))
  write_enters b (write_call t out) q = refl

  pub lawful : Lawful k
  unfolding opened
  lawful =
      record {
        each = per;
        rising = per_rises;
        energies = energies;
        seen = seen;
        seen_scalar = λ c x. refl;
        seen_repulsive = λ c. refl;
        seen_mesh = λ c v w b d e. refl;
        next = next;
        next_level = λ c rs. falls c (falling c rs) (above_zero c rs);
        next_mixed = next_mixed;
        next_bare = next_bare;
        set-number = set-number;
        set_enters = set_enters;
        settle_number = λ b n c ri q. settle_number b c ri q;
        settle_enters = λ b n c ri q. settle_enters b c ri q;
        write_enters = write_enters;
        fresh-many = length-replicate (g.n_r * g.n_omega) (scalar nought);
        fresh_bare = λ ri. all_take Bare g.n_omega _ (all_drop Bare (ri * g.n_omega) _ (all_replicate Bare (g.n_r * g.n_omega) (scalar nought) tt));
      }

  -- it is the ledger of document 01
  pub onward_is : (b : Ledger) (cs : List Call) → onward k b cs ≡ ledger g m b cs
  unfolding onward ledger
  onward_is b [] = refl
  onward_is b (c ∷ cs) = onward_is (entered g m b c) cs

-- ---- against an atom

module _ (g : AtomGrid) (m : Mesh) (top : ℕ) where
  abbrev ka : Keeping
  ka = atom_keeping g m top

  abbrev found : ℕ → Row Float → AtomVerdict
  found c r = atom_verdict_of g.threshold g.beta (level_part c m) (vertex_count c) r

  abbrev seen_by : ℕ → Row Float → Verdict
  seen_by c r = (found c r).verdict

  abbrev falling_by : ℕ → AtomVerdict → Bool
  falling_by c v = settlesBy v.verdict && (lt v.gradient g.threshold && ltb 0 c)

  -- of the first row, which is all of a slice
  abbrev next_by : ℕ → List (Row Float) → ℕ
  next_by c [] = c
  next_by c (r ∷ rs) = cond (falling_by c (found c r)) (c - 1) c

  above-zero_by : (c : ℕ) (v : AtomVerdict) → falling_by c v ≡ true → 0 < c
  above-zero_by c v h =
      let a = (and-eq-true_iff (settlesBy v.verdict) (lt v.gradient g.threshold && ltb 0 c)).0 h in
      ltb-true 0 c ((and-eq-true_iff (lt v.gradient g.threshold) (ltb 0 c)).0 a.1).1

  level_by : (c : ℕ) (rs : List (Row Float)) → (next_by c rs ≡ c) ⊎ (suc (next_by c rs) ≡ c)
  level_by c [] = inl refl
  level_by c (r ∷ rs) = falls c (falling_by c (found c r)) (above-zero_by c (found c r))

  again_atom : (c v : ℕ) (b : Bool) (e : List Float) (x : Verdict) → seen_by c (mesh v b e) ≡ x → falling_by c (found c (mesh v b e)) ≡ false
      → falling_by c (found c (in_place_of (mesh v b e) (new_row c x))) ≡ false
  again_atom c v b e empty h f = f
  again_atom c v b e blocked h f = refl
  again_atom c v b e (isotropic x) h f = refl
  again_atom c v b e (smooth x) h f = f
  again_atom c v b e (rough x) h f = f

  again_row : (c : ℕ) (r : Row Float) → falling_by c (found c r) ≡ false → falling_by c (found c (settled_row seen_by c r)) ≡ false
  again_row c (scalar x) f = f
  again_row c repulsive f = f
  again_row c (mesh v b e) f = again_atom c v b e (seen_by c (mesh v b e)) refl f

  mixed_by : (c : ℕ) (rs qs : List (Row Float)) → Mixed (settled_row seen_by c) rs qs → next_by c rs ≡ c → next_by c qs ≡ c
  mixed_by c [] [] x h = refl
  mixed_by c [] (q ∷ qs) x h = absurd x
  mixed_by c (r ∷ rs) [] x h = absurd x
  mixed_by c (r ∷ rs) (q ∷ qs) x h =
      let f = not_fallen c (falling_by c (found c r)) (above-zero_by c (found c r)) h in
      let z : falling_by c (found c q) ≡ false = ⊎_elim (λ e. ap (λ (y : Row Float). falling_by c (found c y)) e ∙ f) (λ e. ap (λ (y : Row Float). falling_by c (found c y)) e ∙ again_row c r f) x.0 in
      rw z refl

  bare_by : (c : ℕ) (rs : List (Row Float)) → All Bare rs → next_by c rs ≡ c
  bare_by c [] a = refl
  bare_by c (scalar x ∷ rs) a = refl
  bare_by c (repulsive ∷ rs) a = refl
  bare_by c (mesh v b e ∷ rs) a = absurd a.0

  -- the slice of a distance bin is its row
  one_row : (b : Ledger) (ri : ℕ) → length b.rows ≡ g.n_r * 1 → ri < g.n_r → slice_of ka b ri ≡ get_or b.rows ri repulsive ∷ []
  one_row b ri e h =
      let z : ri * 1 ≡ ri = omega arith in
      rw (z, drop-cons b.rows ri repulsive (omega (arith, e))) refl

  -- ---- the calls

  atom_set-number : (b : Ledger) (c : AtomCall) (ri oi : ℕ) → atom_kind_of c ≡ sets ri oi → atom_number_of g b c ≡ set_number (ltb ri g.n_r && ltb oi 1) (vertex_count b.level) (energies_by c)
  unfolding atom_set_question
  atom_set-number b (atom-set rj e) ri oi q = rw (← ap distance q, ← ap dihedral q, and_true (ltb rj g.n_r)) refl
  atom_set-number b (atom-settle rj) ri oi q = let z = ap which q in absurd (omega (arith, z))
  atom_set-number b (atom-write out) ri oi q = let z = ap which q in absurd (omega (arith, z))

  atom_set_enters : (b : Ledger) (c : AtomCall) (ri oi : ℕ) → atom_kind_of c ≡ sets ri oi → atom_entered g m b c ≡ cond (eqb (atom_number_of g b c) 0) (set_entered b (ri * 1 + oi) (energies_by c)) b
  unfolding atom_entered
  atom_set_enters b (atom-set rj e) ri oi q = let z : ri * 1 + oi ≡ rj = omega (arith, ap distance q, ap dihedral q) in rw z refl
  atom_set_enters b (atom-settle rj) ri oi q = let z = ap which q in absurd (omega (arith, z))
  atom_set_enters b (atom-write out) ri oi q = let z = ap which q in absurd (omega (arith, z))

  number_by : (b : Ledger) → length b.rows ≡ g.n_r * 1 → (ri : ℕ) (x : Bool) → ltb ri g.n_r ≡ x
      → atom_ledger_question g b ri ≡ ask x 8 (ask (every (from_level b.level) (slice_of ka b ri)) 11 0)
  unfolding atom_ledger_question ask every
  number_by b n ri true h = rw (h, one_row b ri n (ltb-true ri g.n_r h), and_true (from_level b.level (get_or b.rows ri repulsive))) refl
  number_by b n ri false h = rw h refl

  atom_settle_number : (b : Ledger) → length b.rows ≡ g.n_r * 1 → (c : AtomCall) (ri : ℕ) → atom_kind_of c ≡ settles ri
      → atom_number_of g b c ≡ ask (ltb ri g.n_r) 8 (ask (every (from_level b.level) (slice_of ka b ri)) 11 0)
  atom_settle_number b n (atom-set rj e) ri q = let z = ap which q in absurd (omega (arith, z))
  atom_settle_number b n (atom-settle rj) ri q = rw (ap distance q) (number_by b n ri _ refl)
  atom_settle_number b n (atom-write out) ri q = let z = ap which q in absurd (omega (arith, z))

  enters_by : (b : Ledger) → length b.rows ≡ g.n_r * 1 → (ri : ℕ) (x : Bool) → eqb (atom_ledger_question g b ri) 0 ≡ x
      → cond x (atom_settle_entered g m b ri) b ≡ cond x (pair (next_by b.level (slice_of ka b ri)) (put b.rows (ri * 1) (map (settled_row seen_by b.level) (slice_of ka b ri)))) b
  unfolding atom_settle_entered atom_level atom_ledger_question
  enters_by b n ri false h = refl
  enters_by b n ri true h =
      let i : ri < g.n_r = ltb-true ri g.n_r (ask_yes (lit< tt) (eqb-true _ 0 h)).0 in
      let z : ri * 1 ≡ ri = omega arith in
      let x = settled_row seen_by b.level (get_or b.rows ri repulsive) in
      let p : put b.rows ri (x ∷ []) ≡ set b.rows ri x = put-sets b.rows ri (x ∷ []) (omega (arith, n, i)) in
      rw (one_row b ri n i, z, p) refl

  atom_settle_enters : (b : Ledger) → length b.rows ≡ g.n_r * 1 → (c : AtomCall) (ri : ℕ) → atom_kind_of c ≡ settles ri
      → atom_entered g m b c ≡ cond (eqb (atom_number_of g b c) 0) (pair (next_by b.level (slice_of ka b ri)) (put b.rows (ri * 1) (map (settled_row seen_by b.level) (slice_of ka b ri)))) b
  unfolding atom_entered
  atom_settle_enters b n (atom-set rj e) ri q = let z = ap which q in absurd (omega (arith, z))
  atom_settle_enters b n (atom-settle rj) ri q = rw (ap distance q) (enters_by b n ri _ refl)
  atom_settle_enters b n (atom-write out) ri q = let z = ap which q in absurd (omega (arith, z))

  atom_write_enters : (b : Ledger) (c : AtomCall) → atom_kind_of c ≡ writes → atom_entered g m b c ≡ b
  unfolding atom_entered
  atom_write_enters b (atom-set rj e) q = let z = ap which q in absurd (omega (arith, z))
  atom_write_enters b (atom-settle rj) q = let z = ap which q in absurd (omega (arith, z))
  atom_write_enters b (atom-write out) q = refl

  pub atom_lawful : Lawful ka
  unfolding atom_opened
  atom_lawful =
      record {
        each = vertex_count;
        rising = count_rises;
        energies = energies_by;
        seen = seen_by;
        seen_scalar = λ c x. refl;
        seen_repulsive = λ c. refl;
        seen_mesh = λ c v w b d e. refl;
        next = next_by;
        next_level = level_by;
        next_mixed = λ c rs qs x e. mixed_by c rs qs x;
        next_bare = bare_by;
        set-number = atom_set-number;
        set_enters = atom_set_enters;
        settle_number = atom_settle_number;
        settle_enters = atom_settle_enters;
        write_enters = atom_write_enters;
        fresh-many = length-replicate g.n_r (scalar nought) ∙ omega arith;
        fresh_bare = λ ri. all_take Bare 1 (drop (ri * 1) (replicate g.n_r (scalar nought))) (all_drop Bare (ri * 1) (replicate g.n_r (scalar nought)) (all_replicate Bare g.n_r (scalar nought) tt));
      }

  pub atom_onward_is : (b : Ledger) (cs : List AtomCall) → onward ka b cs ≡ atom_ledger g m b cs
  unfolding onward atom_ledger
  atom_onward_is b [] = refl
  atom_onward_is b (c ∷ cs) = atom_onward_is (atom_entered g m b c) cs
