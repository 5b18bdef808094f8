-- The longest file: no list of calls writes a longer one, and every slab set at the top level reaches it. Assumes nothing.
use mathlib.Core.Path.{◌≡◌, refl, sym, ap, ◌∙◌, subst}
use mathlib.Core.Bool.{Bool, true, false}
use mathlib.Core.List.{List, [], ◌∷◌, ◌++◌, map, map-append}
use Prim.Native.Nat.{ℕ, zero, suc, ◌+◌, ◌*◌, ◌/◌, ◌%◌, ◌≤◌, ◌<◌}
use native.Mathlib.Nat.{suc-mul, zero-mul, mul-zero, mod-lt, div-add-mod', div-lt_iff_lt-mul}
use native.Mathlib.Omega.{arith}
use lib.ListN.{length, get_or, take, drop, length-set, length-replicate}
use lib.Seq.{take_all, take-suc-set}
use lib.Dec.{leb, eqb}
use lib.Ieee.{Float}
use borrow.Author.Tests.{eqb-true, eqb-false, eq-eqb, ne_eqb, le-leb, lt-ltb}
use Rattle.lists.specs.Questions.{ask, first}
use Rattle.lists.proofs.Asking.{first_yes}
use Rattle.lists.specs.Lists.{below, for_each}
use Rattle.mesh.specs.Levels.{per, vertex_count, grid_size, cell_count, vertices_below}
use Rattle.mesh.specs.Mesh.{Mesh, mesh_long, meshes_keep, links_room, neighbour_total}
use Rattle.mesh.proofs.Kept.{held}
use Rattle.mesh.proofs.Parts.{meshes_linked_lem}
use Rattle.grid.specs.Settings.{counted, question, fresh_question}
use Rattle.grid.specs.declared.Grid.{Grid}
use Rattle.rows.specs.declared.SlabResolution.{SlabResolution}
use Rattle.rows.specs.declared.SlabResolution.TheVariants.{Scalar, Mesh as OnMesh, Repulsive}
use Rattle.rows.specs.Rows.{Rows, row_room, resolution_at, Row, scalar, repulsive, mesh, compared, row_with}
use Rattle.locator.specs.Locator.{locator_room}
use Rattle.builder.specs.BuilderLists.{BuilderLists, slabs, row_in, rows_in}
use Rattle.builder.specs.Refusals.{set_question}
use Rattle.builder.specs.declared.Builder.{Builder}
use Rattle.builder.proofs.Laws.{asked}
use Rattle.sizing.specs.Sizing.{sizing_refusal, sized, no_size, sizing_out}
use Rattle.sizing.proofs.Levels.{at_level}
use Rattle.sizing.proofs.Sizes.{size_done}
use Rattle.table.specs.Tail.{tail_size}
use Rattle.table.specs.File.{energy_count}
use Rattle.table.proofs.Back.{All}
use Rattle.table.proofs.Sound.{all_append}
use Rattle.table.proofs.OfTail.{tail_mono}
use Rattle.writer.specs.Write.{WrittenValues}
use Rattle.writer.specs.Tailed.{TailLists, tailed_question, full_file_from, write_tail_out}
use Rattle.writer.specs.Internal.{held_by, resolutions, total, Sure, write_question}
use Rattle.writer.proofs.Whole.{total_few}
use Rattle.writer.proofs.Outcome.{sure, write_length}
use Rattle.writer.proofs.OfTail.{tail_asked, tailed_long, tailed_sure, tail_length, tail_refused, tail_short, tail_done}
use Rattle.ledger.specs.Ledger.{set_call, Ledger, opened, set_entered, entered, ledger}
use Rattle.ledger.specs.Promise.{History, fresh, ended, last_write}
use Rattle.ledger.specs.Longest.{size_of, NoLonger, Longest, Settable, every_slab, Reaches, Handed, Reached, Fits, Fitting}
use Rattle.ledger.proofs.Invariant.{Fit, rows_are, rows-known}
use Rattle.ledger.proofs.Follows.{meshed_yes}
use Rattle.ledger.proofs.Ends.{basis, agree}

-- ---- both kinds: what is accepted is sized

pub none-asked : (q top : ℕ) (m : Mesh) → q ≡ 0 → mesh_long (vertices_below (suc top)) m ≡ true → meshes_keep top m ≡ true → sizing_refusal q top m.counts m.neighbours ≡ 0
unfolding sizing_refusal first ask links_room
none-asked q top m e l k =
    let h = held (vertices_below (suc top)) m l in
    rw (e, le-leb _ _ h.counts, le-leb _ _ h.neighbours, meshes_linked_lem top m k)

-- ---- both kinds: how many energies rows hold, a Mesh row of level v having `each v`

module _ (each : ℕ → ℕ) where
  held_in : List (Row Float) → ℕ
  held_in [] = 0
  held_in (r ∷ rs) = energy_count each (compared r) + held_in rs

  held_by_lem : (x : SlabResolution) (e : List Float) → held_by each x ≡ energy_count each (compared (row_with x e))
  held_by_lem (Scalar y) e = refl
  held_by_lem (OnMesh v b) e = refl
  held_by_lem Repulsive e = refl

  total-held : (top : ℕ) (l : BuilderLists) (s n : ℕ) → total each (resolutions l.rows s n) ≡ held_in (rows_in each top l s n)
  unfolding total resolutions rows_in row_in held_in
  total-held top l s zero = refl
  total-held top l s (suc n) = rw (held_by_lem (resolution_at l.rows s) (take (each (get_or l.rows.levels s 0)) (drop (s * each top) l.store)), total-held top l (suc s) n)

  -- a Mesh row of a level with z energies
  abbrev pub Full : ℕ → Row Float → Type 0
  Full z (scalar x) = ⊥
  Full z repulsive = ⊥
  Full z (mesh v b e) = each v ≡ z

  full_row : (z : ℕ) (r : Row Float) → Full z r → energy_count each (compared r) ≡ z
  full_row z (scalar x) q = absurd q
  full_row z repulsive q = absurd q
  full_row z (mesh v b e) q = q

  full_rows : (z : ℕ) (rs : List (Row Float)) → All (Full z) rs → held_in rs ≡ length rs * z
  unfolding held_in
  full_rows z [] q = sym (zero-mul z)
  full_rows z (r ∷ rs) q = rw suc-mul (omega (arith, full_row z r q.0, full_rows z rs q.1))

  -- lists that hold full rows
  pub full_total : (count top : ℕ) (store : List Float) (l : Rows) (rows : List (Row Float)) → Fit each count top store l rows → All (Full (each top)) rows
      → total each (resolutions l 0 count) ≡ count * each top
  full_total count top store l rows a q =
      total-held top (record { store = store; rows = l }) 0 count
      ∙ ap held_in (rows_are each count top store l rows a count 0 (omega arith) ∙ take_all count rows (omega (arith, a.many)))
      ∙ full_rows (each top) rows q ∙ rw a.many

  -- ---- both kinds: a ledger with its slabs set one after another

  module _ (e : ℕ → List Float) where
    abbrev set_up_to : ℕ → Ledger → Ledger
    set_up_to n b = for_each n (λ s c. set_entered c s (e s)) b

    set_level : (n : ℕ) (b : Ledger) → (set_up_to n b).level ≡ b.level
    unfolding for_each set_entered
    set_level zero b = refl
    set_level (suc n) b = set_level n b

    set-many : (n : ℕ) (b : Ledger) → length (set_up_to n b).rows ≡ length b.rows
    unfolding for_each set_entered
    set-many zero b = refl
    set-many (suc n) b = length-set (set_up_to n b).rows n (mesh (set_up_to n b).level true (e n)) ∙ set-many n b

    set_full : (n : ℕ) (b : Ledger) → n ≤ length b.rows → All (Full (each b.level)) (take n (set_up_to n b).rows)
    unfolding for_each set_entered
    set_full zero b h = tt
    set_full (suc n) b h =
        let c = set_up_to n b in
        rw (take-suc-set c.rows n (mesh c.level true (e n)) (omega (arith, set-many n b)))
        (all_append (Full (each b.level)) (take n c.rows) (mesh c.level true (e n) ∷ []) (set_full n b (omega arith)) (ap each (set_level n b), tt))

    -- by calls that it enters one after another
    module _ {C : Type 0} (enter : Ledger → C → Ledger) (book : Ledger → List C → Ledger) (none : (b : Ledger) → book b [] ≡ b) (more : (b : Ledger) (c : C) (cs : List C) → book b (c ∷ cs) ≡ book (enter b c) cs)
        (call : ℕ → C) (count top : ℕ) (sets : (s : ℕ) (b : Ledger) → s < count → b.level ≡ top → enter b (call s) ≡ set_entered b s (e s)) where
      book_append : (b : Ledger) (cs ds : List C) → book b (cs ++ ds) ≡ book (book b cs) ds
      book_append b [] ds = rw (none b)
      book_append b (c ∷ cs) ds = rw (more b c (cs ++ ds), more b c cs) (book_append (enter b c) cs ds)

      entered_up_to : (n : ℕ) (b : Ledger) → n ≤ count → b.level ≡ top → book b (map call (below n)) ≡ set_up_to n b
      unfolding below for_each
      entered_up_to zero b i t = none b
      entered_up_to (suc n) b i t =
          rw (map-append call (below n) (n ∷ []), book_append b (map call (below n)) (call n ∷ []), entered_up_to n b (omega arith) t, more (set_up_to n b) (call n) [], none (enter (set_up_to n b) (call n)))
          (sets n (set_up_to n b) (omega arith) (set_level n b ∙ t))

      pub every_full : (b : Ledger) → b.level ≡ top → length b.rows ≡ count → All (Full (each top)) (book b (map call (below count))).rows
      every_full b t k =
          rw (entered_up_to count b (omega arith) t, ← t) (rw (take_all count (set_up_to count b).rows (omega (arith, set-many count b, k))) at (set_full count b (omega (arith, k))))

-- ---- both kinds: a write. Its questions 1 to 7 and 15 give q, its file has n bytes, and its output `room`

pub record Answers (q n room : ℕ) (w : WrittenValues) : Type 0 where
  pub refused : (q ≡ 0 → ⊥) → w.length ≡ 0
  pub short : q ≡ 0 → leb n room ≡ false → w.length ≡ 0
  pub done : q ≡ 0 → leb n room ≡ true → (w.number ≡ 0) × (w.length ≡ n)

module _ (q n room most : ℕ) (w : WrittenValues) (a : Answers q n room w) where
  pub answer_le : (q ≡ 0 → n ≤ most) → w.length ≤ most
  answer_le h = by_question (eqb q 0) refl
    where
      by_room : q ≡ 0 → (x : Bool) → leb n room ≡ x → w.length ≤ most
      by_room z true e = omega (arith, (a.done z e).1, h z)
      by_room z false e = omega (arith, a.short z e)

      by_question : (x : Bool) → eqb q 0 ≡ x → w.length ≤ most
      by_question true e = by_room (eqb-true q 0 e) _ refl
      by_question false e = omega (arith, a.refused (eqb-false q 0 e))

  pub answer_full : q ≡ 0 → n ≡ most → most ≤ room → (w.number ≡ 0) × (w.length ≡ most)
  answer_full z e r = let d = a.done z (le-leb n room (omega arith)) in (d.0, d.1 ∙ e)

-- ---- both kinds: lists of the lengths that a sizing gives

pub fits : (head n z top : ℕ) (f : ℕ → ℕ) → top ≤ 15 → Fits n z top (sized head n z top f)
unfolding sized row_room locator_room
fits head n z top f h =
    record {
      lists = rw (le-leb (n * z) (n * z) (omega arith), le-leb n n (omega arith));
      locator = λ m l.
          let k : m < suc top = omega arith in
          let w : suc top ≤ 16 = omega arith in
          rw (
            at_level (λ v. cell_count (grid_size (vertex_count v)) + 1) (suc top) m k w,
            at_level (λ v. 27 * vertex_count v) (suc top) m k w,
            at_level (λ v. vertex_count v + 1) (suc top) m k w,
            at_level (λ v. 45 * vertex_count v) (suc top) m k w,
            le-leb (cell_count (grid_size (vertex_count m)) + 1) (cell_count (grid_size (vertex_count m)) + 1) (omega arith),
            le-leb (27 * vertex_count m) (27 * vertex_count m) (omega arith),
            le-leb (vertex_count m + 1) (vertex_count m + 1) (omega arith),
            le-leb (45 * vertex_count m) (45 * vertex_count m) (omega arith),
          );
    }

-- ---- tables of two molecules

-- with k terms
abbrev most : ℕ → Builder → ℕ
most k b = 52 + tail_size k + 4 * suc b.top + 10 * slabs b.grid + 4 * (slabs b.grid * per b.top)

module _ (b : Builder) (m : Mesh) (l : BuilderLists) (t : TailLists) (out : List ℕ) where
  answers : Answers (tailed_question b m l t) (length (full_file_from b l t)) (length out) (write_tail_out b m l t out).answer
  answers =
      record {
        refused = λ z. rw (tail_refused b m l t out (tailed_question b m l t) refl (ne_eqb _ 0 z)) refl;
        short = λ z e. rw (tail_short b m l t out z e) refl;
        done = λ z e. rw (tail_done b m l t out z e) (refl, refl);
      }

  -- what is accepted is sure, and how long its file is
  long : tailed_question b m l t ≡ 0 → Sure per b.top (slabs b.grid) l
      × (length (full_file_from b l t) ≡ 56 + 4 * b.top + 10 * slabs b.grid + 4 * total per (resolutions l.rows 0 (slabs b.grid)) + tail_size (length t.coefficients))
  long z =
      let s = (sure b m l (tailed_sure b m l t z).0).0 in
      (s, tail_length b m l t _ (write_length b l _ s refl))

  -- from any builder and lists, with at most k terms
  write_le : (k : ℕ) → length t.coefficients ≤ k → (write_tail_out b m l t out).answer.length ≤ most k b
  write_le k h = answer_le _ _ _ (most k b) _ answers (λ z.
      let s = long z in
      omega (arith, s.1, tail_mono (length t.coefficients) k h, total_few per b.top l.rows (slabs b.grid) s.0.bounded))

  write_full : (k : ℕ) → length t.coefficients ≡ k → tailed_question b m l t ≡ 0 → total per (resolutions l.rows 0 (slabs b.grid)) ≡ slabs b.grid * per b.top
      → most k b ≤ length out → ((write_tail_out b m l t out).answer.number ≡ 0) × ((write_tail_out b m l t out).answer.length ≡ most k b)
  write_full k n z e r = answer_full _ _ _ (most k b) _ answers z ((long z).1 ∙ rw n (omega (arith, e))) r

some_each : (a b s : ℕ) → s < a * b → 0 < b
some_each a zero s i = absurd (omega (arith, i, mul-zero a))
some_each a (suc b) s i = omega arith

module _ (h : History) (begins : (fresh h).answer.number ≡ 0) where
  abbrev g : Grid
  g = counted h.grid

  pub size_is : (k : ℕ) → k ≤ 4294967295
      → size_of h k ≡ sized (52 + tail_size k) (slabs g) (per h.top) h.top (λ m. g.n_omega * (2 * vertex_count m * neighbour_total h.meshes.counts m))
  unfolding fresh_question
  size_is k i =
      let a = basis h begins in
      size_done h.grid h.top h.meshes.counts h.meshes.neighbours k
      (none-asked (question g h.top h.top) h.top h.meshes a.asked a.held a.kept) (le-leb k 4294967295 i)

  same-grid : (ended h).builder.grid ≡ g
  same-grid = ap (λ (b : Builder). b.grid) (agree h begins).same

  same_top : (ended h).builder.top ≡ h.top
  same_top = ap (λ (b : Builder). b.top) (agree h begins).same

  most_is : (k : ℕ) → k ≤ 4294967295 → most k (ended h).builder ≡ (size_of h k).file
  unfolding sized
  most_is k i = rw (same-grid, same_top, size_is k i) refl

  no_longer : (k : ℕ) → k ≤ 4294967295 → length h.tail.coefficients ≤ k → NoLonger (size_of h k) (last_write h).answer
  unfolding sized
  no_longer k i n =
      record { sized = rw (size_is k i) refl; length = rw (← most_is k i) (write_le (ended h).builder h.meshes (ended h).lists h.tail h.output k n) }

  module _ (e : ℕ → List Float) (calls : h.calls ≡ every_slab g e) (good : (s : ℕ) → s < slabs g → Settable (per h.top) (e s)) where
    -- slab s is accepted at the top level
    slab_yes : (s : ℕ) → s < slabs g → set_question g h.top (s / g.n_omega) (s % g.n_omega) (e s) ≡ 0
    unfolding set_question ask
    slab_yes s i =
        let n = some_each g.n_r g.n_omega s i in
        rw (
          lt-ltb (s / g.n_omega) g.n_r ((div-lt_iff_lt-mul n).1 i),
          lt-ltb (s % g.n_omega) g.n_omega (mod-lt s n),
          eq-eqb (length (e s)) (per h.top) (good s i).0,
          (good s i).1,
        )

    sets : (s : ℕ) (b : Ledger) → s < slabs g → b.level ≡ h.top → entered g h.meshes b (set_call (s / g.n_omega) (s % g.n_omega) (e s)) ≡ set_entered b s (e s)
    unfolding entered
    sets s b i t = rw (t, slab_yes s i, div-add-mod' s g.n_omega)

    abbrev end : Ledger
    end = ledger g h.meshes (opened g h.top) h.calls

    all_full : All (Full per (per h.top)) end.rows
    unfolding opened ledger
    all_full =
        rw calls
        (every_full per e (entered g h.meshes) (ledger g h.meshes) (λ b. refl) (λ b c cs. refl) (λ s. set_call (s / g.n_omega) (s % g.n_omega) (e s)) (slabs g) h.top sets
        (opened g h.top) refl (length-replicate (slabs g) _))

    abbrev after : BuilderLists
    after = (ended h).lists

    put_all : write_question (ended h).builder h.meshes after ≡ 0
    unfolding first ask
    put_all =
        let a = agree h begins in
        subst (λ (b : Builder). write_question b h.meshes after ≡ 0) (sym a.same)
        (rw (
          meshed_yes g h.top h.meshes (basis h begins) end.level (ended h).builder.packed a.low after.store after.rows end.rows a.fit,
          rows-known per (slabs g) h.top after.store after.rows end.rows a.fit (slabs g) 0 (omega arith),
        ) refl)

    full : total per (resolutions after.rows 0 (slabs (ended h).builder.grid)) ≡ slabs (ended h).builder.grid * per (ended h).builder.top
    full = rw (same-grid, same_top) (full_total per (slabs g) h.top after.store after.rows end.rows (agree h begins).fit all_full)

    reaches : (k : ℕ) → Handed k h.tail → (size_of h k).file ≤ length h.output → Reaches (size_of h k) (last_write h).answer
    unfolding first
    reaches k t r =
        let i : k ≤ 4294967295 = rw (← t.many) (tail_asked h.tail t.asked).0 in
        let yes : tailed_question (ended h).builder h.meshes after h.tail ≡ 0 = tailed_long (ended h).builder h.meshes after h.tail t.long ∙ rw (put_all, t.asked) refl in
        let w = write_full (ended h).builder h.meshes after h.tail h.output k t.many yes full (rw (most_is k i) r) in
        record { accepted = w.0; length = w.1 ∙ most_is k i }

pub longest : Longest
longest h k i begins n = no_longer h begins k i n

pub reached : Reached
reached h e k begins calls good t r = reaches h begins e calls good k t r

fitting_by : (g : Grid) (top : ℕ) (counts neighbours : List ℕ) (k : ℕ) (x : Bool)
    → eqb (first (sizing_refusal (fresh_question g top) top counts neighbours) (ask (leb k 4294967295) 23 0)) 0 ≡ x
    → (sizing_out g top counts neighbours k).number ≡ 0 → Fits (slabs (counted g)) (per top) top (sizing_out g top counts neighbours k)
unfolding sizing_out no_size sizing_refusal fresh_question
fitting_by g top counts neighbours k true d e =
    rw d (fits (52 + tail_size k) (slabs (counted g)) (per top) top _ (asked (counted g) top top (first_yes (first_yes (eqb-true _ 0 d)).0).0).top_le)
fitting_by g top counts neighbours k false d e = absurd (eqb-false _ 0 d (rw d at e))

pub fitting : Fitting
fitting g top counts neighbours k e = fitting_by g top counts neighbours k _ refl e
