-- Set calls in any order within their run: the same answers, the same end, the same file. Assumes nothing.
use mathlib.Core.Path.{◌≡◌, refl, sym, ap, subst, ◌∙◌}
use mathlib.Core.Bool.{Bool, true, false, not, ◌&&◌, ◌||◌, true≢false, and-eq-true_iff}
use mathlib.Core.List.{List, [], ◌∷◌, ◌++◌}
use Prim.Native.Nat.{ℕ, suc}
use native.Mathlib.Omega.{arith}
use lib.ListN.{length, take}
use lib.Dec.{eqb}
use lib.Ieee.{Float}
use borrow.Author.Tests.{eqb-true, eqb-false, eq-eqb, ne_eqb}
use Rattle.lists.proofs.Counting.{and_no}
use Rattle.mesh.specs.Mesh.{Mesh}
use Rattle.writer.specs.Write.{WriteOut}
use Rattle.writer.specs.Tailed.{write_tail_out}
use Rattle.ledger.specs.Ledger.{Call, set_call, settle_call, write_call, State, called, run}
use Rattle.ledger.specs.Promise.{History, ended, last_write, file}
use Rattle.ledger.specs.Replies.{Reply, number, replied, replies, begun}
use Rattle.ledger.specs.Order.{Reordered, nothing, same, exchanged, then, moved, accepted_in, once, with_calls, AnyOrder, Later}
use Rattle.ledger.proofs.Moved.{moved-many, accepted_moved}
use Rattle.ledger.proofs.Sets.{taken, accepted_number, replied-after, called_again, called_comm}

-- ---- an answer for each call

replies-many : (m : Mesh) (st : State) (cs : List Call) → length cs ≡ length (replies m st cs)
unfolding replies
replies-many m st [] = refl
replies-many m st (c ∷ cs) = ap suc (replies-many m (called m st c) cs)

-- ---- what is accepted in a run does not depend on its order

eqb_comm : (a b : ℕ) → eqb a b ≡ eqb b a
eqb_comm a b = by (eqb a b) refl
  where
    by : (x : Bool) → eqb a b ≡ x → eqb a b ≡ eqb b a
    by true d = d ∙ sym (eq-eqb b a (sym (eqb-true a b d)))
    by false d = d ∙ sym (ne_eqb b a (λ q. eqb-false a b d (sym q)))

-- of two sets: accepted or not, of one slab or not, accepted again later or not, and the rest
once-exchanged : (a b e c d o : Bool) → not (b && ((a && e) || d)) && (not (a && c) && o) ≡ not (a && ((b && e) || c)) && (not (b && d) && o)
once-exchanged true true true c d o = refl
once-exchanged true true false true true o = refl
once-exchanged true true false true false o = refl
once-exchanged true true false false true o = refl
once-exchanged true true false false false o = refl
once-exchanged true false e c d o = refl
once-exchanged false true e c d o = refl
once-exchanged false false e c d o = refl

once-moved : {cs ds : List Call} (p : Reordered cs ds) (rs : List Reply) → length cs ≡ length rs → once ds (moved p rs) ≡ once cs rs
unfolding moved once accepted_in
once-moved nothing rs h = refl
once-moved (same p) [] h = absurd (omega arith)
once-moved (same {c = set_call ri oi e} p) (r ∷ rs) h = rw (accepted_moved p ri oi rs (omega arith), once-moved p rs (omega arith)) refl
once-moved (same {c = settle_call ri} p) (r ∷ rs) h = once-moved p rs (omega arith)
once-moved (same {c = write_call t out} p) (r ∷ rs) h = once-moved p rs (omega arith)
once-moved exchanged [] h = absurd (omega arith)
once-moved exchanged (x ∷ []) h = absurd (omega arith)
once-moved (exchanged {ri = ri} {oi = oi} {rj = rj} {oj = oj} {cs = cs}) (x ∷ y ∷ rs) h =
    rw (eqb_comm rj ri, eqb_comm oj oi)
    (once-exchanged (eqb (number x) 0) (eqb (number y) 0) (eqb ri rj && eqb oi oj) (accepted_in ri oi cs rs) (accepted_in rj oj cs rs) (once cs rs))
once-moved (then p q) rs h = once-moved q (moved p rs) (moved-many p rs h) ∙ once-moved p rs h

-- ---- the calls

-- what `once` says of a set and the one behind it: not both are accepted and of one slab
again : (x w c o : Bool) → not (x && (w || c)) && o ≡ true → x && w ≡ false
again false w c o h = refl
again true false c o h = refl
again true true c o h = absurd (true≢false (sym h))

module _ (m : Mesh) where
  exchange : (st : State) (ri oi : ℕ) (e : List Float) (rj oj : ℕ) (f : List Float) (cs : List Call)
      → (let bs = set_call ri oi e ∷ set_call rj oj f ∷ cs in let ds = set_call rj oj f ∷ set_call ri oi e ∷ cs in
      once bs (replies m st bs) ≡ true → (replies m st ds ≡ moved {cs = bs} {ds = ds} exchanged (replies m st bs)) × (run m st ds ≡ run m st bs))
  unfolding moved once accepted_in replies run
  exchange st ri oi e rj oj f cs h =
      let a = set_call ri oi e in
      let b = set_call rj oj f in
      let rb = replied-after m st ri oi e rj oj f in
      let ra = replied-after m st rj oj f ri oi e in
      let both : eqb (number (replied m st a)) 0 && (eqb (number (replied m (called m st a) b)) 0 && (eqb ri rj && eqb oi oj)) ≡ false =
      again (eqb (number (replied m st a)) 0) (eqb (number (replied m (called m st a) b)) 0 && (eqb ri rj && eqb oi oj)) (accepted_in ri oi cs (replies m (called m (called m st a) b) cs)) _ h in
      let z = rw (rb, accepted_number m st ri oi e, accepted_number m st rj oj f) at both in
      let comm : called m (called m st b) a ≡ called m (called m st a) b = sym (called_comm m st ri oi e rj oj f z) in
      (rw (rb, ra, comm) refl, ap (λ (x : State). run m x cs) comm)

  once-rest : (c : Call) (cs : List Call) (r : Reply) (rs : List Reply) → once (c ∷ cs) (r ∷ rs) ≡ true → once cs rs ≡ true
  unfolding once
  once-rest (set_call ri oi e) cs r rs h = ((and-eq-true_iff (not (eqb (number r) 0 && accepted_in ri oi cs rs)) (once cs rs)).0 h).1
  once-rest (settle_call ri) cs r rs h = h
  once-rest (write_call t out) cs r rs h = h

  reorder : {cs ds : List Call} (p : Reordered cs ds) (st : State) → once cs (replies m st cs) ≡ true → (replies m st ds ≡ moved p (replies m st cs)) × (run m st ds ≡ run m st cs)
  unfolding moved once replies run
  reorder nothing st h = (refl, refl)
  reorder (same {c = c} {cs = cs} p) st h =
      let i = reorder p (called m st c) (once-rest c cs (replied m st c) (replies m (called m st c) cs) h) in
      (ap (λ (x : List Reply). replied m st c ∷ x) i.0, i.1)
  reorder (exchanged {ri = ri} {oi = oi} {rj = rj} {oj = oj} {e = e} {f = f} {cs = cs}) st h = exchange st ri oi e rj oj f cs h
  reorder (then {bs = bs} {cs = cs} {ds = ds} p q) st h =
      let i = reorder p st h in
      let k : once cs (replies m st cs) ≡ true = rw i.0 (once-moved p (replies m st bs) (replies-many m st bs) ∙ h) in
      let j = reorder q st k in
      (j.0 ∙ ap (moved q) i.0, j.1 ∙ i.1)

  -- from two states the same answers and the same end
  abbrev AsFrom : List Call → State → State → Type 0
  AsFrom cs s t = (replies m s cs ≡ replies m t cs) × (run m s cs ≡ run m t cs)

  as_equal : (cs : List Call) (s t : State) → s ≡ t → AsFrom cs s t
  as_equal cs s t e = (ap (λ (x : State). replies m x cs) e, ap (λ (x : State). run m x cs) e)

  -- the set behind it is the one of its slab, or it goes before it and the same is asked of the calls after it
  later_step : (ri oi : ℕ) (e : List Float) (rj oj : ℕ) (f : List Float) (cs : List Call) (st : State) (x : Bool)
      → eqb (number (replied m st (set_call rj oj f))) 0 && (eqb ri rj && eqb oi oj) ≡ x
      → (let a = set_call ri oi e in let b = set_call rj oj f in
      (accepted_in ri oi cs (replies m (called m (called m st b) a) cs) ≡ true → AsFrom cs (called m (called m st b) a) (called m st b))
      → x || accepted_in ri oi cs (replies m (called m (called m st a) b) cs) ≡ true → AsFrom cs (called m (called m st a) b) (called m st b))
  later_step ri oi e rj oj f cs st true d i h =
      let q = (and-eq-true_iff (eqb (number (replied m st (set_call rj oj f))) 0) (eqb ri rj && eqb oi oj)).0 d in
      as_equal cs _ _ (called_again m st ri oi e rj oj f (sym (accepted_number m st rj oj f) ∙ q.0) q.1)
  later_step ri oi e rj oj f cs st false d i h =
      let z = rw (accepted_number m st rj oj f) at d in
      let comm = called_comm m st ri oi e rj oj f (and_no (taken st.builder st.lists ri oi e) _ z) in
      subst (λ (x : State). AsFrom cs x (called m st (set_call rj oj f))) (sym comm) (i (subst (λ (x : State). accepted_in ri oi cs (replies m x cs) ≡ true) comm h))

  -- a set before calls in whose run its slab is accepted
  later_run : (ri oi : ℕ) (e : List Float) (cs : List Call) (st : State) → accepted_in ri oi cs (replies m (called m st (set_call ri oi e)) cs) ≡ true → AsFrom cs (called m st (set_call ri oi e)) st
  unfolding accepted_in replies run
  later_run ri oi e [] st h = absurd (true≢false (sym h))
  later_run ri oi e (settle_call rj ∷ cs) st h = absurd (true≢false (sym h))
  later_run ri oi e (write_call t out ∷ cs) st h = absurd (true≢false (sym h))
  later_run ri oi e (set_call rj oj f ∷ cs) st h =
      let rb = replied-after m st ri oi e rj oj f in
      let r = later_step ri oi e rj oj f cs st _ refl (later_run ri oi e cs (called m st (set_call rj oj f))) (rw rb at h) in
      (rw rb (ap (λ (x : List Reply). replied m st (set_call rj oj f) ∷ x) r.0), r.1)

run-append : (m : Mesh) (st : State) (bs cs : List Call) → run m st (bs ++ cs) ≡ run m (run m st bs) cs
unfolding run
run-append m st [] cs = refl
run-append m st (b ∷ bs) cs = run-append m (called m st b) bs cs

-- ---- histories

writes : (h : History) (cs ds : List Call) → ended (with_calls h cs) ≡ ended (with_calls h ds)
    → (last_write (with_calls h cs) ≡ last_write (with_calls h ds)) × (file (with_calls h cs) ≡ file (with_calls h ds))
unfolding file
writes h cs ds e =
    let w : last_write (with_calls h cs) ≡ last_write (with_calls h ds) = ap (λ (st : State). write_tail_out st.builder h.meshes st.lists h.tail h.output) e in
    (w, ap (λ (o : WriteOut). take o.answer.length o.output) w)

pub any_order : AnyOrder
unfolding ended
any_order h ds p o =
    let r = reorder h.meshes p (begun h) o in
    let w = writes h ds h.calls r.1 in
    record { answers = r.0; state = r.1; last_write = w.0; bytes = w.1 }

pub later : Later
unfolding ended run
later h bs ri oi e cs o =
    let m = h.meshes in
    let a = set_call ri oi e in
    let before : run m (begun h) (bs ++ a ∷ []) ≡ called m (run m (begun h) bs) a = run-append m (begun h) bs (a ∷ []) in
    let r = later_run m ri oi e cs (run m (begun h) bs) (subst (λ (st : State). accepted_in ri oi cs (replies m st cs) ≡ true) before o) in
    let end : run m (begun h) (bs ++ a ∷ cs) ≡ run m (begun h) (bs ++ cs) = run-append m (begun h) bs (a ∷ cs) ∙ r.1 ∙ sym (run-append m (begun h) bs cs) in
    let w = writes h (bs ++ a ∷ cs) (bs ++ cs) end in
    record { answers = ap (λ (st : State). replies m st cs) before ∙ r.0; state = end; last_write = w.0; bytes = w.1 }
