-- Lists that differ by exchanges of set calls are those whose runs of set calls are permutations of each other. Assumes nothing.
use mathlib.Core.Path.{◌≡◌, refl, sym, ap, subst, ◌∙◌}
use mathlib.Core.Bool.{Bool, true, false, ◌&&◌, true≢false, and-eq-true_iff}
use mathlib.Core.List.Permᴰ
use mathlib.Core.List.{List, [], ◌∷◌, ◌++◌, Permᴰ}
use mathlib.Core.Logic.{◌⊎◌, inl, inr}
use Prim.Native.Nat.{ℕ, suc}
use native.Mathlib.Omega.{arith}
use lib.ListN.{length}
use Rattle.lists.specs.Lists.{every}
use Rattle.table.proofs.Back.{All}
use Rattle.ledger.specs.Ledger.{Call, set_call, settle_call, write_call}
use Rattle.ledger.specs.Order.{Reordered, nothing, same, exchanged, then, moved, onto_first, runs, Permuted, none, more, WithinRuns}

-- the calls themselves, moved, are the other list
pub moved-calls : {cs ds : List Call} (p : Reordered cs ds) → moved p cs ≡ ds
unfolding moved
moved-calls nothing = refl
moved-calls (same {c = c} p) = ap (λ (x : List Call). c ∷ x) (moved-calls p)
moved-calls exchanged = refl
moved-calls (then p q) = ap (moved q) (moved-calls p) ∙ moved-calls q

-- ---- exchanges permute runs

permuted_refl : (rs : List (List Call)) → Permuted rs rs
permuted_refl [] = none
permuted_refl (r ∷ rs) = more (Permᴰ.refl r) (permuted_refl rs)

permuted_trans : {ps qs rs : List (List Call)} → Permuted ps qs → Permuted qs rs → Permuted ps rs
permuted_trans none none = none
permuted_trans (more p ps) (more q qs) = more (Permᴰ.trans p q) (permuted_trans ps qs)

onto_permuted : (c : Call) {rs qs : List (List Call)} → Permuted rs qs → Permuted (onto_first c rs) (onto_first c qs)
unfolding onto_first
onto_permuted c none = permuted_refl ((c ∷ []) ∷ [])
onto_permuted c (more p q) = more (Permᴰ.cons refl p) q

onto_exchanged : (a b : Call) (rs : List (List Call)) → Permuted (onto_first a (onto_first b rs)) (onto_first b (onto_first a rs))
unfolding onto_first
onto_exchanged a b [] = more (Permᴰ.swap refl refl) none
onto_exchanged a b (r ∷ rs) = more (Permᴰ.swap refl refl) (permuted_refl rs)

permuted_runs : {cs ds : List Call} → Reordered cs ds → Permuted (runs cs) (runs ds)
unfolding runs
permuted_runs nothing = permuted_refl ([] ∷ [])
permuted_runs (same {c = set_call ri oi e} p) = onto_permuted (set_call ri oi e) (permuted_runs p)
permuted_runs (same {c = settle_call ri} p) = more Permᴰ.nil (more (Permᴰ.refl (settle_call ri ∷ [])) (permuted_runs p))
permuted_runs (same {c = write_call t out} p) = more Permᴰ.nil (more (Permᴰ.refl (write_call t out ∷ [])) (permuted_runs p))
permuted_runs (exchanged {ri = ri} {oi = oi} {rj = rj} {oj = oj} {e = e} {f = f} {cs = cs}) = onto_exchanged (set_call ri oi e) (set_call rj oj f) (runs cs)
permuted_runs (then p q) = permuted_trans (permuted_runs p) (permuted_runs q)

-- ---- permuted runs are reached by exchanges

reordered_refl : (cs : List Call) → Reordered cs cs
reordered_refl [] = nothing
reordered_refl (c ∷ cs) = same (reordered_refl cs)

behind : (bs : List Call) {cs ds : List Call} → Reordered cs ds → Reordered (bs ++ cs) (bs ++ ds)
behind [] p = p
behind (b ∷ bs) p = same (behind bs p)

is_set : Call → Bool
is_set (set_call ri oi e) = true
is_set (settle_call ri) = false
is_set (write_call t out) = false

abbrev Sets : List Call → Type 0
Sets r = every is_set r ≡ true

two-sets : (a b : Call) (cs : List Call) → is_set a ≡ true → is_set b ≡ true → Reordered (a ∷ b ∷ cs) (b ∷ a ∷ cs)
unfolding is_set
two-sets (set_call ri oi e) (set_call rj oj f) cs h k = exchanged
two-sets (set_call ri oi e) (settle_call rj) cs h k = absurd (true≢false (sym k))
two-sets (set_call ri oi e) (write_call t out) cs h k = absurd (true≢false (sym k))
two-sets (settle_call ri) b cs h k = absurd (true≢false (sym h))
two-sets (write_call t out) b cs h k = absurd (true≢false (sym h))

-- every order of a run of set calls, whatever follows it
any_order_of_run : {r q : List Call} → Permᴰ r q → Sets r → Sets q × ((cs : List Call) → Reordered (r ++ cs) (q ++ cs))
unfolding every
any_order_of_run Permᴰ.nil h = (refl, reordered_refl)
any_order_of_run (Permᴰ.cons {a = a} {b = b} {l₁ = k} {l₂ = l} e p) h =
    let i = (and-eq-true_iff (is_set a) (every is_set k)).0 h in
    let w = any_order_of_run p i.1 in
    (rw (← e, i.0) w.0, λ cs. subst (λ (x : Call). Reordered (a ∷ k ++ cs) (x ∷ l ++ cs)) e (same (w.1 cs)))
any_order_of_run (Permᴰ.swap {a = a} {b = b} {a' = a'} {b' = b'} {l = l} e d) h =
    let i = (and-eq-true_iff (is_set a) (is_set b && every is_set l)).0 h in
    let j = (and-eq-true_iff (is_set b) (every is_set l)).0 i.1 in
    (rw (← e, ← d, i.0, j.0) j.1, λ cs. subst (λ (x : Call). Reordered (a ∷ b ∷ l ++ cs) (a' ∷ x ∷ l ++ cs)) e (subst (λ (x : Call). Reordered (a ∷ b ∷ l ++ cs) (x ∷ a ∷ l ++ cs)) d (two-sets a b (l ++ cs) i.0 j.0)))
any_order_of_run (Permᴰ.trans p q) h =
    let v = any_order_of_run p h in
    let w = any_order_of_run q v.0 in
    (w.0, λ cs. then (v.1 cs) (w.1 cs))

-- one call has one order
perm_length : {r q : List Call} → Permᴰ r q → length r ≡ length q
perm_length Permᴰ.nil = refl
perm_length (Permᴰ.cons e p) = ap suc (perm_length p)
perm_length (Permᴰ.swap e d) = refl
perm_length (Permᴰ.trans p q) = perm_length p ∙ perm_length q

empty : (r : List Call) → length r ≡ 0 → r ≡ []
empty [] h = refl
empty (c ∷ r) h = absurd (omega arith)

alone : {r q : List Call} → Permᴰ r q → length r ≡ 1 → r ≡ q
alone Permᴰ.nil h = absurd (omega arith)
alone (Permᴰ.cons {a = a} {b = b} {l₁ = k} {l₂ = l} e p) h = rw (e, empty k (omega arith), empty l (omega (arith, perm_length p))) refl
alone (Permᴰ.swap e d) h = absurd (omega arith)
alone (Permᴰ.trans p q) h = alone p h ∙ alone q (omega (arith, perm_length p))

-- what a list is cut into: runs of set calls, and calls alone
abbrev Part : List Call → Type 0
Part r = Sets r ⊎ (length r ≡ 1)

abbrev Cut : List (List Call) → Type 0
Cut [] = ⊥
Cut (r ∷ rs) = Sets r × All Part rs

cut_parts : (rs : List (List Call)) → Cut rs → All Part rs
cut_parts [] c = absurd c
cut_parts (r ∷ rs) c = (inl c.0, c.1)

cut_onto : (ri oi : ℕ) (e : _) (rs : List (List Call)) → Cut rs → Cut (onto_first (set_call ri oi e) rs)
unfolding onto_first every is_set
cut_onto ri oi e [] c = absurd c
cut_onto ri oi e (r ∷ rs) c = c

cut_runs : (cs : List Call) → Cut (runs cs)
unfolding runs every
cut_runs [] = (refl, tt)
cut_runs (set_call ri oi e ∷ cs) = cut_onto ri oi e (runs cs) (cut_runs cs)
cut_runs (settle_call ri ∷ cs) = (refl, (inr refl, cut_parts (runs cs) (cut_runs cs)))
cut_runs (write_call t out ∷ cs) = (refl, (inr refl, cut_parts (runs cs) (cut_runs cs)))

joined : List (List Call) → List Call
joined [] = []
joined (r ∷ rs) = r ++ joined rs

joined_onto : (c : Call) (rs : List (List Call)) → joined (onto_first c rs) ≡ c ∷ joined rs
unfolding onto_first joined
joined_onto c [] = refl
joined_onto c (r ∷ rs) = refl

joined-runs : (cs : List Call) → joined (runs cs) ≡ cs
unfolding runs joined
joined-runs [] = refl
joined-runs (set_call ri oi e ∷ cs) = joined_onto (set_call ri oi e) (runs cs) ∙ ap (λ (x : List Call). set_call ri oi e ∷ x) (joined-runs cs)
joined-runs (settle_call ri ∷ cs) = ap (λ (x : List Call). settle_call ri ∷ x) (joined-runs cs)
joined-runs (write_call t out ∷ cs) = ap (λ (x : List Call). write_call t out ∷ x) (joined-runs cs)

part_reordered : {r q : List Call} → Permᴰ r q → Part r → {cs ds : List Call} → Reordered cs ds → Reordered (r ++ cs) (q ++ ds)
part_reordered {r} {q} p (inl h) {cs} {ds} d = then ((any_order_of_run p h).1 cs) (behind q d)
part_reordered {r} {q} p (inr h) {cs} {ds} d = subst (λ (x : List Call). Reordered (x ++ cs) (q ++ ds)) (sym (alone p h)) (behind q d)

parts_reordered : {rs qs : List (List Call)} → Permuted rs qs → All Part rs → Reordered (joined rs) (joined qs)
unfolding joined
parts_reordered none a = nothing
parts_reordered (more p ps) a = part_reordered p a.0 (parts_reordered ps a.1)

reordered_runs : (cs ds : List Call) → Permuted (runs cs) (runs ds) → Reordered cs ds
reordered_runs cs ds p =
    subst (λ (x : List Call). Reordered x ds) (joined-runs cs)
    (subst (λ (x : List Call). Reordered (joined (runs cs)) x) (joined-runs ds) (parts_reordered p (cut_parts (runs cs) (cut_runs cs))))

pub within-runs : WithinRuns
within-runs cs ds = (permuted_runs, reordered_runs cs ds)
