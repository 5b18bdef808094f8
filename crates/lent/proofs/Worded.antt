-- Rows that a list of n words without a rest stands for: every call, accepted or refused, leaves such rows. Assumes nothing.
use mathlib.Core.Path.{◌≡◌, sym, ap, subst, ◌∙◌}
use mathlib.Core.Bool.{Bool, true, false, cond}
use mathlib.Core.List.{List, [], ◌∷◌, ◌++◌, map}
use mathlib.Core.Option.{Option, none, some}
use Prim.Native.Nat.{ℕ, zero, suc, ◌+◌, ◌≤◌}
use native.Mathlib.Omega.{arith}
use lib.ListN.{length, set, replicate, drop, length-set, length-replicate}
use lib.Seq.{get_or-drop}
use lib.Dec.{eqb}
use lib.Ieee.{Float, binary32, binary64, of_bits, div, lt}
use lib.Ieee.Bits.{to_bits-lt}
use borrow.Author.Tests.{eqb-true}
use Rattle.lists.specs.Lists.{put}
use Rattle.lists.proofs.Asking.{first_yes}
use Rattle.lists.proofs.Counting.{chosen}
use Rattle.lists.proofs.Written.{length-put}
use Rattle.ieee.proofs.Fields.{narrowed_fits}
use Rattle.mesh.specs.Levels.{per}
use Rattle.mesh.specs.Mesh.{Mesh}
use Rattle.grid.specs.declared.Grid.{Grid}
use Rattle.rows.specs.declared.SlabResolution.{SlabResolution}
use Rattle.rows.specs.declared.SlabResolution.TheVariants.{Scalar, Mesh as OnMesh, Repulsive}
use Rattle.rows.specs.Rows.{Rows, Row, scalar, repulsive, mesh, kind_of, level_of, value_of, replaced}
use Rattle.rows.specs.Words.{word_of, word_kind, word_rows}
use Rattle.rows.proofs.InWords.{word_kind_lem, kinds_long, replaced_in}
use Rattle.settling.specs.Gradient.{all_repulsive, gradient, mean_narrowed}
use Rattle.settling.specs.Settling.{verdict, by_gradient, verdict_of, verdicts, new_row, replaced_by}
use Rattle.settling.specs.declared.Verdict.{Verdict}
use Rattle.settling.specs.declared.Verdict.TheVariants.{Blocked as blocked, Isotropic as isotropic, Smooth as smooth, Rough as rough}
use Rattle.builder.specs.BuilderLists.{BuilderLists, slabs, slab, slice_at}
use Rattle.builder.specs.Refusals.{meshed_refusal, set_refusal, settle_refusal}
use Rattle.builder.specs.declared.Builder.{Builder}
use Rattle.builder.proofs.Laws.{asked, meshed, filled_words}
use Rattle.builder.specs.Calls.{BuiltOut, SettleOut, fresh_builder, filled_slabs, fresh_out, slab_set, set_out, settled_lists, settle_accepted, settle_out}
use Rattle.writer.specs.Write.{WriteOut}
use Rattle.writer.specs.Tailed.{TailLists, write_tail_refusal, write_tail_out}
use Rattle.lent.proofs.Columns.{Clear}

pub record Worded (n : ℕ) (r : Rows) : Type 0 where
  pub words : List ℕ
  pub long : length words ≡ n
  pub clear : Clear words
  pub stand : r ≡ word_rows words

-- the numbers of a row fit in a word
abbrev Fits : Option SlabResolution → Type 0
Fits none = Unit {0}
Fits (some x) = (level_of x ≤ 255) × (value_of x ≤ 4294967295)

set_clear : (ws : List ℕ) (s v : ℕ) → word_kind v ≤ 255 → Clear ws → Clear (set ws s v)
set_clear [] s v e h t = h t
set_clear (w ∷ ws) zero v e h zero = e
set_clear (w ∷ ws) zero v e h (suc t) = h (suc t)
set_clear (w ∷ ws) (suc s) v e h zero = h zero
set_clear (w ∷ ws) (suc s) v e h (suc t) = set_clear ws s v e (λ i. h (suc i)) t

kind_few : (x : SlabResolution) → kind_of x ≤ 255
kind_few (Scalar x) = omega arith
kind_few (OnMesh v true) = omega arith
kind_few (OnMesh v false) = omega arith
kind_few Repulsive = omega arith

zeros_clear : (n : ℕ) (ws : List ℕ) → Clear ws → Clear (replicate n 0 ++ ws)
unfolding word_kind
zeros_clear zero ws h t = h t
zeros_clear (suc n) ws h zero = omega arith
zeros_clear (suc n) ws h (suc t) = zeros_clear n ws h t

filled_clear : (n : ℕ) (ws : List ℕ) → Clear ws → Clear (put ws 0 (replicate n 0))
unfolding put
filled_clear n ws h =
    let k = 0 + length (replicate {A = ℕ} n 0) in
    zeros_clear n (drop k ws) (λ s. subst (λ (w : ℕ). word_kind w ≤ 255) (sym (get_or-drop k ws s 0)) (h (k + s)))

-- ---- every call leaves such rows

-- what settling makes of a row fits: its level is the builder's, its scalar narrowed
value_few : (e : List Float) → value_of (Scalar (mean_narrowed e)) ≤ 4294967295
unfolding mean_narrowed
value_few e = omega (arith, to_bits-lt binary32 (mean_narrowed e) (narrowed_fits _))

gradient_fits : (c : ℕ) → c ≤ 255 → (e : List Float) (x : Float) (p q : Bool) → Fits (new_row c (cond p (isotropic (mean_narrowed e)) (cond q (smooth x) (rough x))))
gradient_fits c h e x true q = (omega arith, value_few e)
gradient_fits c h e x false true = (h, omega arith)
gradient_fits c h e x false false = tt

verdict_fits : (c : ℕ) → c ≤ 255 → (threshold beta : Float) (m : Mesh) (k : ℕ) (x : Row Float) → Fits (new_row c (verdict_of threshold beta m k x))
unfolding verdict by_gradient
verdict_fits c h threshold beta m k (scalar x) = tt
verdict_fits c h threshold beta m k repulsive = tt
verdict_fits c h threshold beta m k (mesh v b e) =
    let x = gradient m k beta e in
    chosen (λ (v : Verdict). Fits (new_row c v)) (all_repulsive beta e) blocked (by_gradient threshold e x) (λ _. (omega arith, omega arith))
    (gradient_fits c h e x (lt x (div binary64 threshold (of_bits binary64 0x4024_0000_0000_0000))) (lt x threshold))

module _ {n : ℕ} where
  replaced_worded : {r : Rows} (s : ℕ) (x : Option SlabResolution) → Fits x → Worded n r → Worded n (replaced_by r s x)
  replaced_worded s none f h = h
  replaced_worded s (some x) f h =
      let w = word_of (kind_of x) (level_of x) (value_of x) in
      let few : word_kind w ≤ 255 = subst (λ (k : ℕ). k ≤ 255) (sym (word_kind_lem (kind_of x) (level_of x) (value_of x) f.0 f.1)) (kind_few x) in
      record {
        words = set h.words s w;
        long = length-set h.words s w ∙ h.long;
        clear = set_clear h.words s w few h.clear;
        stand = ap (λ (r : Rows). replaced r s x) h.stand ∙ sym (replaced_in h.words s x f.0 f.1);
      }

  pub set_worded : (b : Builder) (l : BuilderLists) (ri oi : ℕ) (e : List Float) → Worded n l.rows → Worded n (set_out b l ri oi e).lists.rows
  unfolding set_out slab_set set_refusal
  set_worded b l ri oi e h =
      chosen (λ (o : BuiltOut). Worded n o.lists.rows) (eqb (set_refusal b l ri oi e) 0) _ _
      (λ q. let a = asked b.grid b.top b.level (first_yes (eqb-true (set_refusal b l ri oi e) 0 q)).0 in
      replaced_worded (slab b.grid ri oi) (some (OnMesh b.level true)) (omega (arith, a.top_le, a.level_le), omega arith) h) h

  settled_worded : (c : ℕ) (f : Row Float → Verdict) → ((x : Row Float) → Fits (new_row c (f x))) → {r : Rows} (s : ℕ) (xs : List (Row Float)) → Worded n r → Worded n (settled_lists c r s (map f xs))
  unfolding settled_lists
  settled_worded c f each {r = r} s [] h = h
  settled_worded c f each {r = r} s (x ∷ xs) h =
      settled_worded c f each {r = replaced_by r s (new_row c (f x))} (suc s) xs (replaced_worded s (new_row c (f x)) (each x) h)

  pub settle_worded : (b : Builder) (m : Mesh) (l : BuilderLists) (ri : ℕ) → Worded n l.rows → Worded n (settle_out b m l ri).lists.rows
  unfolding settle_out settle_accepted settle_refusal meshed_refusal verdicts
  settle_worded b m l ri h =
      chosen (λ (o : SettleOut). Worded n o.lists.rows) (eqb (settle_refusal b m l ri) 0) _ _
      (λ q. let a = asked b.grid b.top b.level (first_yes (first_yes (eqb-true (settle_refusal b m l ri) 0 q)).0).0 in
      settled_worded b.level _ (verdict_fits b.level (omega (arith, a.top_le, a.level_le)) _ _ _ _) _ (slice_at b l ri) h) h

  pub write_worded : (b : Builder) (m : Mesh) (l : BuilderLists) (t : TailLists) (out : List ℕ) → Worded n l.rows → Worded n (write_tail_out b m l t out).lists.rows
  unfolding write_tail_out
  write_worded b m l t out h = chosen (λ (o : WriteOut). Worded n o.lists.rows) (eqb (write_tail_refusal b m l t (length out)) 0) _ _ (λ _. h) h

  pub fresh_worded : (g : Grid) (top : ℕ) (m : Mesh) (l : BuilderLists) → Worded n l.rows → Worded n (fresh_out g top m l).lists.rows
  unfolding fresh_out meshed_refusal
  fresh_worded g top m l h =
      let b = fresh_builder g top in
      let c = slabs b.grid in
      let ws = h.words in
      let z = per b.top in
      chosen (λ (o : BuiltOut). Worded n o.lists.rows) (eqb (meshed_refusal b m l) 0) _ _
      (λ e. let r = (meshed b m (length l.store) (length l.rows.kinds) (length l.rows.levels) (length l.rows.values) (eqb-true _ 0 e)).room in
      let room : c ≤ length ws = subst (λ (k : ℕ). c ≤ k) (ap (λ (r : Rows). length r.kinds) h.stand ∙ kinds_long ws) r.kinds_le in
      record {
        words = put ws 0 (replicate c 0);
        long = length-put ws 0 (replicate c 0) (omega (arith, length-replicate {A = ℕ} c 0, room)) ∙ h.long;
        clear = filled_clear c ws h.clear;
        stand = ap (λ (r : Rows). (filled_slabs c z (record { store = l.store; rows = r })).rows) h.stand ∙ sym (ap (λ (k : BuilderLists). k.rows) (filled_words c z l.store ws));
      }) h
