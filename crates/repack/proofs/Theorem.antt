-- What is promised of repack, proved. Assumes nothing.
use mathlib.Core.Path.{◌≡◌, refl, sym, ap, ◌∙◌}
use mathlib.Core.Bool.{Bool, true, false}
use mathlib.Core.List.{List}
use Prim.Native.Nat.{ℕ, ◌+◌}
use lib.ListN.{length, take, drop}
use lib.Seq.{take_at}
use lib.Dec.{leb, eqb, lit<}
use borrow.Author.Tests.{eqb-true, eqb-false}
use Rattle.lists.specs.Lists.{put}
use Rattle.lists.proofs.Asking.{ask_yes, first_yes}
use Rattle.table.specs.Read.{layout, table_of, row_items, ReadValues, read_values, read_out}
use Rattle.table.specs.Loose.{loose_refusal}
use Rattle.table.specs.declared.Table.{Table}
use Rattle.std.proofs.Common.{Ok}
use Rattle.repack.specs.Repack.{placed, other_offsets, repacked, repack_refusal, repack_out}
use Rattle.repack.specs.Kept.{Kept, Repacks, PackedStays}
use Rattle.repack.proofs.Outcome.{Yes, answered, repack_done}
use Rattle.repack.proofs.Accepts.{new_table, table_new, rows_new, accepted_new, unchanged}
use Rattle.repack.proofs.Readings.{readings-same, tails-same}
use Rattle.repack.proofs.Stays as Stays

module _ (f : List ℕ) (y : Yes f (table_of f (layout f))) where
  abbrev t : Table
  t = table_of f (layout f)

  kept : Kept f (repacked f t) (other_offsets (row_items f t) (placed 0 (row_items f t)))
  kept =
      let g = repacked f t in
      let new = table_new f y in
      let read : (read_out g).table ≡ new_table f y = ap (λ (v : ReadValues). v.table) (accepted_new f y) in
      record {
        accepted = accepted_new f y ∙ ap (λ (k : Table). read_values (Ok k)) (sym new);
        outside = unchanged f y;
        counted = ap (λ (k : Table). other_offsets (row_items f t) (placed 0 (row_items f t))) new ∙ rw (new, rows_new f y);
        readings = λ vertices l way q. rw read (readings-same f y vertices l way q);
        tails = λ r. rw read (tails-same f y r);
      }

-- what an accepted call was asked
accepted_by : (f out : List ℕ) (x : Bool) → eqb (repack_refusal f (table_of f (layout f)) (length out)) 0 ≡ x → (repack_out f out).answer.number ≡ 0 → repack_refusal f (table_of f (layout f)) (length out) ≡ 0
unfolding repack_out
accepted_by f out true d e = eqb-true _ 0 d
accepted_by f out false d e = absurd (eqb-false _ 0 d (rw d at e))

yes : (f out : List ℕ) → (repack_out f out).answer.number ≡ 0
    → (loose_refusal f (layout f) (table_of f (layout f)) ≡ 0) × (leb (length (repacked f (table_of f (layout f)))) (length out) ≡ true)
unfolding repack_refusal
yes f out e =
    let a = first_yes {n = loose_refusal f (layout f) (table_of f (layout f))} (accepted_by f out _ refl e) in
    (a.0, (ask_yes {q = leb (length (repacked f (table_of f (layout f)))) (length out)} (lit< tt) a.1).0)

put_front : (out g : List ℕ) → take (length g) (put out 0 g) ≡ g
unfolding put
put_front out g = take_at g (drop (0 + length g) out) (length g) refl

pub repacks : Repacks
repacks f out e =
    let a = yes f out e in
    let done = repack_done f out a.0 a.1 in
    rw (done, put_front out (repacked f (table_of f (layout f)))) (kept f (answered f (table_of f (layout f)) a.0))

pub packed-stays : PackedStays
packed-stays = Stays.packed-stays
