use Rattle.std.proofs.Common.{◌^◌, ◌<◌, sym, rules}
use Rattle.mesh.specs.Lent.{lent}
use Rattle.builder.specs.BuilderLists.{word_lists}
use Rattle.builder.specs.Calls.{settle_out}
use Rattle.builder.proofs.Accepted.{count_ready, settle_is}
use Rattle.builder.proofs.settle.Goals as goal
use Rattle.builder.proofs.settle.Goals.{Start}

few : (c : Start) → c.args.b.packed < 2 ^ 64
few c = search rules

pub compared-requires : goal.compared-requires
compared-requires c =
    let a = c.args in
    count_ready a.b (lent a.mesh.now) (word_lists a.store.now a.words.now) a.ri _ (sym c.in_ok-settle_refusal.ensures)
    (rw c.level_part.ensures at c.settle_rows-t.ensures).0

pub returns : goal.returns
unfolding settle_out
returns c =
    let a = c.args in
    let told = rw c.level_part.ensures at c.settle_rows-t.ensures in
    let put = settle_is a.b (lent a.mesh.now) (word_lists a.store.now a.words.now) a.ri _ _ (few (goal.at.returns c).Start) (sym c.in_ok-settle_refusal.ensures) told in
    rw (← c.in_ok-settle_refusal.ensures, c.dropped.ensures, c.compared.ensures) put
