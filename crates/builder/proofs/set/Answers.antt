use Rattle.std.proofs.Common.{◌≡◌, ◌∙◌}
use Rattle.builder.specs.BuilderLists.{word_lists, slab, row_at}
use Rattle.builder.specs.Calls.{set_builder, set_out}
use Rattle.builder.specs.Refusals.{set_refusal}
use Rattle.builder.proofs.Laws.{words_long}
use Rattle.builder.proofs.Turns.{set_builder_is}
use Rattle.builder.proofs.set.Goals as goal

pub returns : goal.returns
unfolding set_out set_refusal
returns c =
    let a = c.args in
    let l = word_lists a.store.now a.words.now in
    let at = slab a.b.grid a.ri a.oi in
    let after : c.set_builder-after.result ≡ set_builder a.b (row_at a.b.top l at) =
    c.set_builder-after.ensures ∙ rw c.resolution_in.ensures (set_builder_is a.b l at) in
    rw (words_long a.b a.store.now a.words.now, ← c.in_ok-set_refusal.ensures, ← c.per_level-z.ensures, c.set_slab.ensures, after)
