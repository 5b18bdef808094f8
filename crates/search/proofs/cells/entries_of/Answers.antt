use Rattle.std.proofs.Common.{rules}
use Rattle.search.proofs.Laws.{entries_got}
use Rattle.search.proofs.cells.entries_of.Goals as goal

pub returns : goal.returns
returns c =
    let a = c.args in
    entries_got a.w a.offsets.now a.entries.now a.i _ _ c.requires.0 (search rules) (search rules) (search rules) c.if-start-end.false c.get-3.result c.get-3.ensures.lookup
