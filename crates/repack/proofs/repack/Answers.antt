use mathlib.Core.Path.{sym}
use Rattle.std.proofs.lemmas.Result.{err_from_is_err_and}
use Rattle.refusals.proofs.Numbers.{numbered}
use Rattle.repack.proofs.Outcome.{opened, shut, repack_refused}
use Rattle.repack.proofs.repack.Goals as goal

pub returns-in_err-t : goal.returns-in_err-t
returns-in_err-t c =
    let p = err_from_is_err_and c.from_residual.result c.from_residual.ensures.1 in
    rw (p.1, p.2) (sym (repack_refused c.args.file.now c.args.output.now _ (shut c.args.file.now _ c.in_err-t.ensures) (numbered _)))

pub repack_table-requires : goal.repack_table-requires
repack_table-requires c = opened c.args.file.now _ c.in_ok-t.ensures
