use Rattle.writer.proofs.OfTail.{term-put}
use Rattle.writer.proofs.tail.put_term.Goals as goal

pub returns : goal.returns
returns c =
    rw (c.put_u32.ensures, c.put_f64-2.ensures, c.put_f64.ensures)
    (term-put c.args.out.now c.args.at (record { coefficient = c.args.coefficient; kappa = c.args.kappa; power = c.args.power }) c.requires)
