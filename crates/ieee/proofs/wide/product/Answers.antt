use Rattle.ieee.proofs.Words.{product_is, product_high}
use Rattle.ieee.proofs.wide.product.Goals as goal
use Rattle.ieee.proofs.wide.product.Goals.{Start}

pub returns : goal.returns
returns c =
    let p = product_is c.args.a c.args.b in
    (p, product_high c.args.a c.args.b _ _ c.requires.0 c.requires.1 p)
