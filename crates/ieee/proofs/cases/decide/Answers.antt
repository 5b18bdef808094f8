use Rattle.ieee.specs.Internal.{named}
use Rattle.ieee.proofs.Halves.{within_finite, decided}
use Rattle.ieee.proofs.cases.decide.Goals as goal

pub unpack-p-requires : goal.unpack-p-requires
unpack-p-requires c = within_finite c.args.x c.requires

pub returns : goal.returns
returns c =
    decided c.args.x c.unpack-p.result.neg c.unpack-p.result.sig c.unpack-p.result.exp c.cut_off-c.result.pattern (named c.cut_off-c.result.part) c.unpack-p.ensures c.cut_off-c.ensures c.requires
