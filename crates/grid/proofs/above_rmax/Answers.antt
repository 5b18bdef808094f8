use denote.Floats.{passes}
use Rattle.grid.proofs.Short.{not_above}
use Rattle.grid.proofs.above_rmax.Goals as goal

pub returns-then-n-dr : goal.returns-then-n-dr
returns-then-n-dr c =
    let a = c.args in
    not_above a.n a.r a.dr a.rmin c.of_u64-m.result c.is_finite.result (passes _ c.well_formed.1.1.0.1) (passes _ c.well_formed.1.1.1.0.1) c.if-n-lt4294967296.true c.of_u64-m.ensures c.is_finite.ensures c.if-n-dr.true

pub returns : goal.returns
returns c = rw c.table_rmax.ensures
