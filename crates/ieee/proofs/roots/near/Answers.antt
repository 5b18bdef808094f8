use Rattle.std.proofs.Common.{◌+◌, ◌-◌, ◌*◌, ◌^◌, ◌≤◌, ltb, leb}
use mir.Val.{bool_byte}
use Rattle.ieee.specs.Internal.{NearestRoot}
use Rattle.ieee.proofs.RootSteps.{high_le, shortfall, beside}
use Rattle.ieee.proofs.roots.near.Goals as goal
use Rattle.ieee.proofs.roots.near.Goals.{Start, After-part-p, Then-d-q}

high : (c : After-part-p) → c.part-p.result.high ≤ 2 ^ 55
high c = high_le c.seed-q.result c.part-p.result.high c.part-p.result.low c.seed-q.ensures.1 c.part-p.ensures.0

-- the seed, or one beside it
settled : (c : Then-d-q) → (let p = c.before.before.before.before.before in let q = p.seed-q.result in let w = p.args.m * (1 + p.args.odd) in
    let d = (p.part-p.result.high + 8 - w) * 2 ^ 52 + p.part-p.result.low in
    (bool_byte (leb (2 ^ 55 + 2 * q) d) ≤ q + bool_byte (ltb d (2 ^ 55))) × NearestRoot (w * 2 ^ 52) (q + bool_byte (ltb d (2 ^ 55)) - bool_byte (leb (2 ^ 55 + 2 * q) d)))
settled c =
    let p = c.before.before.before.before.before in
    let q = p.seed-q.result in
    let w = p.args.m * (1 + p.args.odd) in
    let high = p.part-p.result.high in
    let low = p.part-p.result.low in
    beside (w * 2 ^ 52) q ((high + 8 - w) * 2 ^ 52 + low) p.seed-q.ensures.0 (shortfall w q high low p.part-p.ensures.0 c.if-w-h.true) c.if-d-q-ge36028797018963968.true c.if-d-q.true

pub returns-then-d-q : goal.returns-then-d-q
returns-then-d-q c = (settled c).1
