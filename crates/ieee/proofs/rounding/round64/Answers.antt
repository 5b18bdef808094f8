use Rattle.std.proofs.Common.{◌*◌, ◌^◌, ◌∙◌}
use lib.Ieee.{binary64}
use Rattle.ieee.proofs.Steps.{float_law}
use Rattle.ieee.proofs.rounding.round64.Goals as goal

pub returns : goal.returns
returns c =
    let s = c.before.before in
    c.signed64.ensures ∙ float_law binary64 s.args.neg (s.args.w * 2 ^ s.args.e) 4096 c.pattern_of.result c.pattern_of.ensures
