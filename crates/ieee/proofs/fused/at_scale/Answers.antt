use Rattle.std.proofs.Common.{ℕ, ◌-◌, ◌*◌, ◌^◌, ◌<◌, sym, refl, subst, arith, pow_pos, rules}
use lib.Ieee.{binary64}
use Rattle.ieee.specs.Internal.{wide, Addable}
use Rattle.ieee.proofs.Sums.{addable, high_word}
use Rattle.ieee.proofs.Terms.{joined}
use Rattle.ieee.proofs.fused.at_scale.Goals as goal
use Rattle.ieee.proofs.fused.at_scale.Goals.{Start}

low-b : (c : Start) → c.args.b.w.lo < 2 ^ 64
low-b c = search rules

pub returns : goal.returns
returns c =
    let ah = c.args.a.w.hi in
    let al = c.args.a.w.lo in
    let bh = c.args.b.w.hi in
    let bl = c.args.b.w.lo in
    let d = c.args.a.t - c.args.b.t in
    record {
      exact = wide bh bl;
      scale = 2 ^ d;
      some = pow_pos d;
      fine = subst (λ (x : ℕ). Addable (wide ah al) x (wide bh bl) (2 ^ d)) (sym c.jam.ensures) (addable ah al bh bl d c.requires.0 (omega arith) c.requires.3 (low-b (goal.at.returns c).Start) c.requires.4);
      same = joined binary64 c.args.sa c.args.sb (wide ah al) (wide ah al * 2 ^ c.args.a.t) (wide bh bl) (wide bh bl * 2 ^ c.args.b.t) d c.args.a.t c.args.b.t 5170 refl refl (omega arith);
      first = omega arith;
      second = high_word bh bl d c.jam.result.hi c.jam.result.lo c.requires.3 (low-b (goal.at.returns c).Start) c.jam.ensures;
      places = c.requires.6;
    }
