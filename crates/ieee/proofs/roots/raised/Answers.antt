use Rattle.std.proofs.Common.{◌≡◌, ℕ, ◌+◌, ◌-◌, ◌*◌, ◌%◌, ◌^◌, ◌<◌, ◌≤◌, sym, ap, ◌∙◌, subst, lt_of_lt_of_le, mod-eq_of_lt, arith, lit≤}
use lib.Count.{count_leading_zeros}
use Rattle.ieee.proofs.RootSteps.{raised_scale}
use Rattle.ieee.proofs.Steps.{Lead, lead}
use Rattle.ieee.proofs.roots.raised.Goals as goal
use Rattle.ieee.proofs.roots.raised.Goals.{Start}

up : (c : Start) → (let s = c.args.p.sig in (11 ≤ count_leading_zeros 64 s) × Lead s 11 (count_leading_zeros 64 s - 11))
up c = lead c.args.p.sig 11 c.requires.0 c.requires.1

whole : (c : Start) → (let s = c.args.p.sig in let z = count_leading_zeros 64 s - 11 in s * 2 ^ z % 2 ^ 64 ≡ s * 2 ^ z)
whole c = mod-eq_of_lt (lt_of_lt_of_le (up c).1.high (lit≤ tt))

pub overflow_sub-z : goal.overflow_sub-z
overflow_sub-z c = (up (goal.at.overflow_sub-z c).Start).0

pub returns : goal.returns
returns c =
    let sig = c.args.p.sig in
    let exp = c.args.p.exp in
    let z = count_leading_zeros 64 sig - 11 in
    let r = (up (goal.at.returns c).Start).1 in (
      subst (λ (y : ℕ). 2 ^ 52 ≤ y) (sym (whole (goal.at.returns c).Start)) r.low,
      subst (λ (y : ℕ). y < 2 ^ 53) (sym (whole (goal.at.returns c).Start)) r.high,
      omega (arith, c.requires.2),
      ap (λ (y : ℕ). y * 2 ^ (exp + 1022 - z + 54)) (whole (goal.at.returns c).Start) ∙ raised_scale sig exp z r.room,
    )
