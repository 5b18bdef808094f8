use Rattle.std.proofs.Common.{◌≡◌, ℕ, ◌+◌, ◌-◌, ◌^◌, ◌≤◌, cond, sym, ap, ◌∙◌, subst}
use Rattle.ieee.specs.Internal.{wide}
use Rattle.ieee.proofs.Words.{picked-wide, picked_lt, picked_le, picked-size}
use Rattle.ieee.proofs.wide.joined.Goals as goal
use Rattle.ieee.proofs.wide.joined.Goals.{Start, After-pick, After-pick-2}

abbrev A : (c : Start) → ℕ
A c = wide c.args.a.hi c.args.a.lo

abbrev B : (c : Start) → ℕ
B c = wide c.args.b.hi c.args.b.lo

larger : (c : After-pick) → wide c.pick.result.hi c.pick.result.lo ≡ cond c.args.under (B c.before) (A c.before)
larger c =
    let s = c.args in
    picked-wide s.under s.b.hi s.b.lo s.a.hi s.a.lo c.pick.result.hi c.pick.result.lo c.pick.ensures.0 c.pick.ensures.1

smaller : (c : After-pick-2) → wide c.pick-2.result.hi c.pick-2.result.lo ≡ cond c.args.under (A c.before.before) (B c.before.before)
smaller c =
    let s = c.args in
    picked-wide s.under s.a.hi s.a.lo s.b.hi s.b.lo c.pick-2.result.hi c.pick-2.result.lo c.pick-2.ensures.0 c.pick-2.ensures.1

pub combined-requires : goal.combined-requires
combined-requires c =
    let p = c.before in
    let s = p.before in
    let u = s.args.under in (
      picked_lt u s.args.b.hi s.args.a.hi p.pick.result.hi (2 ^ 63) p.pick.ensures.0 s.requires.1 s.requires.0,
      picked_lt u s.args.a.hi s.args.b.hi c.pick-2.result.hi (2 ^ 63) c.pick-2.ensures.0 s.requires.0 s.requires.1,
      subst (λ (x : ℕ). x ≤ wide p.pick.result.hi p.pick.result.lo) (sym (smaller c)) (subst (λ (x : ℕ). cond u (A s) (B s) ≤ x) (sym (larger p)) (picked_le u (A s) (B s) s.requires.2)),
    )

pub returns : goal.returns
returns c =
    let q = c.before in
    let p = q.before in
    let s = p.before in
    let like = s.args.like in
    c.combined.ensures
    ∙ ap (λ (x : ℕ). cond like (x + wide q.pick-2.result.hi q.pick-2.result.lo) (x - wide q.pick-2.result.hi q.pick-2.result.lo)) (larger p)
    ∙ ap (λ (x : ℕ). cond like (cond s.args.under (B s) (A s) + x) (cond s.args.under (B s) (A s) - x)) (smaller q)
    ∙ picked-size like s.args.under (A s) (B s)
