use mathlib.Core.Path.{◌≡◌, sym, ap, ◌∙◌}
use Rattle.search.specs.Geometry.{projected_barycentric}
use Rattle.search.proofs.Regions.{regions, by_regions}
use Rattle.search.proofs.triangle.projected_barycentric.Goals as goal
use Rattle.search.proofs.triangle.projected_barycentric.Goals.{After-sides_of-s}

-- what is to be shown, over the dot products that the code holds
over-sides : (c : After-sides_of-s) → projected_barycentric c.args.p c.args.a c.args.b c.args.c ≡ regions c.sides_of-s.result
over-sides c = by_regions c.args.p c.args.a c.args.b c.args.c ∙ ap regions (sym c.sides_of-s.ensures)

pub returns-then-d1-d2 : goal.returns-then-d1-d2
returns-then-d1-d2 c = rw (c.weighed.ensures, over-sides (goal.at.returns-then-d1-d2 c).After-sides_of-s, c.if-d1-d2.true)

pub returns-then-d3-d4 : goal.returns-then-d3-d4
returns-then-d3-d4 c = rw (c.weighed-then-d3-d4.ensures, over-sides (goal.at.returns-then-d3-d4 c).After-sides_of-s, c.if-d1-d2.false, c.if-d3-d4.true)

pub returns-then-not_above : goal.returns-then-not_above
returns-then-not_above c =
    rw (c.weighed-then-not_above.ensures, over-sides (goal.at.returns-then-not_above c).After-sides_of-s, c.if-d1-d2.false, c.if-d3-d4.false, ← c.not_above.ensures, c.if-not_above.true)

pub returns-then-d6-d5 : goal.returns-then-d6-d5
returns-then-d6-d5 c =
    rw (c.weighed-then-d6-d5.ensures, over-sides (goal.at.returns-then-d6-d5 c).After-sides_of-s, c.if-d1-d2.false, c.if-d3-d4.false, ← c.not_above.ensures, c.if-not_above.false, c.if-d6-d5.true)

pub returns-then-not_above-2 : goal.returns-then-not_above-2
returns-then-not_above-2 c =
    rw (c.weighed-then-not_above-2.ensures, over-sides (goal.at.returns-then-not_above-2 c).After-sides_of-s, c.if-d1-d2.false, c.if-d3-d4.false, ← c.not_above.ensures, c.if-not_above.false, c.if-d6-d5.false, ← c.not_above-2.ensures, c.if-not_above-2.true)

pub returns-then-not_above-3 : goal.returns-then-not_above-3
returns-then-not_above-3 c =
    rw (c.weighed-then-not_above-3.ensures, over-sides (goal.at.returns-then-not_above-3 c).After-sides_of-s, c.if-d1-d2.false, c.if-d3-d4.false, ← c.not_above.ensures, c.if-not_above.false, c.if-d6-d5.false, ← c.not_above-2.ensures, c.if-not_above-2.false, ← c.not_above-3.ensures, c.if-not_above-3.true)

pub returns : goal.returns
returns c =
    rw (c.in_face.ensures, over-sides (goal.at.returns c).After-sides_of-s, c.if-d1-d2.false, c.if-d3-d4.false, ← c.not_above.ensures, c.if-not_above.false, c.if-d6-d5.false, ← c.not_above-2.ensures, c.if-not_above-2.false, ← c.not_above-3.ensures, c.if-not_above-3.false, c.mul_add-vc.ensures, c.mul_add-vb.ensures, c.mul_add-va.ensures)
