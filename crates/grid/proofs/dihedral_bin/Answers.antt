use mathlib.Core.Path.{◌≡◌, sym, ap, ◌∙◌}
use Prim.Native.Nat.{ℕ, ◌%◌}
use native.Mathlib.Nat.{mod_self, mod-eq_of_lt}
use borrow.Author.Tests.{eq-eqb, ne_eqb}
use Rattle.grid.specs.Bins.{dihedral_bin}
use Rattle.grid.proofs.dihedral_bin.Goals as goal
use Rattle.grid.proofs.dihedral_bin.Goals.{Else-n-eq0}

-- once there are bins
turned : (c : Else-n-eq0) → (let a = c.args in c.nearest_bin-b.result % a.n ≡ dihedral_bin a.omega a.step a.n)
unfolding dihedral_bin
turned c = rw (c.nearest_bin-b.ensures, c.rem_tau.ensures, ne_eqb c.args.n 0 c.if-n-eq0.false)

pub returns-then-n-eq0 : goal.returns-then-n-eq0
unfolding dihedral_bin
returns-then-n-eq0 c = rw (eq-eqb c.args.n 0 c.if-n-eq0.true)

pub returns-then-b-n : goal.returns-then-b-n
returns-then-b-n c = sym (mod-eq_of_lt c.if-b-n.true) ∙ turned (goal.at.returns-then-b-n c).Else-n-eq0

pub returns-then-b-n-2 : goal.returns-then-b-n-2
returns-then-b-n-2 c =
    let n = c.args.n in
    sym (ap (λ (b : ℕ). b % n) c.if-b-n-2.true ∙ mod_self n) ∙ turned (goal.at.returns-then-b-n-2 c).Else-n-eq0

pub returns : goal.returns
returns c = turned (goal.at.returns c).Else-n-eq0
