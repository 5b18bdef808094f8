use mathlib.Core.Path.{◌≡◌, refl, ◌∙◌}
use native.Mathlib.Omega.{arith}
use lib.ListN.{length, length-set}
use lib.Seq.{paste-zero}
use lib.Ieee.{nan}
use borrow.Author.Rules.{rules}
use Rattle.lists.proofs.Loops.{copy_turn, copy_all}
use Rattle.builder.proofs.copies.copy_at.Goals as goal

pub loop-j-init : goal.loop-j-init
loop-j-init c = (search rules, refl, paste-zero c.args.dst.now c.args.at c.args.src.now)

pub loop-j-preserved : goal.loop-j-preserved
loop-j-preserved c =
    let a = c.args in
    (omega arith, simp length-set c.loop-j.invariant.1, copy_turn a.dst.now a.at a.src.now c.loop-j.dst c.loop-j.j nan c.loop-j.invariant.2 (omega arith) (omega arith))

pub returns : goal.returns
returns c =
    let a = c.args in
    let full : c.loop-j.j ≡ length a.src.now = omega arith in
    c.loop-j.invariant.2 ∙ rw full (copy_all a.dst.now a.at a.src.now)
