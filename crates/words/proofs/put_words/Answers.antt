use mathlib.Core.Path.{◌≡◌, refl, ◌∙◌}
use native.Mathlib.Omega.{arith}
use lib.ListN.{length-set}
use lib.Seq.{paste-zero}
use Rattle.words.specs.Moves.{words_of}
use Rattle.words.proofs.Zipped.{words_turn, words_end}
use Rattle.words.proofs.put_words.Goals as goal

pub loop-i-init : goal.loop-i-init
loop-i-init c =
    let a = c.args in
    (refl, paste-zero a.words.now 0 (words_of a.kinds.now a.levels.now a.values.now))

-- place i is inside all four lists
pub bounds-kinds-i : goal.bounds-kinds-i
bounds-kinds-i c = omega (arith, c.requires.0)

pub bounds-levels-i : goal.bounds-levels-i
bounds-levels-i c = omega (arith, c.requires.1)

pub bounds-values-i : goal.bounds-values-i
bounds-values-i c = omega (arith, c.requires.2)

pub bounds-words-i : goal.bounds-words-i
bounds-words-i c =
    omega (arith, c.requires.3, c.loop-i.invariant.0)

pub loop-i-preserved : goal.loop-i-preserved
loop-i-preserved c =
    let l = c.before.before.before.before.before in
    let a = c.args in (
      simp length-set c.loop-i.invariant.0,
      rw c.word_of.ensures
          (words_turn a.kinds.now a.levels.now a.values.now a.words.now c.loop-i.words c.loop-i.i c.loop-i.invariant.1
          (omega (arith, c.requires.3)) (omega (arith, c.requires.0)) (omega (arith, c.requires.1)) (omega (arith, c.requires.2))),
    )

pub returns : goal.returns
returns c =
    let l = c.before in
    let a = c.args in
    let full : c.loop-i.i ≡ a.n = omega arith in
    c.loop-i.invariant.1 ∙ rw full (words_end a.kinds.now a.levels.now a.values.now a.words.now a.n c.requires.0 c.requires.1 c.requires.2)

pub shape_of-words : goal.shape_of-words
shape_of-words c = c.loop-i.invariant.0
