use mathlib.Core.Path.{◌≡◌, refl, sym}
use native.Mathlib.Omega.{arith}
use lib.ListN.{length-set}
use Rattle.lists.proofs.Loops.{mapped_turn}
use Rattle.lists.proofs.Written.{put_nil}
use Rattle.rows.specs.Words.{word_kind, word_level, word_value, word_rows}
use Rattle.words.proofs.Zipped.{kind_fits}
use Rattle.words.proofs.put_rows.Goals as goal

pub loop-i-init : goal.loop-i-init
loop-i-init c = (refl, refl, refl, sym (put_nil _ 0), sym (put_nil _ 0), sym (put_nil _ 0))

-- place i is inside all four lists, and its word has no rest
pub bounds-words-i : goal.bounds-words-i
bounds-words-i c = omega (arith, c.requires.0)

pub overflow_cast-kinds : goal.overflow_cast-kinds
overflow_cast-kinds c =
    let l = c.before.before.before in
    omega (arith, c.word_kind.ensures, kind_fits c.args.n c.args.words.now c.loop-i.i c.requires.4 (omega arith) c.requires.0)

pub bounds-kinds-i : goal.bounds-kinds-i
bounds-kinds-i c =
    omega (arith, c.requires.1, c.loop-i.invariant.0)

pub bounds-levels-i : goal.bounds-levels-i
bounds-levels-i c =
    omega (arith, c.requires.2, c.loop-i.invariant.1)

pub bounds-values-i : goal.bounds-values-i
bounds-values-i c =
    omega (arith, c.requires.3, c.loop-i.invariant.2)

pub loop-i-preserved : goal.loop-i-preserved
loop-i-preserved c =
    let l = c.before.before.before.before.before in
    let a = c.args in
    let i = c.loop-i.i in (
      simp length-set c.loop-i.invariant.0,
      simp length-set c.loop-i.invariant.1,
      simp length-set c.loop-i.invariant.2,
      rw c.word_kind.ensures (mapped_turn word_kind a.kinds.now a.words.now c.loop-i.kinds i 0 c.loop-i.invariant.3 (omega (arith, c.requires.1)) (omega (arith, c.requires.0))),
      rw c.word_level.ensures (mapped_turn word_level a.levels.now a.words.now c.loop-i.levels i 0 c.loop-i.invariant.4 (omega (arith, c.requires.2)) (omega (arith, c.requires.0))),
      rw c.word_value.ensures (mapped_turn word_value a.values.now a.words.now c.loop-i.values i 0 c.loop-i.invariant.5 (omega (arith, c.requires.3)) (omega (arith, c.requires.0))),
    )

pub returns : goal.returns
unfolding word_rows
returns c =
    let a = c.args in
    let full : c.loop-i.i ≡ a.n = omega arith in
    rw (c.loop-i.invariant.3, c.loop-i.invariant.4, c.loop-i.invariant.5, full)

pub shape_of-kinds : goal.shape_of-kinds
shape_of-kinds c = c.loop-i.invariant.0

pub shape_of-levels : goal.shape_of-levels
shape_of-levels c = c.loop-i.invariant.1

pub shape_of-values : goal.shape_of-values
shape_of-values c = c.loop-i.invariant.2
