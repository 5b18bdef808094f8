use Rattle.std.proofs.Common.{refl, sym, ◌∙◌, arith, length-take, length-drop}
use Rattle.lists.proofs.Counting.{yes, no}
use Rattle.search.proofs.Laws.{fit_turn, fit_stop, fit_end}
use Rattle.search.proofs.faces.best_of_all.Goals as goal

pub returns-then-not-face_inside : goal.returns-then-not-face_inside
returns-then-not-face_inside c =
    let a = c.args in
    rw (c.not_located.ensures, c.number.ensures)
    (sym (fit_stop a.vertices.now a.n a.p a.near c.loop-left.left.now c.loop-left.best _ _ _ c.in-len3-up.len_at_least refl refl refl (no c.face_inside.ensures c.if-not-face_inside.true))
    ∙ c.loop-left.invariant.same)

pub loop-left-preserved : goal.loop-left-preserved
loop-left-preserved c =
    let a = c.args in record {
      whole = simp (length-take, length-drop) (omega (arith, c.loop-left.invariant.whole, c.in-len3-up.len_at_least));
      same = rw (c.better-best.ensures, c.face_of.ensures)
          (sym (fit_turn a.vertices.now a.n a.p a.near c.loop-left.left.now c.loop-left.best _ _ _ c.in-len3-up.len_at_least refl refl refl (yes c.face_inside.ensures c.if-not-face_inside.false))
          ∙ c.loop-left.invariant.same);
    }

pub returns : goal.returns
returns c =
    let a = c.args in
    c.fitted.ensures ∙ sym (fit_end a.vertices.now a.n a.p a.near c.loop-left.best c.loop-left.left.now c.in_default.len_below c.loop-left.invariant.whole) ∙ c.loop-left.invariant.same
