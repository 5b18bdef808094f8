use Rattle.std.proofs.Common.{◌≡◌, ◌&&◌, ◌+◌, ◌-◌, refl, sym, ◌∙◌, arith, length, get_or, take, drop, length-take, length-drop, ltb}
use Rattle.search.specs.Internal.{inside}
use Rattle.search.proofs.Nearness.{below_limit}
use Rattle.search.proofs.Sifting.{sift_turn, sift_stop, sift_end}
use Rattle.search.proofs.faces.sift.Goals as goal
use Rattle.search.proofs.faces.sift.Goals.{After-from-in-len3-up-2}

-- the tests of the three vertices
tests : (c : After-from-in-len3-up-2)
    → (let vs = c.args.vertices.now in let n = c.args.limit in let l = c.loop-left.left.now in
    (inside n (length vs) (get_or l 0 0) && (inside n (length vs) (get_or l 1 0) && inside n (length vs) (get_or l 2 0)))
    ≡ (ltb c.from.result n && (ltb c.from-in-len3-up.result n && ltb c.from-in-len3-up-2.result n)))
tests c =
    let vs = c.args.vertices.now in
    let n = c.args.limit in
    let l = c.loop-left.left.now in
    let h = c.requires.1 in
    rw (c.from.ensures, c.from-in-len3-up.ensures, c.from-in-len3-up-2.ensures, below_limit vs n (get_or l 0 0) h, below_limit vs n (get_or l 1 0) h, below_limit vs n (get_or l 2 0) h)

pub returns-then-not-from-limit : goal.returns-then-not-from-limit
returns-then-not-from-limit c =
    let a = c.args in
    sym (sift_stop a.vertices.now a.limit a.p c.loop-left.left.now c.loop-left.w _ _ _ _ c.in-len3-up.len_at_least refl refl refl (tests (goal.at.returns-then-not-from-limit c).After-from-in-len3-up-2 ∙ c.if-not-from-limit.true))
    ∙ c.loop-left.invariant.same

pub loop-left-preserved : goal.loop-left-preserved
loop-left-preserved c =
    let a = c.args in
    let l = c.loop-left.left.now in
    let k = c.in-len3-up.len_at_least in
    let m = c.loop-left.invariant.within in
    let rest : length (take (length l - 3) (drop 3 l)) ≡ length l - 3 = simp (length-take, length-drop) (omega (arith, k)) in
    let place : length a.faces.now - (length l - 3) ≡ length a.faces.now - length l + 3 = omega (arith, k, m) in record {
      within = rw rest (omega (arith, k, m));
      whole = rw rest (omega (arith, c.loop-left.invariant.whole, k));
      same = rw (rest, place, c.sifted-w.ensures, c.face_of.ensures)
          (sym (sift_turn a.vertices.now a.limit a.p l c.loop-left.w _ _ _ _ k refl refl refl (tests (goal.at.loop-left-preserved c).After-from-in-len3-up-2 ∙ c.if-not-from-limit.false))
          ∙ c.loop-left.invariant.same);
    }

pub returns : goal.returns
returns c =
    let a = c.args in
    sym (sift_end a.vertices.now a.limit a.p _ c.loop-left.w c.loop-left.left.now c.in_default.len_below c.loop-left.invariant.whole) ∙ c.loop-left.invariant.same
