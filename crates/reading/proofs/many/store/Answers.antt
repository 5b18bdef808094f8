use Prim.Native.Nat.{◌*◌}
use Rattle.reading.proofs.Stored.{set-put, three-put}
use Rattle.reading.proofs.many.store.Goals as goal
use Rattle.reading.proofs.many.store.Goals.{in-Ok, in-Err}

pub returns : goal.returns
returns c =
    let a = c.args in
    elim c.match-answer.branch [
      | in-Ok w ↦ rw (w.number-is, w.in-Ok.is) (set-put a.numbers.now a.i _ c.requires.0, three-put a.answers.now (a.i * 3) _ _ _ c.requires.1)
      | in-Err w ↦ rw (w.number-is, w.in-Err.is, w.plain.ensures, w.number.ensures) (set-put a.numbers.now a.i _ c.requires.0, three-put a.answers.now (a.i * 3) _ _ _ c.requires.1)
    ]
