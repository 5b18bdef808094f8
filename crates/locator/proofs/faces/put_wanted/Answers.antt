use mathlib.Core.Path.{refl, sym}
use native.Mathlib.Omega.{arith}
use Rattle.lists.proofs.Written.{put_nil}
use Rattle.lists.proofs.Counting.{yes, no}
use Rattle.search.specs.Cells.{flat}
use Rattle.locator.proofs.faces.put_wanted.Goals as goal

pub returns-then-not-wanted : goal.returns-then-not-wanted
unfolding flat
returns-then-not-wanted c = rw (no c.wanted.ensures c.if-not-wanted.true) (omega arith, sym (put_nil _ _))

pub returns : goal.returns
unfolding flat
returns c = rw (yes c.wanted.ensures c.if-not-wanted.false) (refl, c.put_face.ensures)
