use mathlib.Core.Path.{◌≡◌, sym, ap}
use mathlib.Core.Bool.{Bool, ◌&&◌}
use mathlib.Core.Logic.{⊎_elim}
use Prim.Native.Nat.{◌+◌, ◌-◌, ◌*◌, ◌/◌}
use native.Mathlib.Omega.{arith}
use lib.Dec.{leb}
use borrow.Author.Tests.{le-leb, lt-leb}
use Rattle.ieee.proofs.Pack.{le_or_lt}
use Rattle.lists.proofs.Counting.{and_no}
use Rattle.span.proofs.questions.energies_inside.Goals as goal

pub returns-then-length-energies : goal.returns-then-length-energies
returns-then-length-energies c =
    let a = c.args in
    sym (and_no (leb (a.offset + a.n) a.energies.count) _ (lt-leb (a.energies.start + (a.offset + a.n) * 4) a.length (omega (arith, c.if-length-energies.true))))

pub returns : goal.returns
returns c =
    let a = c.args in
    let e = a.offset + a.n in
    let same : leb e ((a.length - a.energies.start) / 4) ≡ leb (a.energies.start + e * 4) a.length =
    ⊎_elim
    (λ h. rw (le-leb e ((a.length - a.energies.start) / 4) (omega (arith, c.if-length-energies.false, h)), le-leb (a.energies.start + e * 4) a.length h))
    (λ h. rw (lt-leb e ((a.length - a.energies.start) / 4) (omega (arith, c.if-length-energies.false, h)), lt-leb (a.energies.start + e * 4) a.length h))
    (le_or_lt (a.energies.start + e * 4) a.length) in
    ap (λ (x : Bool). leb e a.energies.count && x) same
