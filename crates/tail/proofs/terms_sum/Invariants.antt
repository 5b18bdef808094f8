use mathlib.Core.Path.{◌≡◌}
use Prim.Native.Nat.{◌+◌, ◌-◌, ◌*◌}
use lib.Ieee.{binary64, of_bits}
use Rattle.table.specs.Bytes.{items}
use Rattle.table.specs.Tail.{term_of}
use Rattle.tail.specs.Rule.{sum_from}
use Rattle.tail.proofs.terms_sum.Given as goal

abbrev pub invariant-loop-i : goal.invariant-loop-i
invariant-loop-i l =
    sum_from l.r l.sum (items term_of 20 l.file (l.terms.start + l.i * 20) (l.terms.count - l.i))
    ≡ sum_from l.r (of_bits binary64 0x8000_0000_0000_0000) (items term_of 20 l.file l.terms.start l.terms.count)
