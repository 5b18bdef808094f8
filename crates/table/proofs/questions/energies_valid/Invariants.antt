use mathlib.Core.Path.{◌≡◌}
use mathlib.Core.Bool.{not}
use Prim.Native.Nat.{◌+◌, ◌*◌}
use lib.ListN.{take, drop}
use lib.Ieee.{binary32, nan_bits}
use Rattle.lists.specs.Lists.{all_up_to}
use Rattle.table.specs.Bytes.{number_of}
use Rattle.table.proofs.questions.energies_valid.Given as goal

-- of the first 2·i energies
abbrev pub invariant-loop-i : goal.invariant-loop-i
invariant-loop-i l = l.held ≡ all_up_to (l.i * 2) (λ k. not (nan_bits binary32 (number_of (take 4 (drop (l.energies.start + k * 4) l.file)))))
