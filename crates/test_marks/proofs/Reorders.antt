-- Request 4 on real lists of calls: its hypothesis is met, and where it is not files differ.
use mathlib.Core.Path.{◌≡◌, refl, ap}
use mathlib.Core.Bool.{true}
use mathlib.Core.List.{List, [], ◌∷◌}
use Prim.Native.Nat.{ℕ}
use native.Mathlib.Omega.{arith}
use lib.ListN.{get_or, replicate}
use lib.Ieee.{Float}
use Rattle.ledger.specs.Ledger.{set_call}
use Rattle.ledger.specs.Promise.{file}
use Rattle.ledger.specs.Order.{once, answers_of, Alike, Untraced}
use Rattle.ledger.proofs.Order.{any_order, later}
use Rattle.test_marks.specs.Computed.{f64, history, computed}
use Rattle.test_marks.specs.Settled.{tens}
use Rattle.test_marks.specs.Ordered.{history₃, outwards, mixed, inwards, to_mixed, to_inwards, no_slab-twice, zeros_last, tens_last}

-- ---- three slabs in three orders

outwards-once : once outwards (answers_of (history₃ outwards)) ≡ true
unfolding computed
outwards-once = no_slab-twice

pub mixed_alike : Alike (history₃ outwards) mixed to_mixed
mixed_alike = any_order (history₃ outwards) mixed to_mixed outwards-once

mixed-once : once mixed (answers_of (history₃ mixed)) ≡ true
unfolding computed
mixed-once = refl

pub inwards_alike : Alike (history₃ mixed) inwards to_inwards
inwards_alike = any_order (history₃ mixed) inwards to_inwards mixed-once

-- ---- a slab accepted twice

-- the last byte of the first energy in the file
last_byte : List ℕ → ℕ
last_byte l = get_or l 69 0

end_zeros : last_byte (file (history zeros_last)) ≡ 0
unfolding computed last_byte
end_zeros = refl

end_tens : last_byte (file (history tens_last)) ≡ 65
unfolding computed last_byte
end_tens = refl

-- one list is the other with its two sets exchanged, and the files differ
pub twice_differs : file (history zeros_last) ≡ file (history tens_last) → ⊥
twice_differs e = absurd (let z = ap last_byte e in omega (arith, end_zeros, end_tens, z))

abbrev zeros : List Float
zeros = replicate 144 (f64 0)

-- the later energies stand: the set of tens before the set of zeros leaves no trace
pub tens_untraced : Untraced (history []) [] 0 0 tens (set_call 0 0 zeros ∷ [])
unfolding computed
tens_untraced = later (history []) [] 0 0 tens (set_call 0 0 zeros ∷ []) refl
