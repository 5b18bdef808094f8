-- Checks of request 4 by computation: sets of three slabs in three orders, and a slab accepted twice. Not in the starred table.
use Rattle.std.specs.Prelude.{◌≡◌, refl, true, false, List, [], ◌∷◌, map, ℕ, replicate, take, drop, Float}
use Rattle.ledger.specs.Ledger.{Call, set_call, settle_call, write_call}
use Rattle.ledger.specs.Promise.{History, ended, file}
use Rattle.ledger.specs.Replies.{number}
use Rattle.ledger.specs.Order.{Reordered, same, exchanged, then, moved, once, answers_of}
use Rattle.test_marks.specs.Icospheres.{icosahedron}
use Rattle.test_marks.specs.Computed.{f64, settings, lent_store, lent_words, no_terms, history, computed}

abbrev all : ℕ → List Float
all x = replicate 144 (f64 x)

-- ---- three slabs

-- at level 0, three distance bins (rmax 3)
abbrev pub history₃ : List Call → History
history₃ cs = record { grid = settings 0x4008_0000_0000_0000 0x4018_0000_0000_0000; top = 0; meshes = icosahedron; store = lent_store 432; words = lent_words 3; calls = cs; tail = no_terms; output = replicate 1900 7 }

-- energies 1, 2 and 3 for the three slabs, and a set that 8 refuses
abbrev one : Call
one = set_call 0 0 (all 0x3FF0_0000_0000_0000)

abbrev two : Call
two = set_call 1 0 (all 0x4000_0000_0000_0000)

abbrev three : Call
three = set_call 2 0 (all 0x4008_0000_0000_0000)

abbrev refused : Call
refused = set_call 3 0 (all 0)

-- a settle that 8 refuses ends their run: the second slab is accepted again after it; then a write
abbrev rest : List Call
rest = settle_call 3 ∷ set_call 1 0 (all 0x4010_0000_0000_0000) ∷ write_call no_terms (replicate 1844 0) ∷ []

abbrev pub outwards : List Call
outwards = one ∷ refused ∷ two ∷ three ∷ rest

abbrev pub inwards : List Call
inwards = three ∷ two ∷ refused ∷ one ∷ rest

abbrev pub mixed : List Call
mixed = two ∷ one ∷ three ∷ refused ∷ rest

pub to_mixed : Reordered outwards mixed
to_mixed = then (same exchanged) (then exchanged (same (same exchanged)))

pub to_inwards : Reordered mixed inwards
to_inwards = then (same exchanged) (then exchanged (same (same exchanged)))

abbrev numbers : List Call → List ℕ
numbers cs = map number (answers_of (history₃ cs))

pub numbers-outwards : computed (numbers outwards) ≡ 0 ∷ 8 ∷ 0 ∷ 0 ∷ 8 ∷ 0 ∷ 0 ∷ []
unfolding computed
numbers-outwards = refl

pub numbers-mixed : computed (numbers mixed) ≡ 0 ∷ 0 ∷ 0 ∷ 8 ∷ 8 ∷ 0 ∷ 0 ∷ []
unfolding computed
numbers-mixed = refl

pub numbers-inwards : computed (numbers inwards) ≡ 0 ∷ 0 ∷ 8 ∷ 0 ∷ 8 ∷ 0 ∷ 0 ∷ []
unfolding computed
numbers-inwards = refl

pub no_slab-twice : computed (once outwards (answers_of (history₃ outwards))) ≡ true
unfolding computed
no_slab-twice = refl

-- each call has its partner's answer, with the write's bytes
pub answers_mixed : computed (answers_of (history₃ mixed)) ≡ computed (moved to_mixed (answers_of (history₃ outwards)))
unfolding computed to_mixed
answers_mixed = refl

-- one end and one file
pub ends_inwards : computed (ended (history₃ inwards)) ≡ computed (ended (history₃ outwards))
unfolding computed
ends_inwards = refl

pub file-inwards : computed (file (history₃ inwards)) ≡ computed (file (history₃ outwards))
unfolding computed
file-inwards = refl

-- ---- a slab accepted twice

abbrev pub zeros_last : List Call
zeros_last = set_call 0 0 (all 0x4024_0000_0000_0000) ∷ set_call 0 0 (all 0) ∷ []

abbrev pub tens_last : List Call
tens_last = set_call 0 0 (all 0) ∷ set_call 0 0 (all 0x4024_0000_0000_0000) ∷ []

pub exchange : Reordered zeros_last tens_last
exchange = exchanged

pub twice : computed (once zeros_last (answers_of (history zeros_last))) ≡ false
unfolding computed
twice = refl

-- the first energy in the file: the later one stands, so that the two files differ
abbrev energy : List Call → List ℕ
energy cs = take 4 (drop 66 (file (history cs)))

pub zeros_stand : computed (energy zeros_last) ≡ 0 ∷ 0 ∷ 0 ∷ 0 ∷ []
unfolding computed
zeros_stand = refl

pub tens_stand : computed (energy tens_last) ≡ 0 ∷ 0 ∷ 32 ∷ 65 ∷ []
unfolding computed
tens_stand = refl
