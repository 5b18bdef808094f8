-- Checks of the replay laws by computation: clean calls, and what goes wrong where a hypothesis is dropped. Not in the starred table.
use Rattle.std.specs.Prelude.{◌≡◌, refl, true, false, cond, List, [], ◌∷◌, ◌++◌, map, ℕ, replicate, Float}
use Rattle.rows.specs.Rows.{Row, scalar, repulsive, mesh}
use Rattle.ledger.specs.Ledger.{Call, set_call, settle_call, Ledger}
use Rattle.ledger.specs.AtomLedger.{AtomCall, set_call as atom-set, settle_call as atom-settle}
use Rattle.ledger.specs.Replay.{Keeping, onward, after, clean, closed, set_first, keeping_of, atom_keeping_of}
use Rattle.test_marks.specs.Computed.{f64, history, history₂, computed}
use Rattle.test_marks.specs.Settled.{tens, nearly}
use Rattle.test_marks.specs.Atom.{atom_history, atom_computed}

-- one slab at level 0; three slices of one slab at levels 0 and 1
abbrev one : Keeping
one = keeping_of (history [])

abbrev three : Keeping
three = keeping_of (history₂ [])

-- the kinds of rows: 0 Scalar, 1 Repulsive, 2 Mesh nearest, 3 Mesh interpolated
abbrev form : Row Float → ℕ
form (scalar x) = 0
form repulsive = 1
form (mesh v b e) = cond b 3 2

abbrev forms : Ledger → List ℕ
forms b = map form b.rows

-- energies that settle as Scalar
abbrev flat : Call
flat = set_call 0 0 (replicate 144 (f64 0))

-- ---- a slice that was settled is set again, and no settle of it follows

abbrev settled : List Call
settled = flat ∷ settle_call 0 ∷ []

pub settled-clean : computed (clean one settled) ≡ true
unfolding computed
settled-clean = refl

pub set_open : computed (closed one settled (flat ∷ [])) ≡ false
unfolding computed
set_open = refl

pub settled-forms : computed (forms (after one settled)) ≡ 0 ∷ []
unfolding computed
settled-forms = refl

pub set-forms : computed (forms (after one (settled ++ flat ∷ []))) ≡ 3 ∷ []
unfolding computed
set-forms = refl

-- closed by a settle, it is as before
pub closed-forms : computed (forms (after one (settled ++ flat ∷ settle_call 0 ∷ []))) ≡ 0 ∷ []
unfolding computed
closed-forms = refl

-- the same three calls, set, settle, set, as a list of their own: not clean, and its settle played again changes the row from 3 to 0, as above
pub set_again : computed (clean one (settled ++ flat ∷ [])) ≡ false
unfolding computed
set_again = refl

pub settle_again : computed (closed one (settled ++ flat ∷ []) (settle_call 0 ∷ [])) ≡ true
unfolding computed
settle_again = refl

-- ---- a slab that is set twice: the first set, played again with the settle, is the one that counts

abbrev twice : List Call
twice = flat ∷ set_call 0 0 tens ∷ settle_call 0 ∷ []

pub twice-clean : computed (clean one twice) ≡ false
unfolding computed
twice-clean = refl

pub twice_closed : computed (closed one twice (flat ∷ settle_call 0 ∷ [])) ≡ true
unfolding computed
twice_closed = refl

pub twice-forms : computed (forms (after one twice)) ≡ 1 ∷ []
unfolding computed
twice-forms = refl

pub first-forms : computed (forms (after one (twice ++ flat ∷ settle_call 0 ∷ []))) ≡ 0 ∷ []
unfolding computed
first-forms = refl

-- ---- against an atom: a slab that was settled is set again, and no settle of it follows

abbrev atom_one : Keeping
atom_one = atom_keeping_of (atom_history [])

abbrev atom_flat : AtomCall
atom_flat = atom-set 0 (replicate 12 (f64 0))

abbrev atom_settled : List AtomCall
atom_settled = atom_flat ∷ atom-settle 0 ∷ []

pub atom_settled-clean : atom_computed (clean atom_one atom_settled) ≡ true
unfolding atom_computed
atom_settled-clean = refl

pub atom_set_open : atom_computed (closed atom_one atom_settled (atom_flat ∷ [])) ≡ false
unfolding atom_computed
atom_set_open = refl

pub atom_settled-forms : atom_computed (forms (after atom_one atom_settled)) ≡ 0 ∷ []
unfolding atom_computed
atom_settled-forms = refl

pub atom_set-forms : atom_computed (forms (after atom_one (atom_settled ++ atom_flat ∷ []))) ≡ 3 ∷ []
unfolding atom_computed
atom_set-forms = refl

-- ---- a set answered 9 in between: the second slice, sampled for level 0 while the level is 1. Played again it is accepted

abbrev early : List Call
early = set_call 0 0 nearly ∷ set_call 1 0 tens ∷ settle_call 0 ∷ []

pub early-clean : computed (clean three early) ≡ false
unfolding computed
early-clean = refl

pub early-closed : computed (closed three early (set_call 1 0 tens ∷ [])) ≡ true
unfolding computed
early-closed = refl

pub early-forms : computed (forms (after three early)) ≡ 2 ∷ 0 ∷ 0 ∷ []
unfolding computed
early-forms = refl

pub late_forms : computed (forms (after three (early ++ set_call 1 0 tens ∷ []))) ≡ 2 ∷ 3 ∷ 0 ∷ []
unfolding computed
late_forms = refl

-- ---- two players of one list at once

-- each of two lists in its order, their calls in any order between them
pub data Woven : List Call → List Call → List Call → Type 0 where
  none : Woven [] [] []
  first : {c : Call} {xs ys zs : List Call} → Woven xs ys zs → Woven (c ∷ xs) ys (c ∷ zs)
  second : {c : Call} {xs ys zs : List Call} → Woven xs ys zs → Woven xs (c ∷ ys) (c ∷ zs)

-- the first slice becomes Repulsive; the second lowers the level
abbrev blocked : Call
blocked = set_call 0 0 (replicate 1764 (f64 0x4024_0000_0000_0000))

abbrev played : List Call
played = blocked ∷ settle_call 0 ∷ set_call 1 0 nearly ∷ settle_call 1 ∷ []

-- the second player sets the first slice just before the first one lowers the level: no settle of it is accepted any more
abbrev woven : List Call
woven = blocked ∷ settle_call 0 ∷ set_call 1 0 nearly ∷ blocked ∷ settle_call 1 ∷ settle_call 0 ∷ set_call 1 0 nearly ∷ settle_call 1 ∷ []

pub by_two : Woven played played woven
by_two = first (first (first (second (first (second (second (second none)))))))

pub played-clean : computed (clean three played) ≡ true
unfolding computed
played-clean = refl

pub played-forms : computed (forms (after three played)) ≡ 1 ∷ 2 ∷ 0 ∷ []
unfolding computed
played-forms = refl

pub woven-forms : computed (forms (after three woven)) ≡ 3 ∷ 2 ∷ 0 ∷ []
unfolding computed
woven-forms = refl

-- one player who goes back to the first call at the same place ends as the list
pub back_forms : computed (forms (after three (blocked ∷ settle_call 0 ∷ set_call 1 0 nearly ∷ played))) ≡ 1 ∷ 2 ∷ 0 ∷ []
unfolding computed
back_forms = refl

-- ---- a ledger that no calls reach: energies of a level below its own. A refused settle is accepted later

abbrev odd : Ledger
odd = record { level = 1; rows = mesh 0 true (replicate 144 (f64 0)) ∷ mesh 1 true nearly ∷ scalar (f64 0) ∷ [] }

pub odd_refused : computed (forms (onward three odd (settle_call 0 ∷ settle_call 1 ∷ []))) ≡ 3 ∷ 2 ∷ 0 ∷ []
unfolding computed
odd_refused = refl

pub odd-settled : computed (forms (onward three odd (settle_call 0 ∷ settle_call 1 ∷ settle_call 0 ∷ []))) ≡ 0 ∷ 2 ∷ 0 ∷ []
unfolding computed
odd-settled = refl

-- ---- set first: a settle of its slice comes before, or a settle of another one

pub not_first : computed (set_first three 1 0 (after three []) (settle_call 1 ∷ set_call 1 0 nearly ∷ [])) ≡ false
unfolding computed
not_first = refl

pub is_first : computed (set_first three 1 0 (after three []) (settle_call 0 ∷ set_call 1 0 nearly ∷ settle_call 1 ∷ [])) ≡ true
unfolding computed
is_first = refl
