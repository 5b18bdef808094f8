-- Bytes that are written one after another. Assumes nothing.
use mathlib.Core.Path.{◌≡◌, refl, sym, ap, ◌∙◌}
use mathlib.Core.List.{List, [], ◌∷◌, ◌++◌, append_assoc}
use Prim.Native.Nat.{ℕ, ◌+◌, ◌/◌, ◌≤◌}
use native.Mathlib.Omega.{arith}
use borrow.Rule.Slice.PartMut.{put_mid}
use Rattle.std.specs.Int.{w32, w64, to_le_bytes}
use lib.ListN.{length, set, take, drop, length-append}
use lib.Seq.{drop-drop}
use Rattle.lists.specs.Lists.{put}
use Rattle.lists.proofs.Written.{nothing, pushed, put_nil, put-put, length-put}
use Rattle.table.specs.Bytes.{bytes_of}

-- one list, then another behind it
pub puts : (d : List ℕ) (at : ℕ) (l m : List ℕ) (to : ℕ) → to ≡ at + length l → to ≤ length d → put (put d at l) to m ≡ put d at (l ++ m)
puts d at l m to e h = rw e (put-put d at l m (omega (arith, e)))

-- two bytes, and what was written to a part
pub set-two : (d : List ℕ) (at a b : ℕ) → at + 2 ≤ length d → set (set d at a) (at + 1) b ≡ put d at (a ∷ b ∷ [])
set-two d at a b h = (pushed b (pushed a (nothing {d = d} {at = at} (omega arith)) (omega arith)) (omega arith)).is

pub part_put : (d : List ℕ) (at n k : ℕ) (l m : List ℕ) → l ≡ m → n ≡ k → k ≡ length m → put_mid at n d l ≡ put d at m
unfolding put
part_put d at n k l m e f h = rw (e, f, h, drop-drop (length m) at d, append_assoc (take at d) m (drop (at + length m) d))

-- the bytes of a number of 32 bits, and of 64
pub le_four : (x : ℕ) → to_le_bytes w32 x ≡ bytes_of 4 x
unfolding bytes_of
le_four x =
    let two : x / 256 / 256 ≡ x / 65536 = omega arith in
    let three : x / 65536 / 256 ≡ x / 16777216 = omega arith in
    rw (two, three)

pub le_eight : (x : ℕ) → to_le_bytes w64 x ≡ bytes_of 8 x
unfolding bytes_of
le_eight x =
    let two : x / 256 / 256 ≡ x / 65536 = omega arith in
    let three : x / 65536 / 256 ≡ x / 16777216 = omega arith in
    let four : x / 16777216 / 256 ≡ x / 4294967296 = omega arith in
    let five : x / 4294967296 / 256 ≡ x / 1099511627776 = omega arith in
    let six : x / 1099511627776 / 256 ≡ x / 281474976710656 = omega arith in
    let seven : x / 281474976710656 / 256 ≡ x / 72057594037927936 = omega arith in
    rw (two, three, four, five, six, seven)

-- d with whole written from place start on is what is made of out by writing rest from place at on
pub record Left (d : List ℕ) (start : ℕ) (whole out : List ℕ) (at : ℕ) (rest : List ℕ) : Type 0 where
  pub size : length out ≡ length d
  pub room : at + length rest ≤ length d
  pub is : put out at rest ≡ put d start whole

pub begun : (d : List ℕ) (at : ℕ) (whole : List ℕ) → at + length whole ≤ length d → Left d at whole d at whole
begun d at whole h = record { size = refl; room = h; is = refl }

module _ {d : List ℕ} {start : ℕ} {whole out : List ℕ} {at : ℕ} {rest : List ℕ} (h : Left d start whole out at rest) where
  pub step : (x next out' : List ℕ) (to : ℕ) → rest ≡ x ++ next → out' ≡ put out at x → to ≡ at + length x → Left d start whole out' to next
  step x next out' to e eo et =
      let n : length rest ≡ length x + length next = ap length e ∙ length-append x next in
      record {
        size = ap length eo ∙ length-put out at x (omega (arith, n, h.size, h.room)) ∙ h.size;
        room = omega (arith, n, h.room, et);
        is = rw (eo, et) (put-put out at x next (omega (arith, n, h.size, h.room)) ∙ rw (← e) h.is);
      }

  pub fits : (x next : List ℕ) → rest ≡ x ++ next → at + length x ≤ length out
  fits x next e = omega (arith, h.size, h.room, ap length e ∙ length-append x next)

  pub ended : rest ≡ [] → out ≡ put d start whole
  ended e = sym (put_nil out at) ∙ rw (← e) h.is

-- three lists one behind another, and four
pub puts_three : (d : List ℕ) (at : ℕ) (k l m : List ℕ) (p q : ℕ) → p ≡ at + length k → q ≡ p + length l → q ≤ length d
    → put (put (put d at k) p l) q m ≡ put d at (k ++ (l ++ m))
puts_three d at k l m p q ep eq h =
    let n : length (k ++ l) ≡ length k + length l = length-append k l in
    ap (λ (o : List ℕ). put o q m) (puts d at k l p ep (omega (arith, eq)))
    ∙ puts d at (k ++ l) m q (omega (arith, ep, eq, n)) h
    ∙ ap (λ (o : List ℕ). put d at o) (append_assoc k l m)

pub puts_four : (d : List ℕ) (at : ℕ) (k l m o : List ℕ) (p q r : ℕ) → p ≡ at + length k → q ≡ p + length l → r ≡ q + length m → r ≤ length d
    → put (put (put (put d at k) p l) q m) r o ≡ put d at (k ++ (l ++ (m ++ o)))
puts_four d at k l m o p q r ep eq er h =
    let n : length (k ++ (l ++ m)) ≡ length k + (length l + length m) = simp length-append in
    ap (λ (x : List ℕ). put x r o) (puts_three d at k l m p q ep eq (omega (arith, er)))
    ∙ puts d at (k ++ (l ++ m)) o r (omega (arith, ep, eq, er, n)) h
    ∙ ap (λ (x : List ℕ). put d at x) (simp append_assoc)
