-- Numbers, items and sections read back from the bytes that were written. Assumes nothing.
use mathlib.Core.Path.{◌≡◌, refl, sym, ap, ◌∙◌}
use mathlib.Core.List.{List, [], ◌∷◌, ◌++◌, append_assoc}
use Prim.Native.Nat.{ℕ, zero, suc, ◌+◌, ◌*◌, ◌/◌, ◌^◌, ◌<◌}
use native.Mathlib.Nat.{div-add-mod', div-lt_iff_lt-mul, pow-suc, zero-mul, suc-mul, add-zero}
use native.Mathlib.Omega.{arith}
use lib.ListN.{length, get_or, take, drop, length-append}
use lib.Seq.{take_at, drop_at, take_all}
use lib.Dec.{lit<}
use Rattle.table.specs.Bytes.{bytes_of, number_of, number_at, packed, section, items}
use Rattle.table.specs.File.{Entry, entry_bytes, entry_of}
use Rattle.table.specs.Read.{count_at}
use Rattle.table.proofs.Lengths.{bytes_length}

pub number_back : (w x : ℕ) → x < 256 ^ w → number_of (bytes_of w x) ≡ x
unfolding bytes_of number_of
number_back zero x h = omega arith
number_back (suc w) x h = rw (number_back w (x / 256) ((div-lt_iff_lt-mul (lit< tt)).1 (rw pow-suc at h))) (div-add-mod' x 256)

-- a row whose numbers fit their fields
pub record Fitting (r : Entry) : Type 0 where
  pub kind : r.kind < 256
  pub level : r.level < 256
  pub offset : r.offset < 256 ^ 4
  pub scalar : r.scalar < 256 ^ 4

pub entry_back : (r : Entry) → Fitting r → entry_of (entry_bytes r) ≡ r
unfolding entry_bytes entry_of
entry_back r h =
    let a = bytes_of 1 r.kind in
    let b = bytes_of 1 r.level in
    let o = bytes_of 4 r.offset in
    let x = bytes_of 4 r.scalar in
    let one : drop 1 (a ++ (b ++ (o ++ x))) ≡ b ++ (o ++ x) = drop_at a (b ++ (o ++ x)) 1 (bytes_length 1 r.kind) in
    let two : drop 2 (a ++ (b ++ (o ++ x))) ≡ o ++ x =
    ap (λ (l : List ℕ). drop 2 l) (sym (append_assoc a b (o ++ x))) ∙ drop_at (a ++ b) (o ++ x) 2 (length-append a b ∙ omega (arith, bytes_length 1 r.kind, bytes_length 1 r.level)) in
    let six : drop 6 (a ++ (b ++ (o ++ x))) ≡ x =
    ap (λ (l : List ℕ). drop 6 l) (sym (append_assoc a b (o ++ x)) ∙ sym (append_assoc (a ++ b) o x))
    ∙ drop_at (a ++ b ++ o) x 6 (length-append (a ++ b) o ∙ omega (arith, length-append a b, bytes_length 1 r.kind, bytes_length 1 r.level, bytes_length 4 r.offset)) in
    rw (
      one,
      two,
      six,
      take_at a (b ++ (o ++ x)) 1 (bytes_length 1 r.kind),
      take_at b (o ++ x) 1 (bytes_length 1 r.level),
      take_at o x 4 (bytes_length 4 r.offset),
      take_all 4 x (omega (arith, bytes_length 4 r.scalar)),
      number_back 1 r.kind h.kind,
      number_back 1 r.level h.level,
      number_back 4 r.offset h.offset,
      number_back 4 r.scalar h.scalar,
    )

-- p holds of every entry
abbrev pub All : {A : Type 0} → (A → Type 0) → List A → Type 0
All P [] = Unit
All P (x ∷ xs) = P x × All P xs

module _ {A : Type 0} (enc : A → List ℕ) (w : ℕ) (len : (x : A) → length (enc x) ≡ w) where
  -- a section's count
  pub count_is : (file pre : List ℕ) (xs : List A) (post : List ℕ) (at : ℕ) → file ≡ pre ++ (section enc xs ++ post) → length pre ≡ at → length xs < 256 ^ 4
      → count_at file at ≡ length xs
  unfolding section number_at
  count_is file pre xs post at e h l =
      rw (e, drop_at pre (bytes_of 4 (length xs) ++ packed enc xs ++ post) at h, append_assoc, take_at (bytes_of 4 (length xs)) (packed enc xs ++ post) 4 (bytes_length 4 (length xs)))
      (number_back 4 (length xs) l)

  module _ (dec : List ℕ → A) (P : A → Type 0) (back : (x : A) → P x → dec (enc x) ≡ x) where
    items-packed : (file pre : List ℕ) (xs : List A) (post : List ℕ) (at : ℕ) → file ≡ pre ++ (packed enc xs ++ post) → length pre ≡ at → All P xs
        → items dec w file at (length xs) ≡ xs
    unfolding packed items
    items-packed file pre [] post at e h a = refl
    items-packed file pre (x ∷ xs) post at e h a =
        let head : take w (drop at file) ≡ enc x =
        rw (e, drop_at pre (enc x ++ packed enc xs ++ post) at h, append_assoc, take_at (enc x) (packed enc xs ++ post) w (len x)) in
        let tail = items-packed file (pre ++ enc x) xs post (at + w) (e ∙ simp append_assoc) (length-append pre (enc x) ∙ rw (h, len x)) a.1 in
        rw (head, back x a.0, tail)

    -- a section's items
    pub items_are : (file pre : List ℕ) (xs : List A) (post : List ℕ) (at : ℕ) → file ≡ pre ++ (section enc xs ++ post) → length pre ≡ at → All P xs
        → items dec w file (at + 4) (length xs) ≡ xs
    unfolding section
    items_are file pre xs post at e h a =
        items-packed file (pre ++ bytes_of 4 (length xs)) xs post (at + 4) (e ∙ simp append_assoc) (length-append pre (bytes_of 4 (length xs)) ∙ rw (h, bytes_length)) a

-- item i by itself
module _ {A : Type 0} (dec : List ℕ → A) (w : ℕ) (file : List ℕ) (d : A) where
  pub item_at : (at n i : ℕ) → i < n → get_or (items dec w file at n) i d ≡ dec (take w (drop (at + i * w) file))
  unfolding items
  item_at at zero i h = absurd (omega arith)
  item_at at (suc n) zero h = rw (zero-mul, add-zero)
  item_at at (suc n) (suc i) h =
      let e : at + suc i * w ≡ at + w + i * w = rw suc-mul (omega arith) in
      item_at (at + w) n i (omega arith) ∙ rw e
