-- How long the parts of a file are. Assumes nothing.
use mathlib.Core.Path.{◌≡◌, refl, sym, ap, ◌∙◌}
use mathlib.Core.List.{List, [], ◌∷◌, ◌++◌, map, append_assoc}
use Prim.Native.Nat.{ℕ, zero, suc, ◌+◌, ◌*◌, ◌/◌}
use native.Mathlib.Nat.{zero-mul, suc-mul}
use native.Mathlib.Omega.{arith}
use lib.ListN.{length, length-append, length-map}
use Rattle.lists.specs.Lists.{below}
use Rattle.mesh.specs.Levels.{vertex_count}
use Rattle.table.specs.Bytes.{bytes_of, packed, section}
use Rattle.table.specs.File.{Entry, entry_bytes}

pub bytes_length : (w x : ℕ) → length (bytes_of w x) ≡ w
unfolding bytes_of
bytes_length zero x = refl
bytes_length (suc w) x = ap suc (bytes_length w (x / 256))

module _ {A : Type 0} (enc : A → List ℕ) (w : ℕ) (len : (x : A) → length (enc x) ≡ w) where
  pub packed-length : (xs : List A) → length (packed enc xs) ≡ length xs * w
  unfolding packed
  packed-length [] = sym (zero-mul w)
  packed-length (x ∷ xs) = length-append (enc x) (packed enc xs) ∙ rw (len x, packed-length xs, suc-mul) (omega arith)

  pub section-length : (xs : List A) → length (section enc xs) ≡ 4 + length xs * w
  unfolding section
  section-length xs = length-append (bytes_of 4 (length xs)) (packed enc xs) ∙ rw (bytes_length 4 (length xs), packed-length xs)

module _ {A : Type 0} (enc : A → List ℕ) where
  pub packed-append : (xs ys : List A) → packed enc (xs ++ ys) ≡ packed enc xs ++ packed enc ys
  unfolding packed
  packed-append [] ys = refl
  packed-append (x ∷ xs) ys = rw (packed-append xs ys) (sym (append_assoc (enc x) (packed enc xs) (packed enc ys)))

pub below_length : (m : ℕ) → length (below m) ≡ m
unfolding below
below_length zero = refl
below_length (suc m) = length-append (below m) (m ∷ []) ∙ omega (arith, below_length m)

pub counts_length : (m : ℕ) → length (packed (bytes_of 4) (map vertex_count (below m))) ≡ m * 4
counts_length m =
    packed-length (bytes_of 4) 4 (bytes_length 4) (map vertex_count (below m))
    ∙ ap (λ (k : ℕ). k * 4) (length-map (below m) vertex_count ∙ below_length m)

pub entry_length : (r : Entry) → length (entry_bytes r) ≡ 10
unfolding entry_bytes
entry_length r =
    let e = bytes_length 4 r.offset in
    let f = bytes_length 4 r.scalar in
    length-append (bytes_of 1 r.kind) _
    ∙ omega (
      arith,
      bytes_length 1 r.kind,
      length-append (bytes_of 1 r.level) (bytes_of 4 r.offset ++ bytes_of 4 r.scalar),
      bytes_length 1 r.level,
      length-append (bytes_of 4 r.offset) (bytes_of 4 r.scalar),
      e,
      f,
    )
