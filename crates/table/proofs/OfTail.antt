-- What follows the five sections of a written file: how long it is, what is read back from it, and that it is one to one. Assumes nothing.
use mathlib.Core.Path.{◌≡◌, refl, sym, ap, ◌∙◌}
use mathlib.Core.Bool.{Bool, true, false, cond}
use mathlib.Core.List.{List, [], ◌∷◌, ◌++◌, append_assoc}
use mathlib.Core.Logic.{⊎_elim}
use Prim.Native.Nat.{ℕ, ◌+◌, ◌*◌, ◌^◌, ◌≤◌, ◌<◌}
use native.Mathlib.Omega.{arith}
use lib.ListN.{length, drop, length-append}
use lib.Seq.{take_at, drop_at, take_all}
use lib.Dec.{T, eqb, lit<}
use lib.Ieee.{Float, binary64, fits, to_bits, of_bits}
use lib.Ieee.Bits.{of_bits-to_bits, to_bits-lt}
use borrow.Author.Tests.{lt-ltb, eq-eqb, ne_eqb, eqb-true, eqb-false}
use Rattle.ieee.proofs.Pack.{le_or_lt}
use Rattle.rows.specs.Rows.{Row}
use Rattle.table.specs.Bytes.{bytes_of, number_at, section, items}
use Rattle.table.specs.Tail.{Term, Tail, no_tail, term_bytes, term_of, sixth, tail_bytes, tail_size, tail_valid}
use Rattle.table.specs.File.{sections_of}
use Rattle.table.specs.Read.{count_at, layout, ended, tail_at, f64_at}
use Rattle.table.specs.declared.Layout.{Layout}
use Rattle.table.proofs.Numbers.{none_there}
use Rattle.table.proofs.Lengths.{bytes_length, section-length}
use Rattle.table.proofs.Back.{All, number_back, count_is, items_are}
use Rattle.table.proofs.Items.{items-many}
use Rattle.table.proofs.OfSections.{Sized, ends_at, laid, five-length, sections_length}

-- a term whose values an f64 and a u32 can have
pub record TermFitting (t : Term) : Type 0 where
  pub coefficient : T (fits binary64 t.coefficient)
  pub kappa : T (fits binary64 t.kappa)
  pub power : t.power < 256 ^ 4

-- a tail that a file can hold
pub record Tailable (t : Tail) : Type 0 where
  pub few : length t.terms < 256 ^ 4
  pub fitting : All TermFitting t.terms
  pub prefactor : T (fits binary64 t.prefactor)
  pub valid : tail_valid t ≡ true

pub none_tailable : Tailable no_tail
unfolding tail_valid fits of_bits
none_tailable = record { few = lit< tt; fitting = tt; prefactor = tt; valid = refl }

pub term-length : (t : Term) → length (term_bytes t) ≡ 20
unfolding term_bytes
term-length t =
    let a = to_bits binary64 t.coefficient in
    let b = to_bits binary64 t.kappa in
    length-append (bytes_of 8 a) _
    ∙ omega (arith, bytes_length 8 a, length-append (bytes_of 8 b) (bytes_of 4 t.power), bytes_length 8 b, bytes_length 4 t.power)

term_back : (t : Term) → TermFitting t → term_of (term_bytes t) ≡ t
unfolding term_bytes term_of
term_back t h =
    let x = to_bits binary64 t.coefficient in
    let y = to_bits binary64 t.kappa in
    let a = bytes_of 8 x in
    let b = bytes_of 8 y in
    let o = bytes_of 4 t.power in
    let eight : drop 8 (a ++ (b ++ o)) ≡ b ++ o = drop_at a (b ++ o) 8 (bytes_length 8 x) in
    let sixteen : drop 16 (a ++ (b ++ o)) ≡ o =
    ap (λ (l : List ℕ). drop 16 l) (sym (append_assoc a b o)) ∙ drop_at (a ++ b) o 16 (length-append a b ∙ omega (arith, bytes_length 8 x, bytes_length 8 y)) in
    rw (
      eight,
      sixteen,
      take_at a (b ++ o) 8 (bytes_length 8 x),
      take_at b o 8 (bytes_length 8 y),
      take_all 4 o (omega (arith, bytes_length 4 t.power)),
      number_back 8 x (to_bits-lt binary64 t.coefficient h.coefficient),
      number_back 8 y (to_bits-lt binary64 t.kappa h.kappa),
      number_back 4 t.power h.power,
      of_bits-to_bits binary64 t.coefficient h.coefficient,
      of_bits-to_bits binary64 t.kappa h.kappa,
    )

pub some-length : (y : Term) (ys : List Term) (x : Float) → length (sixth (y ∷ ys) x) ≡ length (y ∷ ys) * 20 + 12
some-length y ys x =
    length-append (section term_bytes (y ∷ ys)) (bytes_of 8 (to_bits binary64 x))
    ∙ omega (arith, section-length term_bytes 20 term-length (y ∷ ys), bytes_length 8 (to_bits binary64 x))

pub sixth-length : (ts : List Term) (x : Float) → length (sixth ts x) ≡ tail_size (length ts)
sixth-length [] x = refl
sixth-length (y ∷ ys) x = some-length y ys x ∙ rw (ne_eqb (length (y ∷ ys)) 0 (λ z. omega (arith, z)))

small_by : (x : Bool) (k : ℕ) → k ≤ 4294967295 → cond x 0 (k * 20 + 12) ≤ 85899345912
small_by true k h = omega arith
small_by false k h = omega arith

-- as many terms as a u32 can count
pub tail_small : (k : ℕ) → k ≤ 4294967295 → tail_size k ≤ 85899345912
tail_small k h = small_by (eqb k 0) k h

mono_by : (x y : Bool) (j k : ℕ) → eqb j 0 ≡ x → eqb k 0 ≡ y → j ≤ k → cond x 0 (j * 20 + 12) ≤ cond y 0 (k * 20 + 12)
mono_by true true j k d e h = omega arith
mono_by true false j k d e h = omega arith
mono_by false true j k d e h = absurd (eqb-false j 0 d (omega (arith, eqb-true k 0 e)))
mono_by false false j k d e h = omega arith

pub tail_mono : (j k : ℕ) → j ≤ k → tail_size j ≤ tail_size k
tail_mono j k h = mono_by (eqb j 0) (eqb k 0) j k refl refl h

module _ {each : ℕ → ℕ} {xs ns : List ℕ} {levels : ℕ} {rows : List (Row ℕ)} {file : List ℕ} (x : Float) where
  terms_count : (ts : List Term) (w : Sized each xs ns levels rows file (sixth ts x)) → length ts < 256 ^ 4 → count_at file (ends_at w) ≡ length ts
  terms_count [] w h = none_there file (ends_at w) (omega (arith, sections_length w))
  terms_count (y ∷ ys) w h =
      count_is term_bytes 20 term-length file (sections_of each xs ns levels rows) (y ∷ ys) (bytes_of 8 (to_bits binary64 x)) (ends_at w) w.is (five-length w) h

  terms_are : (ts : List Term) (w : Sized each xs ns levels rows file (sixth ts x)) → All TermFitting ts → items term_of 20 file (ends_at w + 4) (length ts) ≡ ts
  unfolding items
  terms_are [] w h = refl
  terms_are (y ∷ ys) w h =
      items_are term_bytes 20 term-length term_of TermFitting term_back file (sections_of each xs ns levels rows) (y ∷ ys) (bytes_of 8 (to_bits binary64 x)) (ends_at w) w.is (five-length w) h

  prefactor_is : (ts : List Term) (w : Sized each xs ns levels rows file (sixth ts x)) → 0 < length ts → T (fits binary64 x)
      → f64_at file (ends_at w + 4 + length ts * 20) ≡ x
  unfolding number_at
  prefactor_is [] w l h = absurd (omega arith)
  prefactor_is (y ∷ ys) w l h =
      let s = sections_of each xs ns levels rows in
      let q = section term_bytes (y ∷ ys) in
      let b = bytes_of 8 (to_bits binary64 x) in
      let e : file ≡ s ++ q ++ b = w.is ∙ sym (append_assoc s q b) in
      let z : length (s ++ q) ≡ ends_at w + 4 + length (y ∷ ys) * 20 = length-append s q ∙ omega (arith, five-length w, section-length term_bytes 20 term-length (y ∷ ys)) in
      rw (
        e,
        drop_at (s ++ q) b (ends_at w + 4 + length (y ∷ ys) * 20) z,
        take_all 8 b (omega (arith, bytes_length 8 (to_bits binary64 x))),
        number_back 8 (to_bits binary64 x) (to_bits-lt binary64 x h),
      ) (of_bits-to_bits binary64 x h)

  -- the last part of 13
  ended_is : (ts : List Term) (w : Sized each xs ns levels rows file (sixth ts x)) → length ts < 256 ^ 4 → ended file (ends_at w) ≡ true
  unfolding ended
  ended_is [] w h = rw (eq-eqb (ends_at w) (length file) (omega (arith, sections_length w)))
  ended_is (y ∷ ys) w h =
      let n = some-length y ys x in
      rw (ne_eqb (ends_at w) (length file) (λ z. omega (arith, z, sections_length w, n)), terms_count (y ∷ ys) w h, lt-ltb 0 (length (y ∷ ys)) (omega arith))
      (eq-eqb (ends_at w + 4 + length (y ∷ ys) * 20 + 8) (length file) (omega (arith, sections_length w, n)))

  start_is : (ts : List Term) (w : Sized each xs ns levels rows file (sixth ts x)) → length ts < 256 ^ 4
      → tail_at file (ends_at w) ≡ cond (eqb (length ts) 0) (ends_at w) (ends_at w + 4)
  unfolding tail_at
  start_is [] w h = rw (terms_count [] w h) (omega (arith, sections_length w))
  start_is (y ∷ ys) w h = rw (terms_count (y ∷ ys) w h, ne_eqb (length (y ∷ ys)) 0 (λ z. omega (arith, z)))

module _ {each : ℕ → ℕ} {xs ns : List ℕ} {levels : ℕ} {rows : List (Row ℕ)} {file : List ℕ} (t : Tail) (w : Sized each xs ns levels rows file (tail_bytes t)) (ok : Tailable t) where
  pub tail_count : count_at file (ends_at w) ≡ length t.terms
  tail_count = terms_count t.prefactor t.terms w ok.few

  pub tail_ended : ended file (ends_at w) ≡ true
  tail_ended = ended_is t.prefactor t.terms w ok.few

  -- where the terms start
  abbrev pub starts_at : ℕ
  starts_at = cond (eqb (length t.terms) 0) (ends_at w) (ends_at w + 4)

  pub tail_start : tail_at file (ends_at w) ≡ starts_at
  tail_start = start_is t.prefactor t.terms w ok.few

  -- what is read there
  abbrev pub tail_there : Tail
  tail_there = record { terms = items term_of 20 file starts_at (length t.terms); prefactor = f64_at file (starts_at + length t.terms * 20) }

  pub tail_back : 0 < length t.terms → tail_there ≡ t
  tail_back l =
      rw (ne_eqb (length t.terms) 0 (λ z. omega (arith, z, l)), terms_are t.prefactor t.terms w ok.fitting, prefactor_is t.prefactor t.terms w l ok.prefactor)

  -- 23
  pub tail_held : tail_valid tail_there ≡ true
  unfolding tail_valid
  tail_held =
      ⊎_elim
      (λ h. rw (items-many term_of 20 file starts_at (length t.terms), eq-eqb (length t.terms) 0 (omega (arith, h))))
      (λ l. ap tail_valid (tail_back l) ∙ ok.valid)
      (le_or_lt (length t.terms) 0)

-- ---- one to one

-- "Equality of files now takes in the terms and, where there are any, the prefactor, bits for bits."
pub record TailHolds (s t : Tail) : Type 0 where
  pub terms : s.terms ≡ t.terms
  pub prefactor : 0 < length s.terms → s.prefactor ≡ t.prefactor

pub tails-same : {each : ℕ → ℕ} {xs ns ys ks : List ℕ} {m n : ℕ} {a b : List (Row ℕ)} {f h : List ℕ} (s t : Tail)
    (v : Sized each xs ns m a f (tail_bytes s)) (w : Sized each ys ks n b h (tail_bytes t)) → Tailable s → Tailable t → f ≡ h → TailHolds s t
tails-same s t v w p q e =
    let at : ends_at v ≡ ends_at w = ap (λ (k : Layout). k.end) (sym (laid v) ∙ ap layout e ∙ laid w) in
    let many : length s.terms ≡ length t.terms = sym (tail_count s v p) ∙ rw (e, at) (tail_count t w q) in
    record {
      terms = sym (terms_are s.prefactor s.terms v p.fitting) ∙ rw (e, at, many) (terms_are t.prefactor t.terms w q.fitting);
      prefactor = λ l.
          sym (prefactor_is s.prefactor s.terms v l p.prefactor)
          ∙ rw (e, at, many) (prefactor_is t.prefactor t.terms w (omega (arith, l, many)) q.prefactor);
    }

bytes_same : (ts : List Term) (x y : Float) → (0 < length ts → x ≡ y) → sixth ts x ≡ sixth ts y
bytes_same [] x y h = refl
bytes_same (t ∷ ts) x y h = ap (λ (z : Float). sixth (t ∷ ts) z) (h (omega arith))

pub same_bytes : (s t : Tail) → TailHolds s t → tail_bytes s ≡ tail_bytes t
same_bytes s t h = rw (← h.terms) (bytes_same s.terms s.prefactor t.prefactor h.prefactor)
