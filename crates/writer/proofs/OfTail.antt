-- Terms that write was handed, their bytes, and write's outcome with them. Assumes nothing.
use mathlib.Core.Path.{◌≡◌, refl, sym, ap, ◌∙◌}
use mathlib.Core.Bool.{Bool, true, false, cond, ◌&&◌, ◌||◌, and-eq-true_iff}
use mathlib.Core.List.{List, [], ◌∷◌, ◌++◌, append_assoc, append-nil}
use Prim.Native.Nat.{ℕ, zero, suc, ◌+◌, ◌*◌, ◌-◌, ◌≤◌, ◌<◌}
use native.Mathlib.Numerals.{add-one}
use native.Mathlib.Omega.{arith}
use lib.ListN.{length, length-append}
use lib.Dec.{leb, ltb, eqb, lit<}
use lib.Ieee.{Float, binary64, to_bits}
use borrow.Author.Tests.{leb-true, ltb-true, le-leb, eq-eqb, ne_eqb, eqb-false}
use Rattle.lists.specs.Questions.{ask, first}
use Rattle.lists.specs.Lists.{every, put}
use Rattle.lists.proofs.Asking.{ask_yes, first_yes}
use Rattle.mesh.specs.Mesh.{Mesh, meshes_keep}
use Rattle.builder.specs.BuilderLists.{BuilderLists, slabs, lists_long, meshes_long, rows_known}
use Rattle.builder.specs.Refusals.{builder_question, meshed_refusal}
use Rattle.builder.specs.declared.Builder.{Builder}
use Rattle.table.specs.Bytes.{bytes_of, packed, section}
use Rattle.table.specs.Tail.{Term, term_bytes, sixth, tail_bytes, tail_size, term_valid, tail_valid}
use Rattle.table.specs.File.{full_file}
use Rattle.table.proofs.Lengths.{bytes_length, packed-length}
use Rattle.table.proofs.OfTail.{term-length, sixth-length}
use Rattle.writer.specs.Write.{file_from, write_refusal, write_out}
use Rattle.writer.specs.Tailed.{TailLists, term_at, terms_from, terms_of, handed, tail_long, tail_question, tailed_question, full_file_from, write_tail_refusal, write_tail_out, PlainWrite}
use Rattle.writer.specs.Internal.{write_question}
use Rattle.writer.proofs.Puts.{puts, puts_three}
use Rattle.writer.proofs.Outcome.{first_no, first-zero}

-- ---- terms, one after another

module _ (cs ks : List Float) (ps : List ℕ) where
  terms_cons : (i n : ℕ) → i < n → terms_from cs ks ps i (n - i) ≡ term_at cs ks ps i ∷ terms_from cs ks ps (i + 1) (n - (i + 1))
  unfolding terms_from
  terms_cons i n h = let e : n - i ≡ suc (n - (i + 1)) = omega arith in rw (e, add-one)

  pub terms_many : (i n : ℕ) → length (terms_from cs ks ps i n) ≡ n
  unfolding terms_from
  terms_many i zero = refl
  terms_many i (suc n) = ap suc (terms_many (suc i) n)

  pub terms_stop : (i n : ℕ) → i < n → term_valid (term_at cs ks ps i) ≡ false → every term_valid (terms_from cs ks ps i (n - i)) ≡ false
  unfolding every
  terms_stop i n h e = rw (terms_cons i n h, e)

  pub terms_next : (i n : ℕ) → i < n → term_valid (term_at cs ks ps i) ≡ true
      → every term_valid (terms_from cs ks ps i (n - i)) ≡ every term_valid (terms_from cs ks ps (i + 1) (n - (i + 1)))
  unfolding every
  terms_next i n h e = rw (terms_cons i n h, e)

  pub terms_end : (i n : ℕ) → n ≤ i → every term_valid (terms_from cs ks ps i (n - i)) ≡ true
  unfolding every terms_from
  terms_end i n h = let e : n - i ≡ 0 = omega arith in rw e

  pub bytes_turn : (i n : ℕ) → i < n
      → packed term_bytes (terms_from cs ks ps i (n - i)) ≡ term_bytes (term_at cs ks ps i) ++ packed term_bytes (terms_from cs ks ps (i + 1) (n - (i + 1)))
  unfolding packed
  bytes_turn i n h = rw (terms_cons i n h)

  pub bytes_end : (i n : ℕ) → n ≤ i → packed term_bytes (terms_from cs ks ps i (n - i)) ≡ []
  unfolding packed terms_from
  bytes_end i n h = let e : n - i ≡ 0 = omega arith in rw e

pub handed_many : (t : TailLists) → length (terms_of t) ≡ length t.coefficients
handed_many t = terms_many t.coefficients t.kappas t.powers 0 (length t.coefficients)

pub term-put : (d : List ℕ) (at : ℕ) (t : Term) → at + 20 ≤ length d
    → put (put (put d at (bytes_of 8 (to_bits binary64 t.coefficient))) (at + 8) (bytes_of 8 (to_bits binary64 t.kappa))) (at + 16) (bytes_of 4 t.power) ≡ put d at (term_bytes t)
unfolding term_bytes
term-put d at t h =
    let x = to_bits binary64 t.coefficient in
    let y = to_bits binary64 t.kappa in
    puts_three d at (bytes_of 8 x) (bytes_of 8 y) (bytes_of 4 t.power) (at + 8) (at + 16) (omega (arith, bytes_length 8 x)) (omega (arith, bytes_length 8 y)) (omega arith)

pub sixth-some : (ts : List Term) (x : Float) → 0 < length ts → sixth ts x ≡ section term_bytes ts ++ bytes_of 8 (to_bits binary64 x)
sixth-some [] x h = absurd (omega arith)
sixth-some (y ∷ ys) x h = refl

-- ---- the questions

module _ (q : ℕ) (k r : Bool) (x : ℕ) where
  joined_by : (t a : Bool) → eqb q 0 ≡ t
      → first q (ask a 6 (ask k 7 (ask r 15 x))) ≡ first (first (first q (ask a 6 (ask k 7 0))) (ask r 15 0)) x
  unfolding first ask
  joined_by false a e = rw (e, e, e)
  joined_by true false e = rw e
  joined_by true true e = rw e (by k r)
    where
      by : (k r : Bool) → cond k (cond r x 15) 7 ≡ cond (eqb (cond (eqb (cond k 0 7) 0) (cond r 0 15) (cond k 0 7)) 0) x (cond (eqb (cond k 0 7) 0) (cond r 0 15) (cond k 0 7))
      by false r = refl
      by true false = refl
      by true true = refl

module _ (t : TailLists) where
  pub tail_asked : tail_question t ≡ 0 → (length t.coefficients ≤ 4294967295) × (0 < length t.coefficients → 0 < length t.prefactor) × (tail_valid (handed t) ≡ true)
  unfolding tail_question
  tail_asked h =
      let n = length t.coefficients in
      let q = ask_yes {q = eqb n 0 || ltb 0 (length t.prefactor)} (lit< tt) h in
      let fits = (and-eq-true_iff (leb n 4294967295) (tail_valid (handed t))).0 (ask_yes {q = leb n 4294967295 && tail_valid (handed t)} (lit< tt) q.1).0 in (
        leb-true n 4294967295 fits.0,
        λ z. ltb-true 0 (length t.prefactor) (rw (ne_eqb n 0 (λ e. omega (arith, z, e))) at q.0),
        fits.1,
      )

module _ (b : Builder) (m : Mesh) (l : BuilderLists) (t : TailLists) where
  pub tailed_short : tail_long t ≡ false → tailed_question b m l t ≡ first (builder_question b) 6
  unfolding tailed_question ask
  tailed_short h = rw h

  pub tailed_long : tail_long t ≡ true → tailed_question b m l t ≡ first (write_question b m l) (tail_question t)
  unfolding tailed_question meshed_refusal
  tailed_long h =
      rw h
      (joined_by (builder_question b) (meshes_keep b.top m) (rows_known b.top l.rows 0 (slabs b.grid)) (tail_question t) _ _ refl)

  -- ---- what the answers say

  tailed-held : tailed_question b m l t ≡ 0 → tail_long t ≡ true
  unfolding tailed_question
  tailed-held h = ((and-eq-true_iff (tail_long t) _).0 (ask_yes {q = tail_long t && (lists_long b l && meshes_long b m)} (lit< tt) (first_yes h).1).0).0

  pub tailed_tail : tailed_question b m l t ≡ 0 → tail_question t ≡ 0
  tailed_tail h = (first_yes (sym (tailed_long (tailed-held h)) ∙ h)).1

  pub tailed_sure : tailed_question b m l t ≡ 0
      → (write_question b m l ≡ 0) × (length t.coefficients ≤ length t.kappas) × (length t.coefficients ≤ length t.powers) × (length t.coefficients ≤ 4294967295)
      × (0 < length t.coefficients → 0 < length t.prefactor)
  tailed_sure h =
      let long = tailed-held h in
      let a = (and-eq-true_iff (leb (length t.coefficients) (length t.kappas)) _).0 long in
      let f = first_yes (sym (tailed_long long) ∙ h) in
      let q = tail_asked t f.1 in (
        f.0,
        leb-true (length t.coefficients) (length t.kappas) a.0,
        leb-true (length t.coefficients) (length t.powers) a.1,
        q.0,
        q.1,
      )

  -- ---- the file

  pub full_is : full_file_from b l t ≡ file_from b l ++ tail_bytes (handed t)
  unfolding full_file_from full_file file_from
  full_is = refl

  pub tail_length : (n : ℕ) → length (file_from b l) ≡ n → length (full_file_from b l t) ≡ n + tail_size (length t.coefficients)
  tail_length n e =
      let many = terms_many t.coefficients t.kappas t.powers 0 (length t.coefficients) in
      ap length full_is ∙ length-append (file_from b l) (tail_bytes (handed t)) ∙ rw (e, sixth-length (handed t).terms (handed t).prefactor, many)

  pub tail_put : (d : List ℕ) (at : ℕ) → length (file_from b l) ≡ at → at ≤ length d → put (put d 0 (file_from b l)) at (tail_bytes (handed t)) ≡ put d 0 (full_file_from b l t)
  tail_put d at e h = puts d 0 (file_from b l) (tail_bytes (handed t)) at (omega (arith, e)) h ∙ ap (λ (f : List ℕ). put d 0 f) (sym full_is)

  -- ---- the outcome

  module _ (out : List ℕ) where
    pub tail_refused : (k : ℕ) → k ≡ tailed_question b m l t → eqb k 0 ≡ false
        → write_tail_out b m l t out ≡ record { answer = record { number = k; length = 0 }; builder = b; lists = l; output = out }
    unfolding write_tail_out write_tail_refusal
    tail_refused k e h =
        let z : first (tailed_question b m l t) (ask (leb (length (full_file_from b l t)) (length out)) 12 0) ≡ k = first_no _ _ (λ z. eqb-false k 0 h (e ∙ z)) ∙ sym e in
        rw (z, h)

    module _ (h : tailed_question b m l t ≡ 0) where
      pub tail_short : leb (length (full_file_from b l t)) (length out) ≡ false → write_tail_out b m l t out ≡ record { answer = record { number = 12; length = 0 }; builder = b; lists = l; output = out }
      unfolding write_tail_out write_tail_refusal ask
      tail_short e = rw (first-zero (tailed_question b m l t) (ask (leb (length (full_file_from b l t)) (length out)) 12 0) h, e)

      pub tail_done : leb (length (full_file_from b l t)) (length out) ≡ true
          → write_tail_out b m l t out ≡ record { answer = record { number = 0; length = length (full_file_from b l t) }; builder = b; lists = l; output = put out 0 (full_file_from b l t) }
      unfolding write_tail_out write_tail_refusal ask
      tail_done e = rw (first-zero (tailed_question b m l t) (ask (leb (length (full_file_from b l t)) (length out)) 12 0) h, e)

-- ---- the sixth section, as the code writes it

module _ (t : TailLists) where
  pub sixth-none : length t.coefficients ≡ 0 → tail_bytes (handed t) ≡ []
  unfolding terms_from
  sixth-none e = rw e

  pub sixth-put : (d : List ℕ) (at : ℕ) → 0 < length t.coefficients → at + 12 + length t.coefficients * 20 ≤ length d
      → put (put (put d at (bytes_of 4 (length t.coefficients))) (at + 4) (packed term_bytes (handed t).terms)) (at + 4 + length t.coefficients * 20) (bytes_of 8 (to_bits binary64 (handed t).prefactor))
      ≡ put d at (tail_bytes (handed t))
  unfolding section
  sixth-put d at l h =
      let n = length t.coefficients in
      let ts = (handed t).terms in
      let x = to_bits binary64 (handed t).prefactor in
      let many : length ts ≡ n = terms_many t.coefficients t.kappas t.powers 0 n in
      let whole : tail_bytes (handed t) ≡ bytes_of 4 n ++ (packed term_bytes ts ++ bytes_of 8 x) =
      sixth-some ts (handed t).prefactor (omega (arith, l, many)) ∙ rw many (append_assoc (bytes_of 4 n) (packed term_bytes ts) (bytes_of 8 x)) in
      puts_three d at (bytes_of 4 n) (packed term_bytes ts) (bytes_of 8 x) (at + 4) (at + 4 + n * 20)
      (omega (arith, bytes_length 4 n)) (omega (arith, packed-length term_bytes 20 term-length ts, many)) (omega (arith, h))
      ∙ ap (λ (f : List ℕ). put d at f) (sym whole)

-- ---- without terms write leaves what it did

last_by : (m x : ℕ) (t r : Bool) → eqb m 0 ≡ t → first (first (first m (ask r 15 0)) 0) x ≡ first m (ask r 15 x)
unfolding first ask
last_by m x false r e = rw (e, e, e)
last_by m x true false e = rw e
last_by m x true true e = rw e

module _ (b : Builder) (m : Mesh) (l : BuilderLists) (t : TailLists) (e : length t.coefficients ≡ 0) where
  asks_nothing : tail_question t ≡ 0
  unfolding tail_question ask tail_valid
  asks_nothing =
      let n = length t.coefficients in
      rw (terms_many t.coefficients t.kappas t.powers 0 n, eq-eqb n 0 e, le-leb n 4294967295 (omega (arith, e)))

  long_enough : tail_long t ≡ true
  long_enough =
      let n = length t.coefficients in
      rw (le-leb n (length t.kappas) (omega (arith, e)), le-leb n (length t.powers) (omega (arith, e)))

  same-file : full_file_from b l t ≡ file_from b l
  same-file = full_is b m l t ∙ rw (sixth-none t e) (append-nil (file_from b l))

  same-refusal : (room : ℕ) → write_tail_refusal b m l t room ≡ write_refusal b m l room
  unfolding write_tail_refusal write_refusal
  same-refusal room =
      rw (tailed_long b m l t long_enough, asks_nothing, same-file)
      (last_by (meshed_refusal b m l) (ask (leb (length (file_from b l)) room) 12 0) _ (rows_known b.top l.rows 0 (slabs b.grid)) refl)

  writes_alike : (out : List ℕ) → write_tail_out b m l t out ≡ write_out b m l out
  unfolding write_tail_out write_out
  writes_alike out = rw (same-refusal (length out), same-file)

pub plain_write : PlainWrite
plain_write b m l t e out = writes_alike b m l t e out
