-- The tail of an accepted write: a file can hold it, and its bytes are those of its terms' and its prefactor's bits. Assumes nothing.
use mathlib.Core.Path.{◌≡◌, refl, sym, ap, ◌∙◌}
use mathlib.Core.Bool.{Bool, true, false, ◌&&◌, ◌||◌, and-eq-true_iff}
use mathlib.Core.List.{List, [], ◌∷◌, ◌++◌, map}
use Prim.Native.Nat.{ℕ, zero, suc, ◌<◌}
use native.Mathlib.Omega.{arith}
use lib.ListN.{length, get_or, length-map}
use lib.Dec.{T, leb, eqb}
use lib.Ieee.{Float, nan, binary64, fits, to_bits}
use lib.Ieee.Scale.{finite}
use borrow.Author.Tests.{leb-true, eqb-true}
use Rattle.lists.specs.Lists.{every}
use Rattle.table.specs.Bytes.{bytes_of, packed, section}
use Rattle.table.specs.Tail.{Term, Tail, term_bytes, term_valid, tail_valid, sixth, tail_bytes}
use Rattle.table.proofs.Back.{All}
use Rattle.table.proofs.OfTail.{TermFitting, Tailable}
use Rattle.writer.specs.Tailed.{TailLists, term_at, terms_from, handed, tail_question}
use Rattle.writer.proofs.OfTail.{terms_many, tail_asked}
use Rattle.ledger.specs.Promise.{TermBits, term_bits}

-- ---- what was handed over

module _ (t : TailLists) (cs : (i : ℕ) → T (fits binary64 (get_or t.coefficients i nan))) (ks : (i : ℕ) → T (fits binary64 (get_or t.kappas i nan))) where
  terms_fit : (i n : ℕ) → every term_valid (terms_from t.coefficients t.kappas t.powers i n) ≡ true
      → All TermFitting (terms_from t.coefficients t.kappas t.powers i n)
  unfolding terms_from every term_valid
  terms_fit i zero h = tt
  terms_fit i (suc n) h =
      let a = term_at t.coefficients t.kappas t.powers i in
      let z = (and-eq-true_iff (term_valid a) (every term_valid (terms_from t.coefficients t.kappas t.powers (suc i) n))).0 h in
      let p = ((and-eq-true_iff (finite a.kappa) (leb a.power 2147483647)).0 ((and-eq-true_iff (finite a.coefficient) _).0 z.0).1).1 in
      (record { coefficient = cs i; kappa = ks i; power = omega (arith, leb-true a.power 2147483647 p) }, terms_fit (suc i) n z.1)

  all_fit : (n : ℕ) (x : Bool) → eqb n 0 ≡ x → x || (every term_valid (terms_from t.coefficients t.kappas t.powers 0 n) && finite (get_or t.prefactor 0 nan)) ≡ true
      → All TermFitting (terms_from t.coefficients t.kappas t.powers 0 n)
  unfolding terms_from
  all_fit n true e h = rw (eqb-true n 0 e) tt
  all_fit n false e h = terms_fit 0 n ((and-eq-true_iff (every term_valid (terms_from t.coefficients t.kappas t.powers 0 n)) _).0 h).0

  pub handed_tailable : T (fits binary64 (get_or t.prefactor 0 nan)) → tail_question t ≡ 0 → Tailable (handed t)
  unfolding tail_valid
  handed_tailable f q =
      let n = length t.coefficients in
      let many = terms_many t.coefficients t.kappas t.powers 0 n in
      let a = tail_asked t q in
      record { few = omega (arith, many, a.0); fitting = all_fit n _ refl (rw many at a.2); prefactor = f; valid = a.2 }

-- ---- bits for bits

-- a term's bytes are those of its bits
bit_bytes : TermBits → List ℕ
bit_bytes b = bytes_of 8 b.coefficient ++ (bytes_of 8 b.kappa ++ bytes_of 4 b.power)

packed-bits : (ts : List Term) → packed term_bytes ts ≡ packed bit_bytes (map term_bits ts)
unfolding packed term_bytes bit_bytes
packed-bits [] = refl
packed-bits (t ∷ ts) = ap (λ (l : List ℕ). term_bytes t ++ l) (packed-bits ts)

section-bits : (ss ts : List Term) → map term_bits ss ≡ map term_bits ts → section term_bytes ss ≡ section term_bytes ts
unfolding section
section-bits ss ts e =
    let n : length ss ≡ length ts = sym (length-map ss term_bits) ∙ ap length e ∙ length-map ts term_bits in
    rw (n, packed-bits ss, packed-bits ts, e)

sixth-bits : (ss ts : List Term) (x y : Float) → map term_bits ss ≡ map term_bits ts → (0 < length ss → to_bits binary64 x ≡ to_bits binary64 y) → sixth ss x ≡ sixth ts y
sixth-bits [] [] x y e h = refl
sixth-bits [] (t ∷ ts) x y e h = absurd (omega (arith, ap length e))
sixth-bits (s ∷ ss) [] x y e h = absurd (omega (arith, ap length e))
sixth-bits (s ∷ ss) (t ∷ ts) x y e h = rw (section-bits (s ∷ ss) (t ∷ ts) e, h (omega arith))

pub tail_bits : (s t : Tail) → map term_bits s.terms ≡ map term_bits t.terms → (0 < length s.terms → to_bits binary64 s.prefactor ≡ to_bits binary64 t.prefactor) → tail_bytes s ≡ tail_bytes t
tail_bits s t e h = sixth-bits s.terms t.terms s.prefactor t.prefactor e h
