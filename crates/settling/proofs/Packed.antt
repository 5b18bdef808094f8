-- A number that moves by differences, wrapping. Assumes nothing.
use Rattle.std.proofs.Common.{◌≡◌, ℕ, suc, ◌+◌, ◌-◌, ◌*◌, ◌/◌, ◌%◌, ◌^◌, ◌<◌, sym, refl, ap, ◌∙◌, mod-lt, mod-eq_of_lt, suc-mul, div-add-mod', arith, lit<}
use native.Mathlib.Nat.{mod-add-mod, add-mul-mod_self_right}
use Rattle.settling.specs.Settling.{packed_after}

module _ (w : ℕ) (pos : 0 < w) where
  -- y taken away, and back again
  back : (x y : ℕ) → (x + (w - y % w) + y) % w ≡ x % w
  back x y =
      let e : x + (w - y % w) + y ≡ x + suc (y / w) * w = omega (arith, mod-lt y pos, div-add-mod' y w, suc-mul (y / w) w) in
      ap (λ (z : ℕ). z % w) e ∙ add-mul-mod_self_right x (suc (y / w)) w

  also : (x y z : ℕ) → x % w ≡ y % w → (x + z) % w ≡ (y + z) % w
  also x y z e = sym (mod-add-mod x w z) ∙ ap (λ (k : ℕ). (k + z) % w) e ∙ mod-add-mod y w z

  cancel : (x y z : ℕ) → (x + z) % w ≡ (y + z) % w → x % w ≡ y % w
  cancel x y z e =
      let a : x + (w - z % w) + z ≡ x + z + (w - z % w) = omega arith in
      let b : y + z + (w - z % w) ≡ y + (w - z % w) + z = omega arith in
      sym (back x z) ∙ ap (λ (k : ℕ). k % w) a ∙ also (x + z) (y + z) (w - z % w) e ∙ ap (λ (k : ℕ). k % w) b ∙ back y z

abbrev word : ℕ
word = 2 ^ 64

big : 0 < word
big = lit< tt

pub after_few : (p old new : ℕ) → packed_after p old new < word
unfolding packed_after
after_few p old new = mod-lt (p + new + (word - old % word)) big

after_back : (p old new : ℕ) → (packed_after p old new + old) % word ≡ (p + new) % word
unfolding packed_after
after_back p old new = mod-add-mod (p + new + (word - old % word)) word old ∙ back word big (p + new) old

-- the one number that it can be
after_is : (q p old new : ℕ) → q < word → (q + old) % word ≡ (p + new) % word → packed_after p old new ≡ q
after_is q p old new h e =
    sym (mod-eq_of_lt (after_few p old new)) ∙ cancel word big (packed_after p old new) q old (after_back p old new ∙ sym e) ∙ mod-eq_of_lt h

-- with no wrapping
pub after-plain : (q p old new : ℕ) → q < word → q + old ≡ p + new → packed_after p old new ≡ q
after-plain q p old new h e = after_is q p old new h (ap (λ (k : ℕ). k % word) e)

pub after_same : (p n : ℕ) → p < word → packed_after p n n ≡ p
after_same p n h = after_is p p n n h refl

-- one difference is another
pub after_alike : (p a a' b b' : ℕ) → b' + a ≡ b + a' → packed_after p a a' ≡ packed_after p b b'
after_alike p a a' b b' e =
    let q = packed_after p b b' in
    let x : q + a + b ≡ q + b + a = omega arith in
    let y : p + b' + a ≡ p + a' + b = omega (arith, e) in
    after_is q p a a' (after_few p b b')
    (cancel word big (q + a) (p + a') b (ap (λ (k : ℕ). k % word) x ∙ also word big (q + b) (p + b') a (after_back p b b') ∙ ap (λ (k : ℕ). k % word) y))

-- two differences, one after the other
pub after_both : (p a a' b b' : ℕ) → packed_after (packed_after p a a') b b' ≡ packed_after p (a + b) (a' + b')
after_both p a a' b b' =
    let o = packed_after p a a' in
    let q = packed_after o b b' in
    let x : q + (a + b) ≡ q + b + a = omega arith in
    let y : o + b' + a ≡ o + a + b' = omega arith in
    let z : p + a' + b' ≡ p + (a' + b') = omega arith in
    sym (after_is q p (a + b) (a' + b') (after_few o b b')
    (ap (λ (k : ℕ). k % word) x ∙ also word big (q + b) (o + b') a (after_back o b b') ∙ ap (λ (k : ℕ). k % word) y
    ∙ also word big (o + a) (p + a') b' (after_back p a a') ∙ ap (λ (k : ℕ). k % word) z))

-- .. in either order
pub after_comm : (p a a' b b' : ℕ) → packed_after (packed_after p a a') b b' ≡ packed_after (packed_after p b b') a a'
after_comm p a a' b b' =
    let x : a + b ≡ b + a = omega arith in
    let y : a' + b' ≡ b' + a' = omega arith in
    after_both p a a' b b' ∙ rw (x, y) (sym (after_both p b b' a a'))

-- .. of one row: the one between leaves no trace
pub after_again : (p a b c : ℕ) → packed_after (packed_after p a b) b c ≡ packed_after p a c
after_again p a b c = after_both p a b b c ∙ after_alike p (a + b) (b + c) a c (omega arith)
