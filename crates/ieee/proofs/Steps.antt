-- What the steps of `cut`, `pattern_top`, `pattern_of`, `signed32` and `signed64` give, on plain numbers. Assumes nothing.
use Rattle.std.proofs.Common.{◌≡◌, ℕ, zero, suc, ◌+◌, ◌-◌, ◌*◌, ◌/◌, ◌%◌, ◌^◌, ◌<◌, ◌≤◌, min, Bool, true, false, cond, not, ◌||◌, T, eqb, ltb, sym, refl, ap, ◌∙◌, subst, inl, inr, le_trans, le_of_eq, le_refl, lt_of_lt_of_le, lt_of_le_of_lt, add-zero, lt_irrefl, mul-le-mul_right, mod-lt, mod-eq_of_lt, zero-lt-suc, mul_assoc, suc-mul, mul_comm, div-lt_iff_lt-mul, add_comm, le_antisymm, mul-pos, div-add-mod', zero-add, zero-mul, mul_left_comm, sub-le, add-one, arith, lit≤, pow_pos, pow_mono, pow-add, shl_lt, shl_exact, le-ltb, lt-ltb}
use Prim.Native.Nat.{compare}
use native.Mathlib.Nat.{div-div-eq-div-mul, div-eq_of_lt, mod-le, add-mod_left, min-le_right, min-eq_left, sub-zero}
use mir.Val.{bool_byte}
use lib.Arith.{le→nltb, digits_div, digits_mod}
use lib.Count.{count_leading_zeros, leading_top}
use lib.Ieee.{Format, prec, low, size, round, hid, ones, top, of_bits, nan_bits}
use lib.Ieee.Bits.{nan_bits_above}
use lib.Ieee.Fits.{two-le_pos, nearest-le}
use lib.Ieee.Nearest.{closest, closest_same, div_same}
use lib.Ieee.Order.{drop, kept}
use Rattle.ieee.specs.Internal.{pattern}
use Rattle.ieee.proofs.Pack.{le_or_lt, pattern_round, two-more, twice_hid, pow_lt_back}
use Rattle.ieee.proofs.Sticky.{closest_lt, closest_eq, closest_gt, cut_law}

-- ---- a test as a number
pub flag_le : (b : Bool) → bool_byte b ≤ 1
flag_le true = lit≤ tt
flag_le false = lit≤ tt

pub flag_yes : (a b : ℕ) → a < b → bool_byte (ltb a b) ≡ 1
flag_yes a b h = ap bool_byte (lt-ltb a b h)

pub flag_no : (a b : ℕ) → b ≤ a → bool_byte (ltb a b) ≡ 0
flag_no a b h = ap bool_byte (le-ltb a b h)

-- ---- `cut`: half is h, and what is left of w below the quotient q is r
module _ (w h q : ℕ) (s : Bool) (H : 0 < h) (is : q ≡ w / 2 / h) where
  split : (q * (2 * h) + w % (2 * h) ≡ w) × (w % (2 * h) < 2 * h)
  split = (ap (λ (x : ℕ). x * (2 * h) + w % (2 * h)) (is ∙ div-div-eq-div-mul w 2 h) ∙ div-add-mod' w (2 * h), mod-lt w (mul-pos (zero-lt-suc 1) H))

  twice : q * (2 * h) ≡ q * h * 2
  twice = mul_left_comm q 2 h ∙ mul_comm 2 (q * h)

  pub cut_rest : (q * h * 2 ≤ w) × (w - q * h * 2 < 2 * h)
  cut_rest = parts (q * (2 * h)) (q * h * 2) (w % (2 * h)) w (2 * h) split.0 split.1 twice
    where
      parts : (x y r w m : ℕ) → x + r ≡ w → r < m → x ≡ y → (y ≤ w) × (w - y < m)
      parts x y r w m e l f = (omega arith, omega arith)

  -- the number that is rounded is q * 4h and 2r, with one more where it goes on
  whole : q * (4 * h) + (2 * (w - q * h * 2) + bool_byte s) ≡ 2 * w + bool_byte s
  whole = sum (q * h * 2) w (bool_byte s) (q * (4 * h)) cut_rest.0 (mul_left_comm q 4 h ∙ four (q * h))
    where
      sum : (y w b z : ℕ) → y ≤ w → z ≡ 2 * y → z + (2 * (w - y) + b) ≡ 2 * w + b
      sum y w b z l e = omega arith

      four : (x : ℕ) → 4 * x ≡ 2 * (x * 2)
      four x = omega arith

  small : 2 * (w - q * h * 2) + bool_byte s < 4 * h
  small = under (w - q * h * 2) (bool_byte s) h cut_rest.1 (flag_le s)
    where
      under : (r b h : ℕ) → r < 2 * h → b ≤ 1 → 2 * r + b < 4 * h
      under r b h l k = omega arith

  quo : (2 * w + bool_byte s) / (4 * h) ≡ q
  quo = ap (λ (x : ℕ). x / (4 * h)) (sym whole) ∙ digits_div q small

  rem : (2 * w + bool_byte s) % (4 * h) ≡ 2 * (w - q * h * 2) + bool_byte s
  rem = ap (λ (x : ℕ). x % (4 * h)) (sym whole) ∙ digits_mod q small

  down : (2 * (w - q * h * 2) + bool_byte s) * 2 < 4 * h → q + 0 ≡ closest (2 * w + bool_byte s) (4 * h)
  down l = add-zero q ∙ sym (closest_lt (2 * w + bool_byte s) (4 * h) (subst (λ (x : ℕ). x * 2 < 4 * h) (sym rem) l) ∙ quo)

  even : (2 * (w - q * h * 2) + bool_byte s) * 2 ≡ 4 * h → q + q % 2 ≡ closest (2 * w + bool_byte s) (4 * h)
  even e = sym (closest_eq (2 * w + bool_byte s) (4 * h) (ap (λ (x : ℕ). x * 2) rem ∙ e) ∙ ap (λ (x : ℕ). x + x % 2) quo)

  over : 4 * h < (2 * (w - q * h * 2) + bool_byte s) * 2 → q + 1 ≡ closest (2 * w + bool_byte s) (4 * h)
  over l = add-one q ∙ sym (closest_gt (2 * w + bool_byte s) (4 * h) (subst (λ (x : ℕ). 4 * h < x * 2) (sym rem) l) ∙ ap suc quo)

-- o is 1 where a tie goes up
tie : (h r o : ℕ) → 0 < h → r ≡ h → o ≤ 1 → bool_byte (ltb (h - o) r) ≡ o
tie h r zero H e l = flag_no (h - 0) r (omega arith)
tie h r (suc zero) H e l = flag_yes (h - 1) r (lt_of_lt_of_le (less h H) (le_of_eq (sym e)))
  where
    less : (h : ℕ) → 0 < h → h - 1 < h
    less h H = omega arith
tie h r (suc (suc o)) H e l = absurd (no o l)
  where
    no : (o : ℕ) → suc (suc o) ≤ 1 → ⊥
    no o l = omega arith

parity : (q : ℕ) → bool_byte (eqb (q % 2) 1) ≡ q % 2
parity q = go (q % 2) (mod-lt q (zero-lt-suc 1))
  where
    go : (x : ℕ) → x < 2 → bool_byte (eqb x 1) ≡ x
    go zero l = refl
    go (suc zero) l = refl
    go (suc (suc x)) l = absurd (no x l)
      where
        no : (x : ℕ) → suc (suc x) < 2 → ⊥
        no x l = omega arith

pub cut_is : (w h q : ℕ) (s : Bool) → 0 < h → q ≡ w / 2 / h → q + bool_byte (ltb (h - bool_byte (s || eqb (q % 2) 1)) (w - q * h * 2)) ≡ closest (2 * w + bool_byte s) (4 * h)
cut_is w h q s H is =
    let r = w - q * h * 2 in
    let o = bool_byte (s || eqb (q % 2) 1) in
    elim (le_or_lt h r) [
      | inr l ↦ ap (λ (x : ℕ). q + x) (flag_no (h - o) r (before h r o l (flag_le (s || eqb (q % 2) 1)))) ∙ down w h q s H is (low r h (bool_byte s) l (flag_le s))
      | inl g ↦ elim (le_or_lt r h) [
        | inr l ↦ ap (λ (x : ℕ). q + x) (flag_yes (h - o) r (lt_of_le_of_lt (sub-le h o) l)) ∙ over w h q s H is (high r h (bool_byte s) l)
        | inl l ↦ ap (λ (x : ℕ). q + x) (tie h r o H (le_antisymm l g) (flag_le (s || eqb (q % 2) 1))) ∙ half s is (le_antisymm l g)
      ]
    ]
  where
    before : (h r o : ℕ) → r < h → o ≤ 1 → r ≤ h - o
    before h r o l k = omega arith

    low : (r h b : ℕ) → r < h → b ≤ 1 → (2 * r + b) * 2 < 4 * h
    low r h b l k = omega arith

    high : (r h b : ℕ) → h < r → 4 * h < (2 * r + b) * 2
    high r h b l = omega arith

    half : (s : Bool) → q ≡ w / 2 / h → w - q * h * 2 ≡ h → q + bool_byte (s || eqb (q % 2) 1) ≡ closest (2 * w + bool_byte s) (4 * h)
    half true is e = over w h q true H is (past (w - q * h * 2) h e)
      where
        past : (r h : ℕ) → r ≡ h → 4 * h < (2 * r + 1) * 2
        past r h e = omega arith
    half false is e = ap (λ (x : ℕ). q + x) (parity q) ∙ even w h q false H is (mid (w - q * h * 2) h e)
      where
        mid : (r h : ℕ) → r ≡ h → (2 * r + 0) * 2 ≡ 4 * h
        mid r h e = omega arith

-- ---- w moved up until its leading digit is r places below the top of a word
pub record Lead (w r y : ℕ) : Type 0 where
  pub room : y ≤ 63
  pub low : 2 ^ (63 - r) ≤ w * 2 ^ y
  pub high : w * 2 ^ y < 2 ^ (64 - r)

pub lead : (w r : ℕ) → 0 < w → w < 2 ^ (64 - r) → (r ≤ count_leading_zeros 64 w) × Lead w r (count_leading_zeros 64 w - r)
lead w r p h =
    let t = leading_top 64 w p (lt_of_lt_of_le h (pow_mono (sub-le 64 r))) in
    let j = t.0 in
    let z = count_leading_zeros 64 w in
    let y = z - r in
    let l = pow_lt_back j (64 - r) (lt_of_le_of_lt t.2 h) in (
      first z r j t.1 l,
      record {
        room = few z r j t.1;
        low = le_trans (le_of_eq (ap (λ (x : ℕ). 2 ^ x) (before z r j t.1 l) ∙ pow-add 2 j y)) (mul-le-mul_right (2 ^ y) t.2);
        high = subst (λ (x : ℕ). w * 2 ^ y < 2 ^ x) (after z r j t.1 l) (shl_lt (suc j) y t.3);
      },
    )
  where
    first : (z r j : ℕ) → z + suc j ≡ 64 → j < 64 - r → r ≤ z
    first z r j e l = omega arith

    few : (z r j : ℕ) → z + suc j ≡ 64 → z - r ≤ 63
    few z r j e = omega arith

    before : (z r j : ℕ) → z + suc j ≡ 64 → j < 64 - r → 63 - r ≡ j + (z - r)
    before z r j e l = omega arith

    after : (z r j : ℕ) → z + suc j ≡ 64 → j < 64 - r → suc j + (z - r) ≡ 64 - r
    after z r j e l = omega arith

pub normal_form : (w : ℕ) → 0 < w → w < 2 ^ 64 → Lead w 0 (count_leading_zeros 64 w)
normal_form w p h = rw sub-zero at (lead w 0 p h).1

-- c digits of a number of 65 digits are cut, and k units dropped
pattern_cut : (p n t B c k : ℕ) → 0 < p → 2 ≤ c → 2 ^ 64 ≤ n → n < 2 ^ 65 → c + t ≡ B + k → 65 ≤ p + c → (0 < k → p + c ≡ 65)
    → pattern p (n * 2 ^ t) (2 ^ B) ≡ k * 2 ^ (p - 1) + closest n (2 ^ c)
pattern_cut p n t B c k P C lo hi S far near =
    let same : n * (2 ^ B * 2 ^ k) ≡ n * 2 ^ t * 2 ^ c =
    ap (λ (x : ℕ). n * x) (sym (pow-add 2 B k) ∙ ap (λ (x : ℕ). 2 ^ x) (sym S ∙ add_comm c t) ∙ pow-add 2 t c) ∙ sym (mul_assoc n (2 ^ t) (2 ^ c)) in
    let r = cut_law p (n * 2 ^ t) (2 ^ B) n c k P (pow_pos B) C (inl same) (lt_of_lt_of_le hi (pow_mono far)) (λ l. le_trans (pow_mono (top_place p c P (near l))) lo) in
    ap (λ (x : ℕ). x * 2 ^ (p - 1) + kept p (n * 2 ^ t) (2 ^ B)) r.0 ∙ ap (λ (x : ℕ). k * 2 ^ (p - 1) + x) r.1
  where
    top_place : (p c : ℕ) → 0 < p → p + c ≡ 65 → p - 1 + c ≤ 64
    top_place p c P e = omega arith

pub pattern-zero : (p a d : ℕ) → 0 < p → 0 < d → a ≡ 0 → pattern p a d ≡ 0
pattern-zero p a d P D e =
    let r = cut_law p 0 d 0 2 0 P D (lit≤ tt) (inl (zero-mul (d * 1))) (pow_pos (p + 2)) (λ l. absurd (lt_irrefl 0 l)) in
    ap (λ (x : ℕ). pattern p x d) e ∙ ap (λ (x : ℕ). x * 2 ^ (p - 1) + kept p 0 d) r.0 ∙ ap (λ (x : ℕ). 0 * 2 ^ (p - 1) + x) r.1 ∙ ap (λ (x : ℕ). x + 0) (zero-mul (2 ^ (p - 1)))

closest_none : (n c : ℕ) → n < 2 ^ 65 → 66 ≤ c → closest n (2 ^ c) ≡ 0
closest_none n c h g =
    let m = 2 ^ c in
    let l : n * 2 < m = lt_of_lt_of_le (dbl n h) (pow_mono g) in
    closest_lt n m (subst (λ (x : ℕ). x * 2 < m) (sym (mod-eq_of_lt (less n m l))) l) ∙ div-eq_of_lt (less n m l)
  where
    dbl : (n : ℕ) → n < 2 ^ 65 → n * 2 < 2 ^ 66
    dbl n h = omega arith

    less : (n m : ℕ) → n * 2 < m → n < m
    less n m l = omega arith

-- ---- the pattern is that of the rounded value
pub pattern-same : (p a b c d : ℕ) → 0 < b → 0 < d → a * d ≡ c * b → pattern p a b ≡ pattern p c d
pattern-same p a b c d B D e =
    let k : drop p a b ≡ drop p c d = ap (λ (z : ℕ). size z - p) (div_same a b c d B D e) in
    let j = drop p c d in
    ap (λ (z : ℕ). z * 2 ^ (p - 1) + closest a (b * 2 ^ z)) k
    ∙ ap (λ (z : ℕ). j * 2 ^ (p - 1) + z) (closest_same a (b * 2 ^ j) c (d * 2 ^ j) (mul-pos B (pow_pos j)) (mul-pos D (pow_pos j)) (sym (mul_assoc a d (2 ^ j)) ∙ ap (λ (z : ℕ). z * 2 ^ j) e ∙ mul_assoc c b (2 ^ j)))

pub float_law : (f : Format) (s : Bool) (a B m : ℕ) → m ≡ pattern (prec f) a (2 ^ B) → of_bits f (cond s (top f) 0 + min m (ones f * hid f)) ≡ round f s a (2 ^ (B + low f))
float_law f s a B m e =
    ap (λ (x : ℕ). of_bits f (cond s (top f) 0 + min x (ones f * hid f)))
    (e ∙ pattern-same (prec f) a (2 ^ B) (a * 2 ^ low f) (2 ^ (B + low f)) (pow_pos B) (pow_pos (B + low f)) (ap (λ (x : ℕ). a * x) (pow-add 2 B (low f) ∙ mul_comm (2 ^ B) (2 ^ low f)) ∙ sym (mul_assoc a (2 ^ low f) (2 ^ B))))
    ∙ pattern_round f s a (2 ^ (B + low f))

-- ---- the three ways through `pattern_top`: n is the number of 65 digits
module _ (p n t : ℕ) (lo : 2 ^ 64 ≤ n) (hi : n < 2 ^ 65) (P : 2 ≤ p) (Q : p ≤ 53) where
  at : (c k : ℕ) → 2 ≤ c → c + t ≡ 4161 + k → 65 ≤ p + c → (0 < k → p + c ≡ 65) → pattern p (n * 2 ^ t) (2 ^ 4161) ≡ k * 2 ^ (p - 1) + closest n (2 ^ c)
  at c k C S far near = pattern_cut p n t 4161 c k (two-le_pos p P) C lo hi S far near

  at_zero : (c : ℕ) → 2 ≤ c → c + t ≡ 4161 → 65 ≤ p + c → pattern p (n * 2 ^ t) (2 ^ 4161) ≡ closest n (2 ^ c)
  at_zero c C S far = at c 0 C S far (λ h. absurd (lt_irrefl 0 h)) ∙ ap (λ (y : ℕ). y + closest n (2 ^ c)) (zero-mul (2 ^ (p - 1))) ∙ zero-add (closest n (2 ^ c))

  -- `cut` takes two digits less for its last argument
  as_cut : (m c : ℕ) → 2 + m ≡ c → closest n (4 * 2 ^ m) ≡ closest n (2 ^ c)
  as_cut m c s = ap (λ (x : ℕ). closest n x) (sym (pow-add 2 2 m) ∙ ap (λ (x : ℕ). 2 ^ x) s)

  pub top_none : t < 4096 → 0 ≡ pattern p (n * 2 ^ t) (2 ^ 4161)
  top_none l = sym (at_zero (4161 - t) (omega arith) (omega arith) (omega arith) ∙ closest_none n (4161 - t) hi (omega arith))

  pub top_low : (r : ℕ) → 4096 ≤ t → t < 4096 + p → r ≡ closest n (4 * 2 ^ (4159 - t)) → r ≡ pattern p (n * 2 ^ t) (2 ^ 4161)
  top_low r g l h = h ∙ as_cut (4159 - t) (4161 - t) (omega arith) ∙ sym (at_zero (4161 - t) (omega arith) (omega arith) (omega arith))

  pub top_high : (r : ℕ) → 4096 + p ≤ t → t ≤ 8100 → r ≡ closest n (4 * 2 ^ (63 - p)) → (t - p - 4096) * 2 ^ (p - 1) % 2 ^ 64 + r ≡ pattern p (n * 2 ^ t) (2 ^ 4161)
  top_high r g m h =
      let k = t - p - 4096 in
      let small : k < 2 ^ 12 = omega arith in
      ap (λ (x : ℕ). x + r) (shl_exact 12 (p - 1) 64 small (omega arith))
      ∙ ap (λ (x : ℕ). k * 2 ^ (p - 1) + x) (h ∙ as_cut (63 - p) (65 - p) (omega arith))
      ∙ sym (at (65 - p) k (omega arith) (omega arith) (omega arith) (λ _. omega arith))

-- ---- `pattern_of`: the normal form of w in its place
pub pattern_lead : (p w e z n : ℕ) → z ≤ 63 → n ≡ w * 2 ^ z → pattern p ((2 * n + 0) * 2 ^ (e + 64 - z)) (2 ^ 4161) ≡ pattern p (w * 2 ^ e) (2 ^ 4096)
pattern_lead p w e z n Z N =
    pattern-same p ((2 * n + 0) * 2 ^ (e + 64 - z)) (2 ^ 4161) (w * 2 ^ e) (2 ^ 4096) (pow_pos 4161) (pow_pos 4096)
    (ap (λ (x : ℕ). x * 2 ^ (e + 64 - z) * 2 ^ 4096) (add-zero (2 * n) ∙ ap (λ (x : ℕ). 2 * x) N ∙ mul_left_comm 2 w (2 ^ z) ∙ ap (λ (x : ℕ). w * x) (sym (pow-add 2 1 z))) ∙ scale w (1 + z) (e + 64 - z) e 4096 4161 (omega arith))
  where
    scale : (w a b c d f : ℕ) → a + b + d ≡ c + f → w * 2 ^ a * 2 ^ b * 2 ^ d ≡ w * 2 ^ c * 2 ^ f
    scale w a b c d f s = sym (powers w a b d) ∙ ap (λ (x : ℕ). w * 2 ^ x) s ∙ ap (λ (x : ℕ). w * x) (pow-add 2 c f) ∙ sym (mul_assoc w (2 ^ c) (2 ^ f))
      where
        powers : (w a b d : ℕ) → w * 2 ^ (a + b + d) ≡ w * 2 ^ a * 2 ^ b * 2 ^ d
        powers w a b d = simp (pow-add, mul_assoc)

-- ---- the sum of the two fields fits a word
pub packed_fits : (p k n r : ℕ) → 2 ≤ p → p ≤ 53 → k < 4094 → n < 2 ^ 65 → r ≡ closest n (4 * 2 ^ (63 - p)) → k * 2 ^ (p - 1) % 2 ^ 64 + r < 2 ^ 64
packed_fits p k n r P Q K N e =
    let m = 63 - p in
    let u = 4 * 2 ^ m in
    let c : closest n u ≤ 2 ^ p =
    le_trans (nearest-le (n / u) (compare (n % u * 2) u))
    ((div-lt_iff_lt-mul (mul-pos (zero-lt-suc 3) (pow_pos m))).1 (subst (λ (x : ℕ). n < x) (ap (λ (x : ℕ). 2 ^ x) (all p Q) ∙ pow-add 2 p (2 + m) ∙ ap (λ (x : ℕ). 2 ^ p * x) (pow-add 2 2 m)) N)) in
    lt_of_le_of_lt (plus (k * 2 ^ (p - 1)) r (k * 2 ^ (p - 1) % 2 ^ 64) (mod-le (k * 2 ^ (p - 1)) (2 ^ 64)))
    (lt_of_le_of_lt (two-more k (2 ^ (p - 1)) (k + 2) r (le_refl (k + 2)) (le_trans (le_of_eq e) (le_trans c (le_of_eq (twice_hid p (two-le_pos p P))))))
    (lt_of_lt_of_le (shl_lt 12 (p - 1) (up k K)) (pow_mono (below p Q))))
  where
    all : (p : ℕ) → p ≤ 53 → 65 ≡ p + (2 + (63 - p))
    all p h = omega arith

    up : (k : ℕ) → k < 4094 → k + 2 < 2 ^ 12
    up k h = omega arith

    below : (p : ℕ) → p ≤ 53 → 12 + (p - 1) ≤ 64
    below p h = omega arith

    plus : (a b c : ℕ) → c ≤ a → c + b ≤ a + b
    plus a b c h = omega arith

-- the number of 65 digits
pub doubled : (n : ℕ) (b : Bool) → 2 ^ 63 ≤ n → n < 2 ^ 64 → (2 ^ 64 ≤ 2 * n + bool_byte b) × (2 * n + bool_byte b < 2 ^ 65)
doubled n true lo hi = (omega arith, omega arith)
doubled n false lo hi = (omega arith, omega arith)

-- ---- the float is made of the pattern
pub made : (f : Format) (s t : Bool) (m b : ℕ) → b ≡ min m (ones f * hid f) → s ≡ t → of_bits f (cond t (top f) 0 + b) ≡ of_bits f (cond s (top f) 0 + min m (ones f * hid f))
made f s t m b e h = ap (λ (x : ℕ). of_bits f (cond t (top f) 0 + x)) e ∙ ap (λ (x : Bool). of_bits f (cond x (top f) 0 + min m (ones f * hid f))) (sym h)

pub no_nan : (f : Format) (s : Bool) (m b : ℕ) → b ≡ min m (ones f * hid f) → T (not (nan_bits f (cond s (top f) 0 + b)))
no_nan f s m b e =
    let h : b ≤ ones f * hid f = le_trans (le_of_eq e) (min-le_right m (ones f * hid f)) in
    subst (λ (t : Bool). T (not t)) (sym (nan_bits_above f (cond s (top f) 0 + b)))
    (subst (λ (x : ℕ). T (not (ltb (ones f * hid f) x))) (sym (rest s)) (le→nltb (ones f * hid f) b h))
  where
    top_is : (h o t : ℕ) → t ≡ o * h + h → 0 < h → o * h < t
    top_is h o t e p = omega arith

    under : b < top f
    under =
        lt_of_le_of_lt (le_trans (le_of_eq e) (min-le_right m (ones f * hid f)))
        (top_is (hid f) (ones f) (top f) (mul_comm (hid f) (suc (ones f)) ∙ suc-mul (ones f) (hid f)) (pow_pos (prec f - 1)))

    rest : (s : Bool) → (cond s (top f) 0 + b) % top f ≡ b
    rest true = add-mod_left (top f) b ∙ mod-eq_of_lt under
    rest false = ap (λ (x : ℕ). x % top f) (zero-add b) ∙ mod-eq_of_lt under

pub plain-pattern : (f : Format) (b : ℕ) → b ≤ ones f * hid f → T (not (nan_bits f b))
plain-pattern f b h = subst (λ (x : ℕ). T (not (nan_bits f x))) (zero-add b) (no_nan f false b b (sym (min-eq_left h)))
