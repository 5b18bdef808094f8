-- Cutting digits off a number that may be a fraction rounded to odd: its lowest digit, the sticky bit, is set wherever the fraction is not whole.
-- With two digits or more cut, it is rounded as the fraction is (`closest_sticky`), so it stands for the fraction in `round` (`round_sticky`). Assumes nothing.
use Rattle.std.proofs.Common.{◌≡◌, ℕ, suc, ◌+◌, ◌-◌, ◌*◌, ◌/◌, ◌%◌, ◌^◌, ◌<◌, ◌≤◌, Bool, not, T, eqb, ◌⊎◌, sym, refl, ap, ◌∙◌, subst, inl, inr, le_trans, le_of_eq, lt_of_lt_of_le, lt_of_le_of_lt, le_of_lt, add_assoc, mul-le-mul_right, mod-lt, zero-lt-suc, mul_assoc, mul_comm, div-lt_iff_lt-mul, add-mul, eq-zero-or-pos, lt_of_mul-lt-mul_right, mul-lt-mul_of_pos_right, mul-pos, one-mul, div-add-mod', le-div_iff_mul-le, not-le_of_lt, le_of_mul-le-mul_right, mul_left_comm, arith, eqb→eq, leb→le, pow_pos, pow_mono, pow-add}
use Prim.Native.Nat.{compare, Ordering}
use lib.Dec.{is_le, compare_is_eq, nleb→lt, eqb_refl}
use lib.Arith.{lt_of_le-ne, digits_div, digits_mod}
use lib.Ieee.{Format, prec, low, size, nearest, units, round}
use lib.Ieee.Digits.{size-lt, size-le, size_reaches}
use lib.Ieee.Fits.{round_is, two, two-le_pos}
use lib.Ieee.Nearest.{closest, closest_same}
use lib.Ieee.Order.{drop, kept}
use Rattle.ieee.specs.Internal.{Sticky}
use Rattle.ieee.proofs.Pack.{size_gt, pow_lt_back, le_or_lt, exactly, all_in_use, next_le}

-- ---- what `closest` is, by the remainder
abbrev Cmp : Ordering → ℕ → ℕ → Type 0
Cmp Ordering.lt a b = a < b
Cmp Ordering.eq a b = a ≡ b
Cmp Ordering.gt a b = b < a

cmp : (a b : ℕ) → Cmp (compare a b) a b
cmp a b = go (compare a b) (leb→le a b) (nleb→lt a b) (eqb→eq a b) (λ (e : a ≡ b). subst (λ (x : ℕ). T (eqb a x)) e (eqb_refl a))
  where
    go : (o : Ordering) → (T (is_le o) → a ≤ b) → (T (not (is_le o)) → b < a) → (T (compare_is_eq o) → a ≡ b) → (a ≡ b → T (compare_is_eq o)) → Cmp o a b
    go Ordering.lt h k e n = lt_of_le-ne (h tt) n
    go Ordering.eq h k e n = e tt
    go Ordering.gt h k e n = k tt

clash : {A : Type 0} (x y : ℕ) → x < y → y ≤ x → A
clash x y a b = absurd (not-le_of_lt a b)

pub closest_lt : (a b : ℕ) → a % b * 2 < b → closest a b ≡ a / b
closest_lt a b h = go (compare (a % b * 2) b) (cmp (a % b * 2) b)
  where
    go : (o : Ordering) → Cmp o (a % b * 2) b → nearest (a / b) o ≡ a / b
    go Ordering.lt c = refl
    go Ordering.eq c = clash (a % b * 2) b h (le_of_eq (sym c))
    go Ordering.gt c = clash (a % b * 2) b h (le_of_lt c)

pub closest_eq : (a b : ℕ) → a % b * 2 ≡ b → closest a b ≡ a / b + a / b % 2
closest_eq a b h = go (compare (a % b * 2) b) (cmp (a % b * 2) b)
  where
    go : (o : Ordering) → Cmp o (a % b * 2) b → nearest (a / b) o ≡ a / b + a / b % 2
    go Ordering.lt c = clash (a % b * 2) b c (le_of_eq (sym h))
    go Ordering.eq c = refl
    go Ordering.gt c = clash b (a % b * 2) c (le_of_eq h)

pub closest_gt : (a b : ℕ) → b < a % b * 2 → closest a b ≡ suc (a / b)
closest_gt a b h = go (compare (a % b * 2) b) (cmp (a % b * 2) b)
  where
    go : (o : Ordering) → Cmp o (a % b * 2) b → nearest (a / b) o ≡ suc (a / b)
    go Ordering.lt c = clash (a % b * 2) b c (le_of_lt h)
    go Ordering.eq c = clash b (a % b * 2) h (le_of_eq c)
    go Ordering.gt c = refl

-- ---- a fraction rounded to odd
odd-rest : (w y r g : ℕ) → y * 4 + r ≡ w → w % 2 ≡ 1 → r < 4 * g → (r % 2 ≡ 1) × (r + 1 ≤ 4 * g) × (1 ≤ r)
odd-rest w y r g e o h = (omega arith, omega arith, omega arith)

sides : (r g : ℕ) → r % 2 ≡ 1 → (r + 1 ≤ 2 * g) ⊎ (2 * g + 1 ≤ r)
sides r g o = elim (le_or_lt (r + 1) (2 * g)) [ inl h ↦ inl h | inr h ↦ inr (up r g o h) ]
  where
    up : (r g : ℕ) → r % 2 ≡ 1 → 2 * g < r + 1 → 2 * g + 1 ≤ r
    up r g o h = omega arith

closest_odd : (w a b g : ℕ) → 0 < b → 0 < g → w % 2 ≡ 1 → w * b < a + b → a < w * b + b → closest w (4 * g) ≡ closest a (b * (4 * g))
closest_odd w a b g B G o lo hi =
    let m = 4 * g in
    let M : 0 < m = mul-pos (zero-lt-suc 3) G in
    let q = w / m in
    let r = w % m in
    let y = q * (b * m) in
    let split : q * m + r ≡ w = div-add-mod' w m in
    let rest = odd-rest w (q * g) r g (ap (λ (x : ℕ). x + r) (mul_comm (q * g) 4 ∙ mul_left_comm 4 q g) ∙ split) o (mod-lt w M) in
    -- the products, as numbers: w * b is y + r * b
    let wb : w * b ≡ y + r * b = ap (λ (x : ℕ). x * b) (sym split) ∙ add-mul (q * m) r b ∙ ap (λ (x : ℕ). x + r * b) (mul_assoc q m b ∙ ap (λ (x : ℕ). q * x) (mul_comm m b)) in
    let rb : b ≤ r * b = le_trans (le_of_eq (sym (one-mul b))) (mul-le-mul_right b rest.2) in
    let rm : r * b + b ≤ b * m = le_trans (le_of_eq (ap (λ (x : ℕ). r * b + x) (sym (one-mul b)) ∙ sym (add-mul r 1 b))) (le_trans (mul-le-mul_right b rest.1) (le_of_eq (mul_comm m b))) in
    let ρ = a - y in
    let at : y + ρ ≡ a = whole a (w * b) y (r * b) b wb lo rb in
    let small : ρ < b * m = under a (w * b) y (r * b) b (b * m) wb hi rm (mul-pos B M) in
    let quo : a / (b * m) ≡ q = ap (λ (x : ℕ). x / (b * m)) (sym at) ∙ digits_div q small in
    let rem : a % (b * m) ≡ ρ = ap (λ (x : ℕ). x % (b * m)) (sym at) ∙ digits_mod q small in
    let bm : b * m ≡ 2 * g * b * 2 = simp (mul_comm, mul_left_comm) (omega arith) in
    elim (sides r g rest.0) [
      | inl s ↦
          let t : r * b + b ≤ 2 * g * b = le_trans (le_of_eq (ap (λ (x : ℕ). r * b + x) (sym (one-mul b)) ∙ sym (add-mul r 1 b))) (mul-le-mul_right b s) in
          closest_lt w m (left r g s)
          ∙ sym quo
          ∙ sym (closest_lt a (b * m) (subst (λ (x : ℕ). x * 2 < b * m) (sym rem) (below a (w * b) y (r * b) b (2 * g * b) (b * m) wb hi t bm (mul-pos B M))))
      | inr s ↦
          let t : 2 * g * b + b ≤ r * b = le_trans (le_of_eq (ap (λ (x : ℕ). 2 * g * b + x) (sym (one-mul b)) ∙ sym (add-mul (2 * g) 1 b))) (mul-le-mul_right b s) in
          closest_gt w m (right r g s)
          ∙ ap suc (sym quo)
          ∙ sym (closest_gt a (b * m) (subst (λ (x : ℕ). b * m < x * 2) (sym rem) (above a (w * b) y (r * b) b (2 * g * b) (b * m) wb lo t bm)))
    ]
  where
    whole : (a wb y rb b : ℕ) → wb ≡ y + rb → wb < a + b → b ≤ rb → y + (a - y) ≡ a
    whole a wb y rb b e lo h = omega arith

    under : (a wb y rb b c : ℕ) → wb ≡ y + rb → a < wb + b → rb + b ≤ c → 0 < c → a - y < c
    under a wb y rb b c e hi h p = omega arith

    left : (r g : ℕ) → r + 1 ≤ 2 * g → r * 2 < 4 * g
    left r g h = omega arith

    right : (r g : ℕ) → 2 * g + 1 ≤ r → 4 * g < r * 2
    right r g h = omega arith

    below : (a wb y rb b h c : ℕ) → wb ≡ y + rb → a < wb + b → rb + b ≤ h → c ≡ h * 2 → 0 < c → (a - y) * 2 < c
    below a wb y rb b h c e hi l f p = omega arith

    above : (a wb y rb b h c : ℕ) → wb ≡ y + rb → wb < a + b → h + b ≤ rb → c ≡ h * 2 → c < (a - y) * 2
    above a wb y rb b h c e lo l f = omega arith

four : (c : ℕ) → 2 ≤ c → 2 ^ c ≡ 4 * 2 ^ (c - 2)
four c h = ap (λ (x : ℕ). 2 ^ x) (back c h) ∙ pow-add 2 2 (c - 2)
  where
    back : (c : ℕ) → 2 ≤ c → c ≡ 2 + (c - 2)
    back c h = omega arith

pub closest_sticky : (w a b c : ℕ) → 0 < b → 2 ≤ c → Sticky w a b → closest w (2 ^ c) ≡ closest a (b * 2 ^ c)
closest_sticky w a b c B C (inl e) = closest_same w (2 ^ c) a (b * 2 ^ c) (pow_pos c) (mul-pos B (pow_pos c)) (sym (mul_assoc w b (2 ^ c)) ∙ ap (λ (x : ℕ). x * 2 ^ c) e)
closest_sticky w a b c B C (inr (o, lo, hi)) = ap (λ (x : ℕ). closest w x) (four c C) ∙ closest_odd w a b (2 ^ (c - 2)) B (pow_pos (c - 2)) o lo hi ∙ ap (λ (x : ℕ). closest a (b * x)) (sym (four c C))

-- ---- a / d is near w * 2 ^ k / 2 ^ c, and w has p + c digits, or fewer where k is 0: k digits are dropped, and what is kept is w without c digits
sticky_lt : (w a b n : ℕ) → Sticky w a b → 0 < b → w < n → a < n * b
sticky_lt w a b n (inl e) B h = lt_of_le_of_lt (le_of_eq (sym e)) (mul-lt-mul_of_pos_right h B)
sticky_lt w a b n (inr (o, lo, hi)) B h = lt_of_lt_of_le hi (le_trans (le_of_eq (ap (λ (x : ℕ). w * b + x) (sym (one-mul b)) ∙ sym (add-mul w 1 b))) (mul-le-mul_right b (next_le w n h)))

sticky_ge : (w a b n : ℕ) → Sticky w a b → 2 * n ≤ w → 2 * n * b ≤ a
sticky_ge w a b n (inl e) h = le_trans (mul-le-mul_right b h) (le_of_eq e)
sticky_ge w a b n (inr (o, lo, hi)) h =
    let t : 2 * n * b + b ≤ w * b = le_trans (le_of_eq (ap (λ (x : ℕ). 2 * n * b + x) (sym (one-mul b)) ∙ sym (add-mul (2 * n) 1 b))) (mul-le-mul_right b (odd-above w n o h)) in
    down (2 * n * b) b (w * b) a t lo
  where
    odd-above : (w n : ℕ) → w % 2 ≡ 1 → 2 * n ≤ w → 2 * n + 1 ≤ w
    odd-above w n o h = omega arith

    down : (x b y a : ℕ) → x + b ≤ y → y < a + b → x ≤ a
    down x b y a p q = omega arith

pub cut_law : (p a d w c k : ℕ) → 0 < p → 0 < d → 2 ≤ c → Sticky w (a * 2 ^ c) (d * 2 ^ k) → w < 2 ^ (p + c) → (0 < k → 2 ^ (p - 1 + c) ≤ w) → (drop p a d ≡ k) × (kept p a d ≡ closest w (2 ^ c))
cut_law p a d w c k P D C st hi lo =
    let b = d * 2 ^ k in
    let B : 0 < b = mul-pos D (pow_pos k) in
    let up : a < 2 ^ (p + k) * d =
    lt_of_mul-lt-mul_right (2 ^ c) (lt_of_lt_of_le (sticky_lt w (a * 2 ^ c) b (2 ^ (p + c)) st B hi) (le_of_eq (simp (pow-add, mul_comm, mul_left_comm)))) in
    let e : drop p a d ≡ k =
    exactly (size (a / d)) p k (size-le (a / d) (p + k) ((div-lt_iff_lt-mul D).1 up)) (elim (eq-zero-or-pos k) [
      | inl z ↦ inl z
      | inr l ↦
          let g = 2 ^ (p - 1 + (c - 1)) in
          let half : 2 * g ≡ 2 ^ (p - 1 + c) = sym (pow-add 2 1 (p - 1 + (c - 1))) ∙ ap (λ (x : ℕ). 2 ^ x) (one_on p c C) in
          let low-a : 2 ^ (p - 1 + k) * d * 2 ^ c ≤ a * 2 ^ c =
          le_trans (le_of_eq ((simp (pow-add, mul_assoc, mul_comm, mul_left_comm)) ∙ ap (λ (x : ℕ). x * b) (sym half))) (sticky_ge w (a * 2 ^ c) b g st (le_trans (le_of_eq half) (lo l))) in
          inr (size_gt (a / d) (p - 1 + k) ((le-div_iff_mul-le D).1 (le_of_mul-le-mul_right low-a (pow_pos c))))
    ]) in (
      e,
      ap (λ (x : ℕ). closest a (d * 2 ^ x)) e
          ∙ closest_same a b (a * 2 ^ c) (b * 2 ^ c) B (mul-pos B (pow_pos c)) (simp (mul_comm, mul_left_comm))
          ∙ sym (closest_sticky w (a * 2 ^ c) b c B C st),
    )
  where
    one_on : (p c : ℕ) → 2 ≤ c → 1 + (p - 1 + (c - 1)) ≡ p - 1 + c
    one_on p c h = omega arith

-- ---- a number that sticks to a fraction, and has two digits more than the format keeps, is rounded as the fraction is
sticky_scale : (w a b x : ℕ) → 0 < x → Sticky w a b → Sticky w (a * x) (b * x)
sticky_scale w a b x X (inl e) = inl (sym (mul_assoc w b x) ∙ ap (λ (y : ℕ). y * x) e)
sticky_scale w a b x X (inr (o, lo, hi)) = inr (
  o,
  subst (λ (y : ℕ). y < a * x + b * x) (mul_assoc w b x) (subst (λ (y : ℕ). w * b * x < y) (add-mul a b x) (mul-lt-mul_of_pos_right lo X)),
  subst (λ (y : ℕ). a * x < y + b * x) (mul_assoc w b x) (subst (λ (y : ℕ). a * x < y) (add-mul (w * b) b x) (mul-lt-mul_of_pos_right hi X)),
)

pub round_sticky : (f : Format) (s : Bool) (w a b i j : ℕ) → 0 < b → Sticky w a b → 2 ^ suc (prec f) ≤ w → round f s (w * 2 ^ i) (2 ^ j) ≡ round f s (a * 2 ^ i) (b * 2 ^ j)
round_sticky f s w a b i j B st W =
    let p = prec f in
    let l = low f in
    let n = w * 2 ^ i * 2 ^ l in
    let k = drop p n (2 ^ j) in
    let c = j + k - (i + l) in
    -- w * 2 ^ (i + l) is below 2 ^ (p + k + j)
    let hi : w * 2 ^ (i + l) < 2 ^ (p + (k + j)) =
    subst (λ (x : ℕ). x < 2 ^ (p + (k + j))) (mul_assoc w (2 ^ i) (2 ^ l) ∙ ap (λ (x : ℕ). w * x) (sym (pow-add 2 i l)))
    (subst (λ (x : ℕ). n < x) (sym (pow-add 2 (p + k) j) ∙ ap (λ (x : ℕ). 2 ^ x) (add_assoc p k j))
    ((div-lt_iff_lt-mul (pow_pos j)).0 (lt_of_lt_of_le (size-lt (n / 2 ^ j)) (pow_mono (cover (size (n / 2 ^ j)) p))))) in
    let far : suc p + (i + l) < p + (k + j) = pow_lt_back (suc p + (i + l)) (p + (k + j)) (lt_of_le_of_lt (le_trans (le_of_eq (pow-add 2 (suc p) (i + l))) (mul-le-mul_right (2 ^ (i + l)) W)) hi) in
    let C : 2 ≤ c = two_on p (i + l) k j far in
    let sum : i + l + c ≡ j + k = whole p (i + l) k j far in
    let w-hi : w < 2 ^ (p + c) =
    lt_of_mul-lt-mul_right (2 ^ (i + l)) (subst (λ (x : ℕ). w * 2 ^ (i + l) < x) (ap (λ (x : ℕ). 2 ^ x) (place p (i + l) c k j sum) ∙ pow-add 2 (p + c) (i + l)) hi) in
    let w-lo : 0 < k → 2 ^ (p - 1 + c) ≤ w =
    λ K. le_of_mul-le-mul_right
    (le_trans (le_of_eq (sym (pow-add 2 (p - 1 + c) (i + l)) ∙ ap (λ (x : ℕ). 2 ^ x) (place' p (i + l) c k j sum) ∙ pow-add 2 (p - 1 + k) j))
    (le_trans ((le-div_iff_mul-le (pow_pos j)).0 (size_reaches (n / 2 ^ j) (p - 1 + k) (all_in_use (size (n / 2 ^ j)) p (two-le_pos p (two f)) K)))
    (le_of_eq (mul_assoc w (2 ^ i) (2 ^ l) ∙ ap (λ (x : ℕ). w * x) (sym (pow-add 2 i l))))))
    (pow_pos (i + l)) in
    let P = two-le_pos p (two f) in
    let pow : 2 ^ i * 2 ^ l * 2 ^ c ≡ 2 ^ j * 2 ^ k = ap (λ (x : ℕ). x * 2 ^ c) (sym (pow-add 2 i l)) ∙ sym (pow-add 2 (i + l) c) ∙ ap (λ (x : ℕ). 2 ^ x) sum ∙ pow-add 2 j k in
    let one = cut_law p n (2 ^ j) w c k P (pow_pos j) C (inl (ap (λ (x : ℕ). w * x) (sym pow) ∙ shift w (2 ^ i) (2 ^ l) (2 ^ c))) w-hi w-lo in
    let st' : Sticky w (a * 2 ^ i * 2 ^ l * 2 ^ c) (b * 2 ^ j * 2 ^ k) =
    subst (λ (x : ℕ). Sticky w x (b * 2 ^ j * 2 ^ k)) (ap (λ (x : ℕ). a * x) (sym pow) ∙ shift a (2 ^ i) (2 ^ l) (2 ^ c))
    (subst (λ (x : ℕ). Sticky w (a * (2 ^ j * 2 ^ k)) x) (sym (mul_assoc b (2 ^ j) (2 ^ k))) (sticky_scale w a b (2 ^ j * 2 ^ k) (mul-pos (pow_pos j) (pow_pos k)) st)) in
    let other = cut_law p (a * 2 ^ i * 2 ^ l) (b * 2 ^ j) w c k P (mul-pos B (pow_pos j)) C st' w-hi w-lo in
    round_is f s (w * 2 ^ i) (2 ^ j)
    ∙ ap (λ (x : ℕ). units f s x k) (one.1 ∙ sym other.1)
    ∙ ap (λ (x : ℕ). units f s (kept p (a * 2 ^ i * 2 ^ l) (b * 2 ^ j)) x) (sym other.0)
    ∙ sym (round_is f s (a * 2 ^ i) (b * 2 ^ j))
  where
    cover : (z p : ℕ) → z ≤ p + (z - p)
    cover z p = omega arith

    two_on : (p m k j : ℕ) → suc p + m < p + (k + j) → 2 ≤ j + k - m
    two_on p m k j h = omega arith

    whole : (p m k j : ℕ) → suc p + m < p + (k + j) → m + (j + k - m) ≡ j + k
    whole p m k j h = omega arith

    place : (p m c k j : ℕ) → m + c ≡ j + k → p + (k + j) ≡ p + c + m
    place p m c k j h = omega arith

    place' : (p m c k j : ℕ) → m + c ≡ j + k → p - 1 + c + m ≡ p - 1 + k + j
    place' p m c k j h = omega arith

    shift : (w x y z : ℕ) → w * (x * y * z) ≡ w * x * y * z
    shift w x y z = sym (mul_assoc w (x * y) z) ∙ ap (λ (u : ℕ). u * z) (sym (mul_assoc w x y))
