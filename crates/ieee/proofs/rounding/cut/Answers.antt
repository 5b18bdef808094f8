use Rattle.std.proofs.Common.{◌≡◌, ℕ, ◌+◌, ◌-◌, ◌*◌, ◌/◌, ◌%◌, ◌^◌, ◌<◌, ◌≤◌, ◌||◌, eqb, ltb, refl, ap, ◌∙◌, mod-eq_of_lt, arith, pow_pos}
use mir.Val.{bool_byte}
use Rattle.ieee.proofs.Steps.{cut_is, cut_rest}
use Rattle.ieee.proofs.Words.{one_shifted}
use Rattle.ieee.proofs.rounding.cut.Goals as goal
use Rattle.ieee.proofs.rounding.cut.Goals.{Start}

rest : (c : Start) → (c.args.w / 2 / 2 ^ c.args.n * 2 ^ c.args.n * 2 ≤ c.args.w) × (c.args.w - c.args.w / 2 / 2 ^ c.args.n * 2 ^ c.args.n * 2 < 2 * 2 ^ c.args.n)
rest c = cut_rest c.args.w (2 ^ c.args.n) (c.args.w / 2 / 2 ^ c.args.n) c.args.some (pow_pos c.args.n) refl

-- the shifts lose nothing
plain : (c : Start) → c.args.w / 2 / 2 ^ c.args.n * 2 ^ c.args.n % 2 ^ 64 ≡ c.args.w / 2 / 2 ^ c.args.n * 2 ^ c.args.n
plain c = mod-eq_of_lt (under (c.args.w / 2 / 2 ^ c.args.n * 2 ^ c.args.n) c.args.w (rest c).0 c.ranges.w.fits)
  where
    under : (x w : ℕ) → x * 2 ≤ w → w < 2 ^ 64 → x < 2 ^ 64
    under x w l h = omega arith

half : (c : Start) → 1 * 2 ^ c.args.n % 2 ^ 64 ≡ 2 ^ c.args.n
half c = one_shifted c.args.n c.requires

pub returns : goal.returns
returns c =
    let w = c.args.w in
    let h = 2 ^ c.args.n in
    let q = w / 2 / h in
    let s = c.args.some in
    ap (λ (x : ℕ). q + bool_byte (ltb (x - bool_byte (s || eqb (q % 2) 1)) (w - q * h % 2 ^ 64 * 2))) (half c)
    ∙ ap (λ (x : ℕ). q + bool_byte (ltb (h - bool_byte (s || eqb (q % 2) 1)) (w - x * 2))) (plain c)
    ∙ cut_is w h q s (pow_pos c.args.n) refl
