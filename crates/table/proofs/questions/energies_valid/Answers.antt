use mathlib.Core.Path.{◌≡◌, refl, sym, ◌∙◌}
use mathlib.Core.Bool.{Bool, not}
use mathlib.Core.List.{List}
use Prim.Native.Nat.{ℕ, ◌+◌, ◌*◌, ◌/◌}
use native.Mathlib.Omega.{arith}
use lib.ListN.{take, drop}
use lib.Ieee.{binary32, nan_bits}
use Rattle.lists.specs.Lists.{all_up_to}
use Rattle.table.specs.Bytes.{number_of, number_at}
use Rattle.table.proofs.Items.{every_up_to, two_more, one_more}
use Rattle.table.proofs.questions.energies_valid.Goals as goal

-- energy k is a number
abbrev number : List ℕ → ℕ → ℕ → Bool
number file start k = not (nan_bits binary32 (number_of (take 4 (drop (start + k * 4) file))))

pub loop-i-init : goal.loop-i-init
unfolding all_up_to
loop-i-init c = refl

pub loop-i-preserved : goal.loop-i-preserved
unfolding number_at
loop-i-preserved c =
    let a = c.args in
    let s = a.energies.start in
    let i = c.loop-i.i in
    let x : s + i * 8 ≡ s + i * 2 * 4 = omega arith in
    let y : s + i * 2 * 4 + 4 ≡ s + (i * 2 + 1) * 4 = omega arith in
    rw (c.pair_valid-held.ensures, x, y) (two_more (number a.file.now s) i c.loop-i.held c.loop-i.invariant)

pub returns-then-energies-eq1 : goal.returns-then-energies-eq1
unfolding number_at
returns-then-energies-eq1 c =
    let a = c.args in
    let s = a.energies.start in
    let n = a.energies.count in
    let x : s + n / 2 * 8 ≡ s + n / 2 * 2 * 4 = omega arith in
    let i : c.loop-i.i ≡ n / 2 = omega arith in
    rw (c.nan_bits.ensures, c.u32_in.ensures, x)
    (one_more (number a.file.now s) (n / 2) n c.loop-i.held (rw i at c.loop-i.invariant) (omega arith) ∙ sym (every_up_to number_of 4 a.file.now (λ k. not (nan_bits binary32 k)) s n))

pub returns : goal.returns
returns c =
    let a = c.args in
    let n = a.energies.count in
    let i : c.loop-i.i * 2 ≡ n = omega (arith, c.if-energies-eq1.false) in
    rw i at c.loop-i.invariant ∙ sym (every_up_to number_of 4 a.file.now (λ k. not (nan_bits binary32 k)) a.energies.start n)
