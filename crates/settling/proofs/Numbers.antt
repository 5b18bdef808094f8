-- The gradient so far stays a number. Assumes nothing.
use Rattle.std.proofs.Common.{◌≡◌, ℕ, ◌+◌, ◌*◌, Bool, true, false, cond, List, get_or, sym, refl, ap, one-mul}
use lib.Ieee.{Float, nan, binary64, of_bits, sub, div, lt, is_nan}
use Rattle.float.specs.Order.{magnitude, larger}
use Rattle.lists.proofs.Loops.{each_turn}
use Rattle.mesh.specs.Mesh.{Mesh, degree, neighbour, angle_to}
use Rattle.settling.specs.Gradient.{zero, steeper, along_neighbours}
use Rattle.settling.specs.Internal.{line_weights, line_gradient, column_gradient, four_columns, first_columns, lines_gradient}
use Rattle.settling.proofs.Largest.{larger-number}
use Rattle.settling.proofs.Orders.{each_same, each_keeps, each_four}

abbrev pub Number : Float → Type 0
Number x = is_nan x ≡ false

pub zero_number : Number zero
unfolding is_nan of_bits
zero_number = refl

chosen : (b : Bool) (x y : Float) → Number x → Number y → Number (cond b x y)
chosen true x y h k = h
chosen false x y h k = k

pub steeper_number : (x y angle g : Float) → Number g → Number (steeper x y angle g)
unfolding steeper
steeper_number x y angle g h =
    let q = div binary64 (magnitude (sub binary64 x y)) angle in
    chosen (lt (of_bits binary64 0x3D71_9799_812D_EA11) angle) (larger g q) g (larger-number g q (is_nan q) h refl) h

module _ (m : Mesh) where
  pub neighbours_number : (v : ℕ) (weightAt : ℕ → Float) (x g : Float) → Number g → Number (along_neighbours m v weightAt x g)
  unfolding along_neighbours
  neighbours_number v weightAt x g =
      each_keeps Number (degree m v) (λ k. steeper x (weightAt (neighbour m v k)) (angle_to m v k)) (λ k. steeper_number x (weightAt (neighbour m v k)) (angle_to m v k)) g

  pub line_number : (n : ℕ) (ws : List Float) (g : Float) → Number g → Number (line_gradient m n ws g)
  unfolding line_gradient
  line_number n ws g =
      each_keeps Number n (λ v. along_neighbours m v (λ k. get_or ws k nan) (get_or ws v nan)) (λ v. neighbours_number v (λ k. get_or ws k nan) (get_or ws v nan)) g

  pub column_number : (n : ℕ) (beta : Float) (e : List Float) (t : ℕ) (g : Float) → Number g → Number (column_gradient m n beta e t g)
  unfolding column_gradient
  column_number n beta e t g = line_number n (line_weights beta e t n n) g

  pub columns_number : (n : ℕ) (beta : Float) (e : List Float) (k : ℕ) → Number (first_columns m n beta e k)
  unfolding first_columns
  columns_number n beta e k = each_keeps Number k (column_gradient m n beta e) (column_number n beta e) zero zero_number

  -- all columns are lines that begin one place after another
  pub columns_are : (n : ℕ) (beta : Float) (e : List Float) → first_columns m n beta e n ≡ lines_gradient m n beta e 1 n zero
  unfolding first_columns column_gradient lines_gradient
  columns_are n beta e =
      each_same n (column_gradient m n beta e) (λ t. line_gradient m n (line_weights beta e (1 * t) n n)) (λ t s h. ap (λ (z : ℕ). line_gradient m n (line_weights beta e z n n) s) (sym (one-mul t))) zero

  -- one column more, and four
  pub columns_one : (n : ℕ) (beta : Float) (e : List Float) (k : ℕ) → column_gradient m n beta e k (first_columns m n beta e k) ≡ first_columns m n beta e (k + 1)
  unfolding first_columns
  columns_one n beta e k = each_turn (column_gradient m n beta e) k zero (first_columns m n beta e k) refl

  pub columns_four : (n : ℕ) (beta : Float) (e : List Float) (k : ℕ) → four_columns m n beta e k (first_columns m n beta e k) ≡ first_columns m n beta e (k + 4)
  unfolding first_columns four_columns
  columns_four n beta e k = each_four (column_gradient m n beta e) k zero (first_columns m n beta e k) refl
