-- Loops whose turns commute may be taken in another order. Assumes nothing.
use Rattle.std.proofs.Common.{◌≡◌, ℕ, zero, suc, ◌+◌, ◌<◌, sym, refl, ap, ◌∙◌, arith}
use Rattle.lists.specs.Lists.{for_each}
use Rattle.lists.proofs.Loops.{each_turn}

module _ {S : Type 0} where
  abbrev pub Commute : (S → S) → (S → S) → Type 0
  Commute f g = (s : S) → f (g s) ≡ g (f s)

  -- what commutes with every turn commutes with the loop
  pub each_commutes : (n : ℕ) (f : ℕ → S → S) (g : S → S) → ((k : ℕ) → Commute (f k) g) → Commute (for_each n f) g
  unfolding for_each
  each_commutes zero f g h s = refl
  each_commutes (suc n) f g h s = ap (f n) (each_commutes n f g h s) ∙ h n (for_each n f s)

  pub loops_commute : (n m : ℕ) (f g : ℕ → S → S) → ((j k : ℕ) → Commute (f j) (g k)) → Commute (for_each n f) (for_each m g)
  loops_commute n m f g h = each_commutes n f (for_each m g) (λ j t. sym (each_commutes m g (f j) (λ k u. sym (h j k u)) t))

  -- two things in a turn are two loops
  pub each_split : (n : ℕ) (f g : ℕ → S → S) → ((j k : ℕ) → Commute (f j) (g k)) → (s : S) → for_each n (λ k t. f k (g k t)) s ≡ for_each n f (for_each n g s)
  unfolding for_each
  each_split zero f g h s = refl
  each_split (suc n) f g h s =
      ap (λ (t : S). f n (g n t)) (each_split n f g h s) ∙ ap (f n) (sym (each_commutes n f (g n) (λ k. h k n) (for_each n g s)))

  -- a loop in a loop, the other way round
  pub each_swap : (n m : ℕ) (f : ℕ → ℕ → S → S) → ((i j k l : ℕ) → Commute (f i j) (f k l)) → (s : S)
      → for_each n (λ i. for_each m (f i)) s ≡ for_each m (λ j. for_each n (λ i. f i j)) s
  unfolding for_each
  each_swap zero m f h s = none m s
    where
      none : (m : ℕ) (s : S) → s ≡ for_each m (λ j t. t) s
      none zero s = refl
      none (suc m) s = none m s
  each_swap (suc n) m f h s =
      ap (for_each m (f n)) (each_swap n m f h s)
      ∙ sym (each_split m (f n) (λ j. for_each n (λ i. f i j)) (λ j k t. sym (each_commutes n (λ i. f i k) (f n j) (λ i. h i k n j) t)) s)

  -- turns that do the same
  pub each_same : (n : ℕ) (f g : ℕ → S → S) → ((k : ℕ) (s : S) → k < n → f k s ≡ g k s) → (s : S) → for_each n f s ≡ for_each n g s
  unfolding for_each
  each_same zero f g h s = refl
  each_same (suc n) f g h s = ap (f n) (each_same n f g (λ k t l. h k t (omega arith)) s) ∙ h n (for_each n g s) (omega arith)

  -- what every turn keeps the loop keeps
  pub each_keeps : (P : S → Type 0) (n : ℕ) (f : ℕ → S → S) → ((k : ℕ) (s : S) → P s → P (f k s)) → (s : S) → P s → P (for_each n f s)
  unfolding for_each
  each_keeps P zero f h s p = p
  each_keeps P (suc n) f h s p = h n (for_each n f s) (each_keeps P n f h s p)

  -- four turns
  pub each_four : (f : ℕ → S → S) (k : ℕ) (s t : S) → t ≡ for_each k f s → f (k + 3) (f (k + 2) (f (k + 1) (f k t))) ≡ for_each (k + 4) f s
  each_four f k s t e =
      let a : k + 2 ≡ k + 1 + 1 = omega arith in
      let b : k + 3 ≡ k + 1 + 1 + 1 = omega arith in
      let c : k + 4 ≡ k + 1 + 1 + 1 + 1 = omega arith in
      rw (a, b, c) (each_turn f (k + 1 + 1 + 1) s _ (each_turn f (k + 1 + 1) s _ (each_turn f (k + 1) s _ (each_turn f k s t e))))
