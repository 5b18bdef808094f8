-- What the first stage of many readings leaves, and the answer that the second makes of it. Assumes nothing.
use mathlib.Core.Path.{◌≡◌, sym, subst}
use mathlib.Core.List.{List}
use mathlib.Core.Logic.{⊎_elim}
use Rattle.std.proofs.Common.{Result, Ok, Err}
use Prim.Native.Nat.{ℕ, ◌+◌, ◌*◌, ◌≤◌, ◌<◌}
use native.Mathlib.Nat.{eq-or-lt_of_le}
use native.Mathlib.Omega.{arith}
use lib.ListN.{length, get_or, set}
use lib.Seq.{get_or-set_same, get_or-set_other}
use lib.Ieee.{Float}
use Rattle.table.specs.Bytes.{number_at}
use Rattle.reading.specs.Resolve.{Reading, Energy, Refused, reading_of, plain, widened}
use Rattle.reading.specs.Internal.{PlaceInside, CornersInside, face_terms, finished, StagedInside, Ready}
use Rattle.refusals.specs.Numbers.{number}
use Rattle.refusals.specs.declared.Refusal.{Refusal}
use Rattle.reading.specs.declared.Energy.{Energy as EnergyRead}
use Rattle.reading.specs.declared.Corners.{Corners}
use Rattle.reading.specs.declared.Staged.{Staged}
use Rattle.reading.specs.declared.Staged.TheVariants.{Known, Pair, Faces}

module _ (file : List ℕ) (start : ℕ) (a : Reading) where
  pub ready_none : (z : Result Staged Refusal) (e : Refusal) → z ≡ Err e → Refused (number e) ≡ a → Ready file start z a
  unfolding finished StagedInside
  ready_none z e h v = rw h (record { inside = tt; is = v })

  pub ready_known : (e : EnergyRead) → reading_of (Ok e) ≡ a → Ready file start (Ok (Known e)) a
  unfolding finished StagedInside
  ready_known e v = record { inside = tt; is = v }

  pub ready_pair : (k : ℕ) (x y : Float) → PlaceInside file start k → Energy x (widened (number_at 4 file (start + k * 4))) y ≡ a → Ready file start (Ok (Pair k x y)) a
  unfolding finished StagedInside
  ready_pair k x y l v = record { inside = l; is = v }

  pub ready_faces : (c : Corners) → CornersInside file start c → plain (face_terms file start c.offset c.n c.f c.g c.p c.q) ≡ a → Ready file start (Ok (Faces c)) a
  unfolding finished StagedInside
  ready_faces c l v = record { inside = l; is = v }

pub ready_same : {file : List ℕ} {start : ℕ} {z : Result Staged Refusal} {a b : Reading} → Ready file start z a → a ≡ b → Ready file start z b
ready_same r e = rw e at r

-- a block of poses: what was kept of each is ready for its answer
module _ (file : List ℕ) (start : ℕ) (answer : ℕ → Reading) where
  abbrev pub AllReady : List (Result Staged Refusal) → ℕ → Type 0
  AllReady kept i = (k : ℕ) (d : Result Staged Refusal) → k < i → Ready file start (get_or kept k d) (answer k)

  pub block_ready : (kept : List (Result Staged Refusal)) → AllReady kept 0
  block_ready kept k d h = absurd (omega (arith, h))

  pub ready_more : (kept : List (Result Staged Refusal)) (i : ℕ) (z : Result Staged Refusal) → i < length kept → AllReady kept i → Ready file start z (answer i) → AllReady (set kept i z) (i + 1)
  ready_more kept i z l h r k d m =
      let n : k ≤ i = omega (arith, m) in
      ⊎_elim
      (λ e.
      let q : get_or (set kept i z) k d ≡ z = subst (λ (j : ℕ). get_or (set kept i z) j d ≡ z) (sym e) (get_or-set_same kept i z d l) in
      subst (λ (x : Result Staged Refusal). Ready file start x (answer k)) (sym q) (subst (λ (j : ℕ). Ready file start z (answer j)) (sym e) r))
      (λ o. let ne : (k ≡ i → ⊥) = λ e. omega (arith, e, o) in rw (get_or-set_other kept i k z d ne) (h k d o))
      (eq-or-lt_of_le n)
