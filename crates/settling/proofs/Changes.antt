-- What a verdict makes of a row. Assumes nothing.
use Rattle.std.proofs.Common.{◌≡◌, ℕ, Bool, true, false, cond, List, sym, refl, true≢false}
use lib.Ieee.{Float}
use Rattle.rows.specs.declared.SlabResolution.{SlabResolution}
use Rattle.rows.specs.declared.SlabResolution.TheVariants.{Scalar, Mesh, Repulsive}
use Rattle.rows.specs.Rows.{Rows, replaced, row_with}
use Rattle.settling.specs.Settling.{new_row, in_place_of, not_repulsive, replaced_by, packed_row}
use Rattle.settling.specs.Internal.{stays, becomes, left_row, is_clear, packed_in}
use Rattle.settling.specs.declared.Verdict.{Verdict}
use Rattle.settling.specs.declared.Verdict.TheVariants.{Empty, Blocked, Isotropic, Smooth, Rough}

-- a row with no energies, at whatever level
pub either_way : {A : Type 0} (b : Bool) (x : A) → cond b x x ≡ x
either_way true x = refl
either_way false x = refl

pub row_stays : (r : Rows) (s c : ℕ) (v : Verdict) → stays v ≡ true → r ≡ replaced_by r s (new_row c v)
row_stays r s c Empty e = refl
row_stays r s c Blocked e = absurd (true≢false (sym e))
row_stays r s c (Isotropic x) e = absurd (true≢false (sym e))
row_stays r s c (Smooth x) e = absurd (true≢false (sym e))
row_stays r s c (Rough x) e = refl

pub row_becomes : (r : Rows) (s c : ℕ) (v : Verdict) → stays v ≡ false → replaced r s (becomes c v) ≡ replaced_by r s (new_row c v)
row_becomes r s c Empty e = absurd (true≢false e)
row_becomes r s c Blocked e = refl
row_becomes r s c (Isotropic x) e = refl
row_becomes r s c (Smooth x) e = refl
row_becomes r s c (Rough x) e = absurd (true≢false e)

same_clear : (x : SlabResolution) (e : List Float) → is_clear x ≡ not_repulsive (row_with x e)
same_clear (Scalar y) e = refl
same_clear (Mesh v b) e = refl
same_clear Repulsive e = refl

pub row_clear : (x : SlabResolution) (e : List Float) (c : ℕ) (v : Verdict) → is_clear (left_row c x v) ≡ not_repulsive (in_place_of (row_with x e) (new_row c v))
unfolding left_row
row_clear x e c Empty = same_clear x e
row_clear x e c Blocked = refl
row_clear x e c (Isotropic y) = refl
row_clear (Scalar z) e c (Smooth y) = refl
row_clear (Mesh v b) e c (Smooth y) = refl
row_clear Repulsive e c (Smooth y) = refl
row_clear x e c (Rough y) = same_clear x e

pub same-packed : (x : SlabResolution) (e : List Float) → packed_in x ≡ packed_row (row_with x e)
same-packed (Scalar y) e = refl
same-packed (Mesh v b) e = refl
same-packed Repulsive e = refl

pub row_packed : (x : SlabResolution) (e : List Float) (c : ℕ) (v : Verdict) → packed_in (left_row c x v) ≡ packed_row (in_place_of (row_with x e) (new_row c v))
unfolding left_row
row_packed x e c Empty = same-packed x e
row_packed x e c Blocked = refl
row_packed x e c (Isotropic y) = refl
row_packed x e c (Smooth y) = refl
row_packed x e c (Rough y) = same-packed x e
