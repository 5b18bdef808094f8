-- What one reads after another wrote. Assumes nothing.
use mathlib.Core.Path.{◌≡◌, refl}
use mathlib.Core.Bool.{true, false}
use Prim.Native.Nat.{ℕ, ◌<◌}
use lib.Dec.{T}
use lib.ListN.{length}
use lib.Seq.{get_or-set_same, get_or-set_other}
use lib.Ieee.{binary32, fits}
use lib.Ieee.Bits.{of_bits-to_bits}
use Rattle.rows.specs.declared.SlabResolution.{SlabResolution}
use Rattle.rows.specs.declared.SlabResolution.TheVariants.{Scalar, Mesh, Repulsive}
use Rattle.rows.specs.Rows.{Rows, kind_of, level_of, value_of, resolution_of, resolution_at, replaced}

-- a scalar is a value that an f32 can have
abbrev pub Held : SlabResolution → Type 0
Held (Scalar x) = T (fits binary32 x)
Held (Mesh v b) = Unit {0}
Held Repulsive = Unit {0}

-- a row's numbers are that row
pub numbers_back : (x : SlabResolution) → Held x → resolution_of (kind_of x) (level_of x) (value_of x) ≡ x
unfolding resolution_of
numbers_back (Scalar x) h = rw (of_bits-to_bits binary32 x h)
numbers_back (Mesh v true) h = refl
numbers_back (Mesh v false) h = refl
numbers_back Repulsive h = refl

pub read_written : (r : Rows) (s : ℕ) (x : SlabResolution) → Held x → s < length r.kinds → s < length r.levels → s < length r.values → resolution_at (replaced r s x) s ≡ x
unfolding resolution_at replaced
read_written r s x h k l v =
    rw (get_or-set_same r.kinds s (kind_of x) 0 k, get_or-set_same r.levels s (level_of x) 0 l, get_or-set_same r.values s (value_of x) 0 v) (numbers_back x h)

pub read_other : (r : Rows) (s t : ℕ) (x : SlabResolution) → (t ≡ s → ⊥) → resolution_at (replaced r s x) t ≡ resolution_at r t
unfolding resolution_at replaced
read_other r s t x n = rw (get_or-set_other r.kinds s t (kind_of x) 0 n, get_or-set_other r.levels s t (level_of x) 0 n, get_or-set_other r.values s t (value_of x) 0 n)
