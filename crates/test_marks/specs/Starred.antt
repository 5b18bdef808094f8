-- The marks that document 01 stars in "Worked marks", but for E(-709) = 0, which document 02 withdraws, as one table over the definitions that the contracts cite: `starred` proves all of its rows at once, by computation.
-- Numbers in hexadecimal are bit patterns.
use Rattle.std.specs.Prelude.{◌≡◌, refl, true, List, [], ◌∷◌, ℕ}
use Rattle.std.specs.Float.{binary32, binary64}
use Rattle.std.specs.Float.Ieee.{to_bits}
use Rattle.ieee.specs.Root.{root}
use Rattle.ieee.specs.Fused.{fused}
use Rattle.ieee.specs.Narrow.{narrowed}
use Rattle.grid.specs.Bins.{distance_bin, dihedral_count, dihedral_bin}
use Rattle.float.specs.Exp.{exponential}
use Rattle.mesh.specs.Mesh.{meshes_keep}
use Rattle.search.specs.Geometry.{cube_project}
use Rattle.ledger.specs.Promise.{fresh, last_write, file}
use Rattle.test_marks.specs.Icospheres.{icosahedron}
use Rattle.test_marks.specs.Computed.{f64, history, computed}

-- the 66 bytes, in the groups of document 01: `03000000 0000000000000000 000000000000F03F 0000000000001840 02000000 01000000 01000000 01000000 0C000000
-- 01000000 00 00 FFFFFFFF 00000000 00000000`
abbrev sixty_six : List ℕ
sixty_six =
    0x03 ∷ 0x00 ∷ 0x00 ∷ 0x00 ∷
    0x00 ∷ 0x00 ∷ 0x00 ∷ 0x00 ∷ 0x00 ∷ 0x00 ∷ 0x00 ∷ 0x00 ∷
    0x00 ∷ 0x00 ∷ 0x00 ∷ 0x00 ∷ 0x00 ∷ 0x00 ∷ 0xF0 ∷ 0x3F ∷
    0x00 ∷ 0x00 ∷ 0x00 ∷ 0x00 ∷ 0x00 ∷ 0x00 ∷ 0x18 ∷ 0x40 ∷
    0x02 ∷ 0x00 ∷ 0x00 ∷ 0x00 ∷
    0x01 ∷ 0x00 ∷ 0x00 ∷ 0x00 ∷
    0x01 ∷ 0x00 ∷ 0x00 ∷ 0x00 ∷
    0x01 ∷ 0x00 ∷ 0x00 ∷ 0x00 ∷
    0x0C ∷ 0x00 ∷ 0x00 ∷ 0x00 ∷
    0x01 ∷ 0x00 ∷ 0x00 ∷ 0x00 ∷
    0x00 ∷
    0x00 ∷
    0xFF ∷ 0xFF ∷ 0xFF ∷ 0xFF ∷
    0x00 ∷ 0x00 ∷ 0x00 ∷ 0x00 ∷
    0x00 ∷ 0x00 ∷ 0x00 ∷ 0x00 ∷
    []

pub record Starred : Type 0 where
  -- root of 2 is 3FF6A09E667F3BCD
  pub root_of_two : to_bits binary64 (root (f64 0x4000_0000_0000_0000)) ≡ 0x3FF6_A09E_667F_3BCD
  -- fused (1 + 2^-30)(1 - 2^-30) - 1 is -2^-60 (BC30000000000000)
  pub fused-once : to_bits binary64 (fused (f64 0x3FF0_0000_0040_0000) (f64 0x3FEF_FFFF_FF80_0000) (f64 0xBFF0_0000_0000_0000)) ≡ 0xBC30_0000_0000_0000
  -- 16,777,217 (4170000010000000) narrows to 16,777,216 (4B800000)
  pub narrows_down : to_bits binary32 (narrowed (f64 0x4170_0000_1000_0000)) ≡ 0x4B80_0000
  -- 16,777,219 (4170000030000000) to 16,777,220 (4B800002)
  pub narrows_up : to_bits binary32 (narrowed (f64 0x4170_0000_3000_0000)) ≡ 0x4B80_0002
  -- E(0) = 1
  pub exp_of_zero : to_bits binary64 (exponential (f64 0)) ≡ 0x3FF0_0000_0000_0000
  -- (1,1,1) projects to face 0 at (1,1)
  pub projects : computed (cube_project (record { x = f64 0x3FF0_0000_0000_0000; y = f64 0x3FF0_0000_0000_0000; z = f64 0x3FF0_0000_0000_0000 })) ≡ record { face = 0; u = computed (f64 0x3FF0_0000_0000_0000); w = computed (f64 0x3FF0_0000_0000_0000) }
  -- the 66 bytes: fresh's settings and top level with a lent mesh that keeps the rule, fresh accepted, write accepted with 66, and the file
  pub mesh-kept : computed (meshes_keep 0 icosahedron) ≡ true
  pub fresh_accepted : computed (fresh (history [])).answer.number ≡ 0
  pub write_answer : computed (last_write (history [])).answer ≡ record { number = 0; length = 66 }
  -- S17.1
  pub bytes : computed (file (history [])) ≡ sixty_six
  -- with rmin 0, dr 1, four bins: r 0.5 in bin 1
  pub distance_half : distance_bin (f64 0x3FE0_0000_0000_0000) (f64 0) (f64 0x3FF0_0000_0000_0000) 4 ≡ 1
  -- r 4 in bin 3
  pub distance_last : distance_bin (f64 0x4010_0000_0000_0000) (f64 0) (f64 0x3FF0_0000_0000_0000) 4 ≡ 3
  -- step 3: omega 6 in bin 0 of 2
  pub dihedral_first : (dihedral_count (f64 0x4008_0000_0000_0000) ≡ 2) × (dihedral_bin (f64 0x4018_0000_0000_0000) (f64 0x4008_0000_0000_0000) 2 ≡ 0)

pub starred : Starred
unfolding computed dihedral_count
starred = record {
  root_of_two = refl;
  fused-once = refl;
  narrows_down = refl;
  narrows_up = refl;
  exp_of_zero = refl;
  projects = refl;
  mesh-kept = refl;
  fresh_accepted = refl;
  write_answer = refl;
  bytes = refl;
  distance_half = refl;
  distance_last = refl;
  dihedral_first = (refl, refl);
}
