-- The checks that the Rust makes of a table that it loads. "An accepted file also passes `check_grid` and `check_slabs`." Definitions only.
use Rattle.std.specs.Prelude.{Bool, not, ◌&&◌, ◌||◌, List, ℕ, ◌+◌, ◌*◌, leb, ltb, eqb}
use Rattle.std.specs.Float.Ieee.{lt}
use Rattle.std.specs.Float.Ieee.Scale.{finite}
use Rattle.lists.specs.Lists.{every}
use Rattle.grid.specs.Bins.{distance_count, dihedral_count}
use Rattle.grid.specs.Settings.{above}
use Rattle.grid.specs.declared.Grid.{Grid}
use Rattle.table.specs.Bytes.{number_at}
use Rattle.table.specs.File.{Entry}
use Rattle.table.specs.Read.{row_items}
use Rattle.table.specs.declared.Table.{Table}

-- `check_grid`: rmin is finite and rmax above it, dr and the dihedral step are finite and above 0, each count is the one that the settings give, and neither is 0 (S9.3)
unfoldable pub check_grid : Grid → Bool
check_grid g =
    finite g.rmin && (lt g.rmin g.rmax && (above g.dr && (above g.omega_step
    && (eqb g.n_r (distance_count g.rmin g.rmax g.dr) && (eqb g.n_omega (dihedral_count g.omega_step)
    && (ltb 0 g.n_r && ltb 0 g.n_omega))))))

-- `check_slabs`, of a row: the level of a Mesh row is one of the table's; its offset is not FFFFFFFF; its n·n energies, n being the level's count in section 3, end inside section 5
unfoldable pub slab_checked : List ℕ → Table → Entry → Bool
slab_checked file t r =
    let n = number_at 4 file (t.levels_start + 4 * r.level) in
    leb r.kind 1 || (ltb r.level t.levels && (not (eqb r.offset 0xFFFF_FFFF) && leb (n * n + r.offset) t.energies))

-- `check_slabs`: as many rows as slabs, a number that an usize of 32 bits holds too, and each row (S9.3)
unfoldable pub check_slabs : List ℕ → Table → Bool
check_slabs file t =
    let n = t.grid.n_r * t.grid.n_omega in
    leb n 4294967295 && (eqb t.rows n && every (slab_checked file t) (row_items file t))
