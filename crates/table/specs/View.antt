-- Read under a bound (document 02, paper 10): the reader of the host and that of the viewer are one, with two bounds. Definitions only.
use Rattle.std.specs.Prelude.{◌≡◌, Bool, not, cond, ◌&&◌, List, ℕ, ◌≤◌, leb, eqb}
use Rattle.std.specs.Float.{binary32}
use Rattle.std.specs.Float.Ieee.{nan_bits}
use Rattle.lists.specs.Questions.{ask}
use Rattle.lists.specs.Lists.{every}
use Rattle.mesh.specs.Levels.{per}
use Rattle.table.specs.Tail.{tail_valid}
use Rattle.table.specs.Read.{layout, table_laid_out, table_of, row_items, energy_items, tail_in, table_valid, entry_valid, tiled, ReadValues, no_table, read_out}
use Rattle.table.specs.declared.Bound.{Bound}
use Rattle.table.specs.declared.Layout.{Layout}
use Rattle.table.specs.declared.Table.{Table}

-- "The bench viewer opens the same files under smaller bounds: at most 4 levels and 4,096 rows." (S21.1)
abbrev pub viewer : Bound
viewer = record { levels = 4; rows = 4096 }

-- "The large bounds hold for the host as before": 14 lets no more pass than 16 levels and 65,535 bins of each kind (S21.2)
abbrev pub host : Bound
host = record { levels = 16; rows = 4294836225 }

-- 24: no bound is passed
unfoldable pub within : Bound → Table → Bool
within b t = leb t.levels b.levels && leb t.rows b.rows

-- "Both callers use the same reader over a bound". "Refused: 24, after 14 .., where a bound is passed" (S21.3)
unfoldable pub read_refusal_over : Bound → List ℕ → Layout → Table → ℕ
read_refusal_over b file p t =
    ask (table_laid_out file p) 13
    (ask (table_valid file t) 14
    (ask (within b t) 24
    (ask (every (entry_valid t.levels) (row_items file t)) 15
    (ask (tiled per 0 t.energies (row_items file t)) 16
    (ask (every (λ x. not (nan_bits binary32 x)) (energy_items file t)) 17
    (ask (tail_valid (tail_in file t)) 23 0))))))

unfoldable pub read_over : Bound → List ℕ → ReadValues
read_over b file =
    let p = layout file in
    let t = table_of file p in
    let r = read_refusal_over b file p t in
    cond (eqb r 0) (record { number = 0; table = t }) (record { number = r; table = no_table })

-- ---- what is promised

-- no bound of b is larger than that of c
pub record Smaller (b c : Bound) : Type 0 where
  pub levels : b.levels ≤ c.levels
  pub rows : b.rows ≤ c.rows

-- "what the viewer accepts the large reader accepts with the same contents": what a bound accepts a larger one accepts, with the same table (S21.4)
abbrev pub AcceptedAlike : Type 0
AcceptedAlike = (b c : Bound) → Smaller b c → (file : List ℕ) → (read_over b file).number ≡ 0 → read_over c file ≡ read_over b file

-- the host's reader is the one of document 01: its bound never refuses (S21.5)
abbrev pub HostReads : Type 0
HostReads = (file : List ℕ) → read_over host file ≡ read_out file
