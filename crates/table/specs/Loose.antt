-- The reader of loosely packed files (document 02, paper 13): gaps, shared parts and reordered offsets pass. Definitions only.
use Rattle.std.specs.Prelude.{not, cond, List, ℕ, eqb}
use Rattle.std.specs.Float.{binary32}
use Rattle.std.specs.Float.Ieee.{nan_bits}
use Rattle.lists.specs.Questions.{ask}
use Rattle.lists.specs.Lists.{every}
use Rattle.table.specs.Tail.{tail_valid}
use Rattle.table.specs.Read.{layout, table_laid_out, table_of, row_items, energy_items, tail_in, table_valid, entry_valid, ReadValues, no_table}
use Rattle.table.specs.Checks.{slab_checked}
use Rattle.table.specs.declared.Layout.{Layout}
use Rattle.table.specs.declared.Table.{Table}

-- "Refused: 25, in the place of 16 for this tool, where a row fails `check_slabs`." 17 is put to all of section 5, gaps too (S23.2)
unfoldable pub loose_refusal : List ℕ → Layout → Table → ℕ
loose_refusal file p t =
    ask (table_laid_out file p) 13
    (ask (table_valid file t) 14
    (ask (every (entry_valid t.levels) (row_items file t)) 15
    (ask (every (slab_checked file t) (row_items file t)) 25
    (ask (every (λ x. not (nan_bits binary32 x)) (energy_items file t)) 17
    (ask (tail_valid (tail_in file t)) 23 0)))))

unfoldable pub loose_out : List ℕ → ReadValues
loose_out file =
    let p = layout file in
    let t = table_of file p in
    let r = loose_refusal file p t in
    cond (eqb r 0) (record { number = 0; table = t }) (record { number = r; table = no_table })
