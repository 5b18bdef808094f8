-- Write of a table against an atom: what it answers, and what it leaves in the output. Definitions only.
use Rattle.std.specs.Prelude.{cond, List, map, ℕ, suc, length, leb, eqb}
use Rattle.lists.specs.Questions.{ask, first}
use Rattle.lists.specs.Lists.{put}
use Rattle.mesh.specs.Levels.{vertex_count}
use Rattle.mesh.specs.Mesh.{Mesh}
use Rattle.rows.specs.Rows.{compared}
use Rattle.builder.specs.declared.AtomBuilder.{AtomBuilder}
use Rattle.builder.specs.BuilderLists.{BuilderLists, rows_in, rows_known}
use Rattle.builder.specs.Atom.{atom_meshed_refusal}
use Rattle.table.specs.Atom.{atom_file_of}
use Rattle.writer.specs.Write.{WrittenValues}

-- the file of a builder and the lists that it holds
unfoldable pub atom_file_from : AtomBuilder → BuilderLists → List ℕ
atom_file_from b l = atom_file_of b.grid (suc b.top) (map compared (rows_in vertex_count b.top l 0 b.grid.n_r))

-- 1 to 7, 15 of every row, then 12
unfoldable pub atom_write_refusal : AtomBuilder → Mesh → BuilderLists → ℕ → ℕ
atom_write_refusal b m l room =
    first (atom_meshed_refusal b m l)
    (ask (rows_known b.top l.rows 0 b.grid.n_r) 15
    (ask (leb (length (atom_file_from b l)) room) 12 0))

-- what write leaves: the builder and the lists, which it does not alter, and the output
pub record AtomWriteOut : Type 0 where
  pub answer : WrittenValues
  pub builder : AtomBuilder
  pub lists : BuilderLists
  pub output : List ℕ

-- "Bytes beyond the file stay."
unfoldable pub atom_write_out : AtomBuilder → Mesh → BuilderLists → List ℕ → AtomWriteOut
atom_write_out b m l out =
    let r = atom_write_refusal b m l (length out) in
    cond (eqb r 0)
    (record { answer = record { number = 0; length = length (atom_file_from b l) }; builder = b; lists = l; output = put out 0 (atom_file_from b l) })
    (record { answer = record { number = r; length = 0 }; builder = b; lists = l; output = out })
