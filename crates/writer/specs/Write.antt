-- Write: what it answers, and what it leaves in the output. Definitions only.
use Rattle.std.specs.Prelude.{cond, List, map, ℕ, suc, length, leb, eqb, Result, Ok, Err}
use Rattle.lists.specs.Questions.{ask, first}
use Rattle.lists.specs.Lists.{put}
use Rattle.mesh.specs.Mesh.{Mesh}
use Rattle.rows.specs.Rows.{compared}
use Rattle.builder.specs.declared.Builder.{Builder}
use Rattle.builder.specs.BuilderLists.{BuilderLists, slabs, rows_from, rows_known}
use Rattle.builder.specs.Refusals.{meshed_refusal}
use Rattle.table.specs.File.{file_of}
use Rattle.refusals.specs.declared.Refusal.{Refusal}
use Rattle.refusals.specs.Numbers.{number}

-- 01's number and value for each case of the answer: "write returns its length in bytes"; beside a number that refuses stands 0
pub record WrittenValues : Type 0 where
  pub number : ℕ
  pub length : ℕ

abbrev pub written_values : Result ℕ Refusal → WrittenValues
written_values (Ok n) = record { number = 0; length = n }
written_values (Err e) = record { number = number e; length = 0 }

-- the file of a builder and the lists that it holds. "The level count is the top level plus one."
unfoldable pub file_from : Builder → BuilderLists → List ℕ
file_from b l = file_of b.grid (suc b.top) (map compared (rows_from b.top l 0 (slabs b.grid)))

-- "write before 12, put the kind and level part of 15 to each row touched"; "is the output at least as long as the file? 12"
unfoldable pub write_refusal : Builder → Mesh → BuilderLists → ℕ → ℕ
write_refusal b m l room =
    first (meshed_refusal b m l)
    (ask (rows_known b.top l.rows 0 (slabs b.grid)) 15
    (ask (leb (length (file_from b l)) room) 12 0))

-- what write leaves: the builder and the lists, which it does not alter, and the output
pub record WriteOut : Type 0 where
  pub answer : WrittenValues
  pub builder : Builder
  pub lists : BuilderLists
  pub output : List ℕ

-- "Bytes beyond the file stay."
unfoldable pub write_out : Builder → Mesh → BuilderLists → List ℕ → WriteOut
write_out b m l out =
    let r = write_refusal b m l (length out) in
    cond (eqb r 0)
    (record { answer = record { number = 0; length = length (file_from b l) }; builder = b; lists = l; output = put out 0 (file_from b l) })
    (record { answer = record { number = r; length = 0 }; builder = b; lists = l; output = out })
