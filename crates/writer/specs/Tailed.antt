-- Write of a table with a long-range tail (document 02, paper 9): what it answers, and what it leaves in the output. Definitions only.
use Rattle.std.specs.Prelude.{◌≡◌, Bool, cond, ◌&&◌, ◌||◌, List, [], ◌∷◌, map, ℕ, zero, suc, length, get_or, leb, ltb, eqb, Float}
use Rattle.std.specs.Float.{nan}
use Rattle.lists.specs.Questions.{ask, first}
use Rattle.lists.specs.Lists.{put}
use Rattle.mesh.specs.Mesh.{Mesh, meshes_keep}
use Rattle.rows.specs.Rows.{compared}
use Rattle.builder.specs.declared.Builder.{Builder}
use Rattle.builder.specs.BuilderLists.{BuilderLists, slabs, rows_from, lists_long, meshes_long, rows_known}
use Rattle.builder.specs.Refusals.{builder_question}
use Rattle.table.specs.Tail.{Term, Tail, tail_valid}
use Rattle.table.specs.File.{full_file}
use Rattle.writer.specs.Write.{WriteOut, write_out}

-- the lists in which a tail is handed over: terms as many as coefficients, and a prefactor or none
pub record TailLists : Type 0 where
  pub coefficients : List Float
  pub kappas : List Float
  pub powers : List ℕ
  pub prefactor : List Float

abbrev pub tail_lists : List Float → List Float → List ℕ → List Float → TailLists
tail_lists cs ks ps f = record { coefficients = cs; kappas = ks; powers = ps; prefactor = f }

abbrev pub term_at : List Float → List Float → List ℕ → ℕ → Term
term_at cs ks ps i = record { coefficient = get_or cs i nan; kappa = get_or ks i nan; power = get_or ps i 0 }

-- n terms from the i-th on
unfoldable pub terms_from : List Float → List Float → List ℕ → ℕ → ℕ → List Term
terms_from cs ks ps i zero = []
terms_from cs ks ps i (suc n) = term_at cs ks ps i ∷ terms_from cs ks ps (suc i) n

abbrev pub terms_of : TailLists → List Term
terms_of t = terms_from t.coefficients t.kappas t.powers 0 (length t.coefficients)

abbrev pub handed : TailLists → Tail
handed t = record { terms = terms_of t; prefactor = get_or t.prefactor 0 nan }

-- 6, of these lists
abbrev pub tail_long : TailLists → Bool
tail_long t = leb (length t.coefficients) (length t.kappas) && leb (length t.coefficients) (length t.powers)

-- "22, by write after 15 and before 12, where terms are handed over without a prefactor; 23, in write after 22 .., where there are terms and a value is
-- not finite, a power is too large or the terms outnumber a u32 count"
unfoldable pub tail_question : TailLists → ℕ
tail_question t =
    ask (eqb (length t.coefficients) 0 || ltb 0 (length t.prefactor)) 22
    (ask (leb (length t.coefficients) 4294967295 && tail_valid (handed t)) 23 0)

-- 1 to 7, 15 of every row, 22, 23
unfoldable pub tailed_question : Builder → Mesh → BuilderLists → TailLists → ℕ
tailed_question b m l t =
    first (builder_question b)
    (ask (tail_long t && (lists_long b l && meshes_long b m)) 6
    (ask (meshes_keep b.top m) 7
    (ask (rows_known b.top l.rows 0 (slabs b.grid)) 15
    (tail_question t))))

-- the file of a builder, the lists that it holds and a tail
unfoldable pub full_file_from : Builder → BuilderLists → TailLists → List ℕ
full_file_from b l t = full_file b.grid (suc b.top) (map compared (rows_from b.top l 0 (slabs b.grid))) (handed t)

-- .. then 12
unfoldable pub write_tail_refusal : Builder → Mesh → BuilderLists → TailLists → ℕ → ℕ
write_tail_refusal b m l t room = first (tailed_question b m l t) (ask (leb (length (full_file_from b l t)) room) 12 0)

-- "Bytes beyond the file stay."
unfoldable pub write_tail_out : Builder → Mesh → BuilderLists → TailLists → List ℕ → WriteOut
write_tail_out b m l t out =
    let r = write_tail_refusal b m l t (length out) in
    cond (eqb r 0)
    (record { answer = record { number = 0; length = length (full_file_from b l t) }; builder = b; lists = l; output = put out 0 (full_file_from b l t) })
    (record { answer = record { number = r; length = 0 }; builder = b; lists = l; output = out })

-- a write without terms is the plain write, whatever else is handed over: "No terms means no section and no stored prefactor"
abbrev pub PlainWrite : Type 0
PlainWrite = (b : Builder) (m : Mesh) (l : BuilderLists) (t : TailLists) → length t.coefficients ≡ 0 → (out : List ℕ) → write_tail_out b m l t out ≡ write_out b m l out
