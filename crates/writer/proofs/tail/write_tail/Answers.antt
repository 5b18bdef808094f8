use mathlib.Core.Path.{◌≡◌, sym, ◌∙◌}
use Prim.Native.Nat.{◌+◌, ◌*◌, ◌≤◌, ◌<◌}
use native.Mathlib.Omega.{arith}
use lib.ListN.{length}
use borrow.Author.Tests.{lt-leb, le-leb, ne_eqb}
use Rattle.std.proofs.lemmas.Result.{err_from_is_err_and}
use Rattle.mesh.specs.Levels.{per}
use Rattle.mesh.specs.Lent.{lent}
use Rattle.builder.specs.BuilderLists.{BuilderLists, slabs, word_lists}
use Rattle.refusals.proofs.Numbers.{numbered}
use Rattle.table.proofs.OfTail.{tail_small}
use Rattle.table.specs.Tail.{tail_size}
use Rattle.writer.specs.LentTail.{lent_tail}
use Rattle.writer.specs.Tailed.{tailed_question, full_file_from}
use Rattle.writer.specs.Write.{file_from}
use Rattle.writer.specs.Internal.{Sure}
use Rattle.writer.proofs.Outcome.{sure, write_length}
use Rattle.writer.proofs.OfTail.{tailed_sure, tail_length, tail_put, tail_refused, tail_short, tail_done}
use Rattle.writer.proofs.tail.write_tail.Goals as goal
use Rattle.writer.proofs.tail.write_tail.Goals.{Start, In_ok-tailed_question, After-file_size-at}

-- the lists that were lent
abbrev lists : Start → BuilderLists
lists s = word_lists s.args.store.now s.args.words.now

-- every question was answered yes; what that says; and the length of the file
zero : (c : In_ok-tailed_question) → tailed_question c.args.b (lent c.args.mesh.now) (lists (goal.at.In_ok-tailed_question c).Start) (lent_tail c.args.tail.now) ≡ 0
zero c = sym c.in_ok-tailed_question.ensures

certain : (c : In_ok-tailed_question)
    → Sure per c.args.b.top (slabs c.args.b.grid) (lists (goal.at.In_ok-tailed_question c).Start) × (c.args.b.grid.n_r ≤ 65535) × (c.args.b.grid.n_omega ≤ 65535)
certain c =
    let l = lists (goal.at.In_ok-tailed_question c).Start in
    sure c.args.b (lent c.args.mesh.now) l (tailed_sure c.args.b (lent c.args.mesh.now) l (lent_tail c.args.tail.now) (zero c)).0

few : (c : In_ok-tailed_question) → length c.args.tail.now.coefficients.now ≤ 4294967295
few c = (tailed_sure c.args.b (lent c.args.mesh.now) (lists (goal.at.In_ok-tailed_question c).Start) (lent_tail c.args.tail.now) (zero c)).3

held : (c : After-file_size-at) → length (file_from c.args.b (lists (goal.at.After-file_size-at c).Start)) ≡ c.file_size-at.result
held c =
    write_length c.args.b (lists (goal.at.After-file_size-at c).Start) c.energy_total-e.result (certain (goal.at.After-file_size-at c).In_ok-tailed_question).0 c.energy_total-e.ensures
    ∙ omega (arith, c.file_size-at.ensures)

long : (c : After-file_size-at)
    → length (full_file_from c.args.b (lists (goal.at.After-file_size-at c).Start) (lent_tail c.args.tail.now)) ≡ c.file_size-at.result + tail_size (length c.args.tail.now.coefficients.now)
long c = tail_length c.args.b (lent c.args.mesh.now) (lists (goal.at.After-file_size-at c).Start) (lent_tail c.args.tail.now) _ (held c)

pub returns-in_err-tailed_question : goal.returns-in_err-tailed_question
returns-in_err-tailed_question c =
    let p = err_from_is_err_and c.from_residual.result c.from_residual.ensures.1 in
    rw (p.1, p.2)
    (sym (tail_refused c.args.b (lent c.args.mesh.now) (lists (goal.at.returns-in_err-tailed_question c).Start) (lent_tail c.args.tail.now) c.args.output.now _ c.in_err-tailed_question.ensures (numbered _)))

pub overflow_mul-slabs : goal.overflow_mul-slabs
overflow_mul-slabs c = omega (arith, (certain (goal.at.overflow_mul-slabs c).In_ok-tailed_question).0.slabs_le)

pub energy_total-e-requires : goal.energy_total-e-requires
energy_total-e-requires c = (certain (goal.at.energy_total-e-requires c).In_ok-tailed_question).0.few

pub file_size-at-requires : goal.file_size-at-requires
file_size-at-requires c =
    let f = (certain (goal.at.file_size-at-requires c).In_ok-tailed_question).0 in
    (omega arith, f.top_le, f.slabs_le, omega (arith, f.few, c.energy_total-e.ensures))

pub overflow_cast-tail : goal.overflow_cast-tail
overflow_cast-tail c = omega (arith, few (goal.at.overflow_cast-tail c).In_ok-tailed_question)

pub overflow_add-size : goal.overflow_add-size
overflow_add-size c =
    let f = (certain (goal.at.overflow_add-size c).In_ok-tailed_question).0 in
    let k = few (goal.at.overflow_add-size c).In_ok-tailed_question in
    omega (arith, f.slabs_le, f.top_le, f.few, c.energy_total-e.ensures, c.file_size-at.ensures, c.tail_size.ensures, tail_small (length c.args.tail.now.coefficients.now) k)

pub returns-then-output-size : goal.returns-then-output-size
returns-then-output-size c =
    let l = lists (goal.at.returns-then-output-size c).Start in
    let t = lent_tail c.args.tail.now in
    let short = lt-leb (length (full_file_from c.args.b l t)) (length c.args.output.now)
    (omega (arith, long (goal.at.returns-then-output-size c).After-file_size-at, c.tail_size.ensures, c.if-output-size.true)) in
    sym (tail_short c.args.b (lent c.args.mesh.now) l t c.args.output.now (zero (goal.at.returns-then-output-size c).In_ok-tailed_question) short)

pub put_file-requires : goal.put_file-requires
put_file-requires c =
    let f = certain (goal.at.put_file-requires c).In_ok-tailed_question in
    (record { sure = f.0; energies = c.energy_total-e.ensures; fits = omega (arith, c.file_size-at.ensures, c.if-output-size.false) }, f.1, f.2)

pub put_sixth-requires : goal.put_sixth-requires
put_sixth-requires c =
    let k = length c.args.tail.now.coefficients.now in
    let q = tailed_sure c.args.b (lent c.args.mesh.now) (lists (goal.at.put_sixth-requires c).Start) (lent_tail c.args.tail.now) (zero (goal.at.put_sixth-requires c).In_ok-tailed_question) in
    let size : 0 < k → c.tail_size.result ≡ k * 20 + 12 = λ z. c.tail_size.ensures ∙ rw (ne_eqb k 0 (λ y. omega (arith, z, y))) in
    (record { kappas = q.1; powers = q.2 }, q.3, λ z. (omega (arith, size z, c.if-output-size.false), q.4 z))

pub returns : goal.returns
returns c =
    let l = lists (goal.at.returns c).Start in
    let t = lent_tail c.args.tail.now in
    let m = lent c.args.mesh.now in
    let len = long (goal.at.returns c).After-file_size-at in
    let room = c.if-output-size.false in
    let all_in = le-leb (length (full_file_from c.args.b l t)) (length c.args.output.now) (omega (arith, len, c.tail_size.ensures, room)) in
    rw (
      c.put_sixth.ensures,
      c.put_file.ensures,
      tail_put c.args.b m l t c.args.output.now _ (held (goal.at.returns c).After-file_size-at) (omega (arith, room)),
      tail_done c.args.b m l t c.args.output.now (zero (goal.at.returns c).In_ok-tailed_question) all_in,
      len,
      c.tail_size.ensures,
    )
