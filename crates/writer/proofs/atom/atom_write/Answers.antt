use mathlib.Core.Path.{◌≡◌, sym, ◌∙◌}
use Prim.Native.Nat.{◌≤◌}
use native.Mathlib.Omega.{arith}
use lib.ListN.{length}
use borrow.Author.Tests.{lt-leb, le-leb}
use Rattle.std.proofs.lemmas.Result.{err_from_is_err_and}
use Rattle.mesh.specs.Levels.{vertex_count}
use Rattle.mesh.specs.Lent.{lent}
use Rattle.builder.specs.BuilderLists.{lists_of}
use Rattle.refusals.proofs.Numbers.{numbered}
use Rattle.writer.specs.Atom.{atom_file_from}
use Rattle.writer.specs.Internal.{Sure, atom_write_question}
use Rattle.writer.proofs.Outcome.{atom_sure, atom_write_length, atom_write_refused, atom_write_short, atom_write_done}
use Rattle.writer.proofs.atom.atom_write.Goals as goal
use Rattle.writer.proofs.atom.atom_write.Goals.{In_ok-atom_write_question, After-energy_total-e, After-file_size-size}

-- every question was answered yes; what that says; and the length of the file
zero : (c : In_ok-atom_write_question) → atom_write_question c.args.b (lent c.args.mesh.now) (lists_of c.args.store.now c.args.kinds.now c.args.levels.now c.args.values.now) ≡ 0
zero c = sym c.in_ok-atom_write_question.ensures

certain : (c : In_ok-atom_write_question)
    → Sure vertex_count c.args.b.top c.args.b.grid.n_r (lists_of c.args.store.now c.args.kinds.now c.args.levels.now c.args.values.now) × (c.args.b.grid.n_r ≤ 65535)
certain c = atom_sure c.args.b (lent c.args.mesh.now) (lists_of c.args.store.now c.args.kinds.now c.args.levels.now c.args.values.now) (zero c)

long : (c : After-file_size-size) → length (atom_file_from c.args.b (lists_of c.args.store.now c.args.kinds.now c.args.levels.now c.args.values.now)) ≡ c.file_size-size.result
long c =
    atom_write_length c.args.b (lists_of c.args.store.now c.args.kinds.now c.args.levels.now c.args.values.now) c.energy_total-e.result (certain (goal.at.After-file_size-size c).In_ok-atom_write_question).0 c.energy_total-e.ensures
    ∙ omega (arith, c.file_size-size.ensures)

pub returns-in_err-atom_write_question : goal.returns-in_err-atom_write_question
returns-in_err-atom_write_question c =
    let p = err_from_is_err_and c.from_residual.result c.from_residual.ensures.1 in
    rw (p.1, p.2) (sym (atom_write_refused c.args.b (lent c.args.mesh.now) (lists_of c.args.store.now c.args.kinds.now c.args.levels.now c.args.values.now) c.args.output.now _ c.in_err-atom_write_question.ensures (numbered _)))

pub energy_total-e-requires : goal.energy_total-e-requires
energy_total-e-requires c = (certain (goal.at.energy_total-e-requires c).In_ok-atom_write_question).0.few

pub file_size-size-requires : goal.file_size-size-requires
file_size-size-requires c =
    let f = (certain (goal.at.file_size-size-requires c).In_ok-atom_write_question).0 in
    (omega arith, f.top_le, f.slabs_le, omega (arith, f.few, c.energy_total-e.ensures))

pub returns-then-output-size : goal.returns-then-output-size
returns-then-output-size c =
    let l = lists_of c.args.store.now c.args.kinds.now c.args.levels.now c.args.values.now in
    let short = lt-leb (length (atom_file_from c.args.b l)) (length c.args.output.now) (omega (arith, long (goal.at.returns-then-output-size c).After-file_size-size, c.if-output-size.true)) in
    sym (atom_write_short c.args.b (lent c.args.mesh.now) l c.args.output.now (zero (goal.at.returns-then-output-size c).In_ok-atom_write_question) short)

pub put_atom_file-requires : goal.put_atom_file-requires
put_atom_file-requires c =
    let f = certain (goal.at.put_atom_file-requires c).In_ok-atom_write_question in
    (record { sure = f.0; energies = c.energy_total-e.ensures; fits = omega (arith, c.file_size-size.ensures, c.if-output-size.false) }, f.1)

pub returns : goal.returns
returns c =
    let l = lists_of c.args.store.now c.args.kinds.now c.args.levels.now c.args.values.now in
    let len = long (goal.at.returns c).After-file_size-size in
    let room = le-leb (length (atom_file_from c.args.b l)) (length c.args.output.now) (omega (arith, len, c.if-output-size.false)) in
    rw (c.put_atom_file.ensures, atom_write_done c.args.b (lent c.args.mesh.now) l c.args.output.now (zero (goal.at.returns c).In_ok-atom_write_question) room, len)
