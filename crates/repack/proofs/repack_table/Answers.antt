use mathlib.Core.Path.{◌≡◌, sym}
use native.Mathlib.Omega.{arith}
use lib.ListN.{length}
use borrow.Author.Tests.{lt-leb, le-leb}
use Rattle.table.specs.Read.{layout, table_of}
use Rattle.table.specs.Loose.{loose_refusal}
use Rattle.repack.specs.Repack.{repacked}
use Rattle.repack.specs.Internal.{Loose}
use Rattle.repack.proofs.Outcome.{answered, loose, repacked-length, repack_short, repack_done}
use Rattle.repack.proofs.repack_table.Goals as goal
use Rattle.repack.proofs.repack_table.Goals.{Start}

-- what is known of the file
known : (s : Start) → let t = s.args.t in Loose s.args.file.now t.rows_start t.rows t.energies_start t.energies
known s = loose s.args.file.now s.args.t s.requires.0 (answered s.args.file.now s.args.t s.requires.1)

pub energies_total-e-requires : goal.energies_total-e-requires
energies_total-e-requires c = let k = known (goal.at.energies_total-e-requires c).Start in (omega (arith, k.rows, k.energies), k.few)

pub packed_length-length-requires : goal.packed_length-length-requires
packed_length-length-requires c =
    let k = known (goal.at.packed_length-length-requires c).Start in
    (k.energies, omega (arith, k.few, c.energies_total-e.ensures))

zero : (s : Start) → loose_refusal s.args.file.now (layout s.args.file.now) (table_of s.args.file.now (layout s.args.file.now)) ≡ 0
zero s = rw s.requires.0 at s.requires.1

pub returns-then-output-length : goal.returns-then-output-length
returns-then-output-length c =
    let f = c.args.file.now in
    let len = repacked-length f c.args.t (known (goal.at.returns-then-output-length c).Start) in
    let short = lt-leb (length (repacked f c.args.t)) (length c.args.output.now) (omega (arith, len, c.energies_total-e.ensures, c.packed_length-length.ensures, c.if-output-length.true)) in
    sym (repack_short f c.args.output.now (zero (goal.at.returns-then-output-length c).Start) (rw c.requires.0 at short))

pub rows_moved-moved-requires : goal.rows_moved-moved-requires
rows_moved-moved-requires c = let k = known (goal.at.rows_moved-moved-requires c).Start in (omega (arith, k.rows, k.energies), k.few)

pub put_packed-requires : goal.put_packed-requires
put_packed-requires c = (known (goal.at.put_packed-requires c).Start, c.energies_total-e.ensures, omega (arith, c.packed_length-length.ensures, c.if-output-length.false))

pub returns : goal.returns
unfolding repacked
returns c =
    let f = c.args.file.now in
    let t = c.args.t in
    let len = repacked-length f t (known (goal.at.returns c).Start) in
    let room = le-leb (length (repacked f t)) (length c.args.output.now) (omega (arith, len, c.energies_total-e.ensures, c.packed_length-length.ensures, c.if-output-length.false)) in
    let done = repack_done f c.args.output.now (zero (goal.at.returns c).Start) (rw c.requires.0 at room) in
    rw (c.put_packed.ensures, c.rows_moved-moved.ensures, done, ← c.requires.0, len, c.packed_length-length.ensures, c.energies_total-e.ensures)
