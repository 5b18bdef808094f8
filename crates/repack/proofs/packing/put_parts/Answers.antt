use mathlib.Core.Path.{◌≡◌, ap, ◌∙◌}
use mathlib.Core.Bool.{true}
use Prim.Native.Nat.{◌+◌, ◌*◌, ◌≤◌}
use native.Mathlib.Nat.{sub-zero, add-zero, zero-mul}
use native.Mathlib.Omega.{arith}
use lib.ListN.{length, take, drop}
use Rattle.table.specs.declared.Entry.{Entry}
use Rattle.table.specs.File.{entry_of}
use Rattle.table.specs.Internal.{ends_below}
use Rattle.writer.proofs.Puts.{begun, step, fits, ended}
use Rattle.repack.specs.Repack.{held, parts}
use Rattle.repack.specs.Internal.{rows_at}
use Rattle.repack.proofs.Turns.{parts_turn, parts_end, inside_turn, row_inside, part_length, parts-length}
use Rattle.repack.proofs.packing.put_parts.Goals as goal
use Rattle.repack.proofs.packing.put_parts.Goals.{After-held-e}

pub loop-i-init : goal.loop-i-init
loop-i-init c =
    let a = c.args in
    let from = a.energies.start in
    let rs = rows_at a.file.now a.rows.start a.rows.count in
    rw (sub-zero, zero-mul, add-zero) record {
      inside = c.requires.2;
      written = begun a.out.now from (parts a.file.now from rs) (omega (arith, c.requires.3, parts-length a.file.now from a.energies.count rs c.requires.1 c.requires.2));
    }

-- the row at hand; its energies, and that they are inside the file
abbrev row : After-held-e → Entry
row c = entry_of (take 10 (drop (c.args.rows.start + c.loop-i.i * 10) c.args.file.now))

turned : (c : After-held-e) → c.held-e.result ≡ held (row c)
turned c = c.held-e.ensures ∙ ap held c.entry_inside-row.ensures

ends : (c : After-held-e) → ends_below c.args.energies.count (row c) ≡ true
ends c = let a = c.args in (inside_turn a.file.now a.rows.start a.rows.count c.loop-i.i c.loop-i-test.true a.energies.count c.loop-i.invariant.inside).0

room : (c : After-held-e) → c.loop-i.to + c.held-e.result * 4 ≤ length c.loop-i.out
room c =
    let a = c.args in
    let from = a.energies.start in
    let r = row c in
    omega (
      arith,
      turned c,
      fits c.loop-i.invariant.written (take (held r * 4) (drop (from + r.offset * 4) a.file.now)) _ (parts_turn a.file.now a.rows.start a.rows.count c.loop-i.i c.loop-i-test.true from),
      part_length a.file.now from a.energies.count r c.requires.1 (ends c),
    )

pub put_part-requires : goal.put_part-requires
put_part-requires c =
    let a = c.args in
    let r = row (goal.at.put_part-requires c).After-held-e in
    let e = turned (goal.at.put_part-requires c).After-held-e in (
      λ h. rw (e, c.entry_inside-row.ensures) (row_inside a.file.now a.energies.start a.energies.count r c.requires.1 (ends (goal.at.put_part-requires c).After-held-e) (omega (arith, e, h))),
      room (goal.at.put_part-requires c).After-held-e,
    )

pub overflow_mul-to : goal.overflow_mul-to
overflow_mul-to c = omega (arith, room (goal.at.overflow_mul-to c).After-held-e)

pub overflow_add-to : goal.overflow_add-to
overflow_add-to c = omega (arith, room (goal.at.overflow_add-to c).After-held-e)

pub loop-i-preserved : goal.loop-i-preserved
loop-i-preserved c =
    let a = c.args in
    let from = a.energies.start in
    let r = row (goal.at.loop-i-preserved c).After-held-e in
    let e = turned (goal.at.loop-i-preserved c).After-held-e in record {
      inside = (inside_turn a.file.now a.rows.start a.rows.count c.loop-i.i c.loop-i-test.true a.energies.count c.loop-i.invariant.inside).1;
      written =
          step c.loop-i.invariant.written (take (held r * 4) (drop (from + r.offset * 4) a.file.now)) _ _ _ (parts_turn a.file.now a.rows.start a.rows.count c.loop-i.i c.loop-i-test.true from)
          (c.put_part.ensures ∙ rw (e, c.entry_inside-row.ensures))
          (omega (arith, e, part_length a.file.now from a.energies.count r c.requires.1 (ends (goal.at.loop-i-preserved c).After-held-e)));
    }

pub returns : goal.returns
returns c =
    let a = c.args in
    ended c.loop-i.invariant.written (parts_end a.file.now a.rows.start a.rows.count c.loop-i.i (omega arith) a.energies.start)
