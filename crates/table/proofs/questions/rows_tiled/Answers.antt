use mathlib.Core.Path.{◌≡◌, refl, sym, ◌∙◌}
use Prim.Native.Nat.{◌+◌, ◌-◌, ◌*◌}
use native.Mathlib.Omega.{arith}
use Rattle.lists.proofs.Counting.{yes, no}
use Rattle.table.specs.Internal.{each_of}
use Rattle.table.proofs.Items.{entry_at_lem, tiled_stop, tiled_next, tiled_end}
use Rattle.table.proofs.questions.rows_tiled.Goals as goal

pub returns-then-not-placed : goal.returns-then-not-placed
returns-then-not-placed c =
    let a = c.args in
    let i = c.loop-i.i in
    let row = c.entry_in-row.ensures ∙ entry_at_lem a.file.now (a.rows.start + i * 10) in
    sym (tiled_stop (each_of a.pairs) a.file.now a.energies c.loop-i.o (a.rows.start + i * 10) (a.rows.count - i) (omega arith) (no (c.placed.ensures ∙ rw row refl) c.if-not-placed.true))
    ∙ c.loop-i.invariant.1

pub loop-i-preserved : goal.loop-i-preserved
loop-i-preserved c =
    let a = c.args in
    let i = c.loop-i.i in
    let at = a.rows.start + i * 10 in
    let row = c.entry_in-row.ensures ∙ entry_at_lem a.file.now at in
    let z : a.rows.start + (i + 1) * 10 ≡ at + 10 = omega arith in
    let m : a.rows.count - (i + 1) ≡ a.rows.count - i - 1 = omega arith in (
      c.next_place-o.ensures.1,
      rw (z, m, c.next_place-o.ensures.0, row)
          (sym (tiled_next (each_of a.pairs) a.file.now a.energies c.loop-i.o at (a.rows.count - i) (omega arith) (yes (c.placed.ensures ∙ rw row refl) c.if-not-placed.false)) ∙ c.loop-i.invariant.1),
    )

pub returns : goal.returns
returns c =
    let a = c.args in
    let i = c.loop-i.i in
    sym (tiled_end (each_of a.pairs) a.file.now a.energies c.loop-i.o (a.rows.start + i * 10) (a.rows.count - i) (omega arith)) ∙ c.loop-i.invariant.1
