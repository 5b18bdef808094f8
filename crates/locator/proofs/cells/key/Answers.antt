use native.Mathlib.Omega.{arith}
use Rattle.search.specs.Cells.{cell_number}
use Rattle.locator.specs.Internal.{key_of}
use Rattle.locator.proofs.Keys.{kept_le}
use Rattle.locator.proofs.cells.key.Goals as goal

pub returns-then-s : goal.returns-then-s
unfolding key_of
returns-then-s c = rw c.if-s.true

pub overflow_mul-result : goal.overflow_mul-result
overflow_mul-result c = let a = c.args in rw c.cell_number.ensures (omega (arith, kept_le (cell_number a.g a.s.u a.s.d)))

pub overflow_add-result : goal.overflow_add-result
overflow_add-result c = let a = c.args in rw (c.cell_number.ensures, c.cell_number-2.ensures) (omega (arith, kept_le (cell_number a.g a.s.u a.s.d), kept_le (cell_number a.g a.s.w a.s.d)))

pub overflow_cast-result : goal.overflow_cast-result
overflow_cast-result c = let a = c.args in rw (c.cell_number.ensures, c.cell_number-2.ensures) (omega (arith, kept_le (cell_number a.g a.s.u a.s.d), kept_le (cell_number a.g a.s.w a.s.d)))

pub returns : goal.returns
unfolding key_of
returns c = rw (c.if-s.false, c.cell_number.ensures, c.cell_number-2.ensures)
