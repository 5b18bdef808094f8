use mathlib.Core.Path.{sym}
use native.Mathlib.Omega.{arith}
use Rattle.mesh.proofs.Tables.{offsets_are}
use Rattle.mesh.proofs.levels.cell_offsets_below.Goals as goal

pub returns-in-0 : goal.returns-in-0
returns-in-0 c = rw c.in-0.is (sym (offsets_are 0 (omega arith)))

pub returns-in-1 : goal.returns-in-1
returns-in-1 c = rw c.in-1.is (sym (offsets_are 1 (omega arith)))

pub returns-in-2 : goal.returns-in-2
returns-in-2 c = rw c.in-2.is (sym (offsets_are 2 (omega arith)))

pub returns-in-3 : goal.returns-in-3
returns-in-3 c = rw c.in-3.is (sym (offsets_are 3 (omega arith)))

pub returns-in-4 : goal.returns-in-4
returns-in-4 c = rw c.in-4.is (sym (offsets_are 4 (omega arith)))

pub returns-in-5 : goal.returns-in-5
returns-in-5 c = rw c.in-5.is (sym (offsets_are 5 (omega arith)))

pub returns-in-6 : goal.returns-in-6
returns-in-6 c = rw c.in-6.is (sym (offsets_are 6 (omega arith)))

pub returns-in-7 : goal.returns-in-7
returns-in-7 c = rw c.in-7.is (sym (offsets_are 7 (omega arith)))

pub returns-in-8 : goal.returns-in-8
returns-in-8 c = rw c.in-8.is (sym (offsets_are 8 (omega arith)))

pub returns-in-9 : goal.returns-in-9
returns-in-9 c = rw c.in-9.is (sym (offsets_are 9 (omega arith)))

pub returns-in-10 : goal.returns-in-10
returns-in-10 c = rw c.in-10.is (sym (offsets_are 10 (omega arith)))

pub returns-in-11 : goal.returns-in-11
returns-in-11 c = rw c.in-11.is (sym (offsets_are 11 (omega arith)))

pub returns-in-12 : goal.returns-in-12
returns-in-12 c = rw c.in-12.is (sym (offsets_are 12 (omega arith)))

pub returns-in-13 : goal.returns-in-13
returns-in-13 c = rw c.in-13.is (sym (offsets_are 13 (omega arith)))

pub returns-in-14 : goal.returns-in-14
returns-in-14 c = rw c.in-14.is (sym (offsets_are 14 (omega arith)))

pub returns-in-15 : goal.returns-in-15
returns-in-15 c = rw c.in-15.is (sym (offsets_are 15 (omega arith)))

pub returns-in_default : goal.returns-in_default
returns-in_default c = c.cell_offsets_counted.ensures
