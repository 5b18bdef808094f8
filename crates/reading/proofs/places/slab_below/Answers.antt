use mathlib.Core.Bool.{and-eq-true_iff}
use native.Mathlib.Omega.{arith}
use Prim.Native.Nat.{◌*◌, ◌≤◌}
use native.Mathlib.Nat.{mul-le-mul}
use borrow.Author.Tests.{ltb-true}
use lib.Dec.{ltb}
use Rattle.reading.proofs.Inside.{not_past, quite_past}
use Rattle.reading.proofs.places.slab_below.Goals as goal

pub overflow_mul-p : goal.overflow_mul-p
overflow_mul-p c =
    let a = c.args in
    let h = (and-eq-true_iff (ltb a.ri 4294967296) (ltb a.n 4294967296)).0 c.if-ri-n.true in
    let x : a.ri ≤ 4294967295 = omega (arith, ltb-true a.ri 4294967296 h.0) in
    let y : a.n ≤ 4294967295 = omega (arith, ltb-true a.n 4294967296 h.1) in
    let z : a.ri * a.n ≤ 4294967295 * 4294967295 = mul-le-mul x y in
    omega (arith, z)

pub returns-then-left-n : goal.returns-then-left-n
returns-then-left-n c = let a = c.args in omega (arith, quite_past a.ri a.n a.oi a.limit c.requires (omega arith) c.if-left-n.true)

pub overflow_mul-result : goal.overflow_mul-result
overflow_mul-result c = let a = c.args in omega (arith, not_past a.ri a.n a.oi a.limit c.requires (omega arith) (omega arith))

pub overflow_add-result-2 : goal.overflow_add-result-2
overflow_add-result-2 c = let a = c.args in omega (arith, not_past a.ri a.n a.oi a.limit c.requires (omega arith) (omega arith))

pub returns : goal.returns
returns c = let a = c.args in omega (arith, not_past a.ri a.n a.oi a.limit c.requires (omega arith) (omega arith))
