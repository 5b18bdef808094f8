use mathlib.Core.Path.{◌≡◌, refl}
use Prim.Native.Nat.{ℕ, ◌+◌, ◌*◌}
use native.Mathlib.Omega.{arith}
use Rattle.lists.specs.Lists.{for_each}
use Rattle.lists.proofs.Loops.{each_turn}
use Rattle.table.specs.Bytes.{number_at}
use Rattle.reading.specs.Resolve.{widened}
use Rattle.span.specs.Spans.{included}
use Rattle.span.specs.declared.Extremes.{Extremes}
use Rattle.span.proofs.energies.mesh_included.Goals as goal

pub loop-k-init : goal.loop-k-init
unfolding for_each
loop-k-init c = refl

pub loop-k-preserved : goal.loop-k-preserved
loop-k-preserved c =
    let a = c.args in
    rw (c.included-y.ensures, c.widened.ensures, c.u32_inside.ensures)
    (each_turn (λ (j : ℕ) (z : Extremes). included (widened (number_at 4 a.file.now (a.start + (a.offset + j) * 4))) z) c.loop-k.k a.x c.loop-k.y c.loop-k.invariant)

pub returns : goal.returns
returns c =
    let a = c.args in
    let e : c.loop-k.k ≡ a.n = omega arith in
    rw (← e) c.loop-k.invariant
