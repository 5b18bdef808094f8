use mathlib.Core.Path.{◌≡◌, refl, sym, ◌∙◌}
use Prim.Native.Nat.{◌-◌}
use native.Mathlib.Omega.{arith}
use lib.ListN.{length, get_or}
use lib.Seq.{take_all}
use Rattle.search.specs.Search.{not_nearest, nearer}
use Rattle.search.proofs.Laws.{nearest_end}
use Rattle.search.proofs.Nearness.{first_measured, limit_room, first_stop, first_turn}
use Rattle.search.proofs.cells.nearest_in_cell.Goals as goal
use Rattle.search.proofs.cells.nearest_in_cell.Goals.{After-nearer-first}

pub returns-in_default : goal.returns-in_default
returns-in_default c =
    let a = c.args in
    c.not_nearest-empty.ensures ∙ sym (nearest_end a.vertices.now a.n a.p a.cell.now (not_nearest 20) 0 (omega (arith, c.in_default.len_below)))

pub returns-then-limit-v : goal.returns-then-limit-v
returns-then-limit-v c =
    let a = c.args in
    c.not_nearest.ensures
    ∙ sym (first_stop a.vertices.now a.n a.p a.cell.now _ (omega (arith, c.in-len1-up.len_at_least)) refl (rw (← c.limit_of-limit.ensures) c.if-limit-v.true))

-- what the first vertex is measured by
first_found : (c : After-nearer-first) → (let a = c.args in c.nearer-first.result ≡ nearer a.vertices.now a.p (not_nearest 20) (get_or a.cell.now 0 0))
first_found c = rw (c.nearer-first.ensures, c.not_nearest-empty.ensures)

pub nearest_of-requires : goal.nearest_of-requires
nearest_of-requires c =
    let a = c.args in (
      rw c.limit_of-limit.ensures (limit_room a.n (length a.vertices.now)),
      rw (first_found (goal.at.nearest_of-requires c).After-nearer-first)
          (first_measured a.vertices.now a.p (not_nearest 20) _ (rw (← first_found (goal.at.nearest_of-requires c).After-nearer-first, ← c.is_nan.ensures.value, c.if-is_nan.false) tt)),
    )

-- the list as the slow way is handed it
pub returns-then-is_nan : goal.returns-then-is_nan
returns-then-is_nan c =
    let a = c.args in
    c.nearest_by_order-slow.ensures ∙ rw (take_all (length a.vertices.now - 0) a.vertices.now (omega arith))

pub returns : goal.returns
returns c =
    let a = c.args in
    rw (c.nearest_of.ensures, first_found (goal.at.returns c).After-nearer-first, c.limit_of-limit.ensures)
    (sym (first_turn a.vertices.now a.n a.p a.cell.now _ (omega (arith, c.in-len1-up.len_at_least)) refl (rw (← c.limit_of-limit.ensures) c.if-limit-v.false)))
