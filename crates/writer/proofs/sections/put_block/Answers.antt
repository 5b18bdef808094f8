use mathlib.Core.Path.{ap, ◌∙◌}
use mathlib.Core.List.{List}
use Prim.Native.Nat.{ℕ}
use Rattle.lists.specs.Lists.{put}
use Rattle.table.specs.Bytes.{bytes_of, packed}
use Rattle.writer.proofs.Filed.{block-bits}
use Rattle.writer.proofs.sections.put_block.Goals as goal

pub returns : goal.returns
returns c =
    let a = c.args in
    c.put_floats.ensures
    ∙ ap (λ (y : List ℕ). put a.out.now a.at (packed (bytes_of 4) y)) (block-bits a.energies.now a.block.now _ c.requires.1 c.narrow_list.ensures)
