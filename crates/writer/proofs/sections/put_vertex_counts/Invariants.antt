use mathlib.Core.List.{map}
use Prim.Native.Nat.{◌+◌, ◌*◌}
use Rattle.mesh.specs.Levels.{vertex_count}
use Rattle.lists.specs.Lists.{below}
use Rattle.lists.proofs.Written.{Written}
use Rattle.table.specs.Bytes.{bytes_of, packed}
use Rattle.writer.proofs.sections.put_vertex_counts.Given as goal

abbrev pub invariant-loop-m : goal.invariant-loop-m
invariant-loop-m l = Written l.initial.out l.at (packed (bytes_of 4) (map vertex_count (below l.m))) l.out (l.at + 4 * l.m)
