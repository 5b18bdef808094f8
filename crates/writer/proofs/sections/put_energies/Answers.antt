use mathlib.Core.Path.{◌≡◌, refl, ap, ◌∙◌}
use mathlib.Core.List.{List, ◌++◌, map}
use Prim.Native.Nat.{ℕ}
use native.Mathlib.Omega.{arith}
use Rattle.std.proofs.Common.{rules}
use lib.Ieee.{Float}
use Rattle.std.specs.Slice.Iter.{chunks_rest}
use Rattle.rows.specs.Rows.{narrow_bits}
use Rattle.table.specs.Bytes.{bytes_of, packed}
use Rattle.writer.proofs.Puts.{begun, step, fits, ended}
use Rattle.writer.proofs.Filed.{numbers_bytes, numbers_split, numbers_end}
use Rattle.writer.proofs.sections.put_energies.Goals as goal
use Rattle.writer.proofs.sections.put_energies.Goals.{In-Some}

abbrev bytes : List Float → List ℕ
bytes xs = packed (bytes_of 4) (map narrow_bits xs)

pub loop-part-init : goal.loop-part-init
loop-part-init c =
    let all : chunks_rest c.into_iter-part-iterator.result ≡ c.args.energies.now = search rules in record {
      size = search rules;
      room = refl;
      written = rw all (begun c.args.out.now c.args.at _ (omega (arith, c.requires, numbers_bytes 4 narrow_bits c.args.energies.now)));
    }

-- the bytes of the part at hand, and of the parts behind it
split : (c : In-Some) → bytes (chunks_rest c.loop-part.part-iterator) ≡ bytes c.in-Some.part.now ++ bytes (chunks_rest c.next.new.self)
split c = ap bytes c.in-Some.ensures.steps.1.0 ∙ numbers_split 4 narrow_bits _ _

pub put_block-requires : goal.put_block-requires
put_block-requires c =
    let i = c.loop-part.invariant in (
      omega (arith, fits i.written (bytes c.in-Some.part.now) _ (split (goal.at.put_block-requires c).In-Some), numbers_bytes 4 narrow_bits c.in-Some.part.now),
      omega (arith, c.in-Some.ensures.steps.1.1, i.size, i.room),
    )

pub loop-part-preserved : goal.loop-part-preserved
loop-part-preserved c =
    let i = c.loop-part.invariant in record {
      size = c.in-Some.ensures.steps.0 ∙ i.size;
      room = c.put_block.auto.block ∙ i.room;
      written =
          step i.written (bytes c.in-Some.part.now) _ _ _ (split (goal.at.loop-part-preserved c).In-Some) c.put_block.ensures
          (omega (arith, numbers_bytes 4 narrow_bits c.in-Some.part.now));
    }

pub returns : goal.returns
returns c = ended c.loop-part.invariant.written (numbers_end 4 narrow_bits (chunks_rest c.loop-part.part-iterator) 0 (omega (arith, c.in-None.ensures.steps.1.0)))
