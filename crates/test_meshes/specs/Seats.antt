-- Which neighbour stands at a place. Definitions only.
use Rattle.std.specs.Prelude.{ℕ, cond, ◌+◌, ◌-◌, ◌*◌, ◌/◌, ◌%◌, ltb}

-- six places a vertex: of levels 0 and 1, each vertex lists the others of its six, one after the other, and the first again
abbrev pub seated : ℕ → ℕ
seated i = let j = cond (ltb i 72) i (i - 72) in (j / 36 * 6 + (j / 6 + j % 6 + 1) % 6) % 65536
