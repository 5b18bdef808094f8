-- A signed number as 64 bits.
use Rattle.std.specs.Prelude.{ℕ, ◌-◌, ◌^◌, ℤ, pos, negsuc}

-- the two's complement; `negsuc k` is -1 - k
abbrev pub complement : ℤ → ℕ
complement (pos k) = k
complement (negsuc k) = 2 ^ 64 - 1 - k
