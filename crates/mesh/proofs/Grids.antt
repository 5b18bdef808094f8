-- g over whole numbers, as the code computes it.
use Prim.Native.Nat.{ℕ, ◌+◌, ◌*◌, ◌/◌}

abbrev pub grid_by : ℕ → ℕ
grid_by m = (12691 * m + 20900) / 8192
