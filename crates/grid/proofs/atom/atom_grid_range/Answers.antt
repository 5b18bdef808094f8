use Rattle.grid.proofs.atom.atom_grid_range.Goals as goal

pub returns : goal.returns
returns c =
    rw (c.own_count.ensures, c.bin_count.ensures, c.positive.ensures, c.is_finite.ensures)
