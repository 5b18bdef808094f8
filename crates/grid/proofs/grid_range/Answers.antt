use Rattle.grid.proofs.grid_range.Goals as goal

pub returns : goal.returns
returns c =
    rw (c.own_count.ensures, c.dihedral_count.ensures, c.bins_in_range.ensures, c.positive-2.ensures, c.positive.ensures, c.is_finite.ensures)
