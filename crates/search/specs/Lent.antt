-- A level's locator as it is lent. Definitions only.
use Rattle.search.specs.Search.{Locator, locator_of}
use Rattle.search.specs.declared.Locator.{Locator as LocatorLent}

abbrev pub lent_locator : LocatorLent → Locator
lent_locator l = locator_of l.cell_offsets.now l.cell_vertices.now l.face_offsets.now l.faces.now
