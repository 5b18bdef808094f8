-- The numbers of refusals: "the first one answered no gives its number". Definitions only.
use Rattle.std.specs.Prelude.{ℕ, Result, Ok, Err}
use Rattle.refusals.specs.declared.Refusal.{Refusal}
use Rattle.refusals.specs.declared.Refusal.TheVariants.{Settings, Level, BinCount, OwnCount, TooManyEnergies, ShortList, Mesh, Bin, EnergyCount, NanEnergy, OtherLevel, ShortOutput, Sections, FileGrid, Row, Tiling, FileNan, Query, NotLent, EmptyCell, ReadingBeta, Prefactor, Term, ViewerBound, SlabPlace, Span}

abbrev pub number : Refusal → ℕ
number Settings = 1
number Level = 2
number BinCount = 3
number OwnCount = 4
number TooManyEnergies = 5
number ShortList = 6
number Mesh = 7
number Bin = 8
number EnergyCount = 9
number NanEnergy = 10
number OtherLevel = 11
number ShortOutput = 12
number Sections = 13
number FileGrid = 14
number Row = 15
number Tiling = 16
number FileNan = 17
number Query = 18
number NotLent = 19
number EmptyCell = 20
number ReadingBeta = 21
number Prefactor = 22
number Term = 23
number ViewerBound = 24
number SlabPlace = 25
number Span = 26

-- the number that a call gives, 0 where it is accepted
abbrev pub asked : {A : Type 0} → Result A Refusal → ℕ
asked (Ok a) = 0
asked (Err e) = number e
