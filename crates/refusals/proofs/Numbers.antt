-- A refusal has a number: 0 is acceptance alone.
use Rattle.std.proofs.Common.{◌≡◌, refl, ℕ, false, eqb}
use Rattle.lists.specs.Questions.{first}
use Rattle.refusals.specs.Numbers.{number}
use Rattle.refusals.specs.declared.Refusal.{Refusal}
use Rattle.refusals.specs.declared.Refusal.TheVariants.{Settings, Level, BinCount, OwnCount, TooManyEnergies, ShortList, Mesh, Bin, EnergyCount, NanEnergy, OtherLevel, ShortOutput, Sections, FileGrid, Row, Tiling, FileNan, Query, NotLent, EmptyCell, ReadingBeta, Prefactor, Term, ViewerBound, SlabPlace, Span}

pub numbered : (e : Refusal) → eqb (number e) 0 ≡ false
numbered Settings = refl
numbered Level = refl
numbered BinCount = refl
numbered OwnCount = refl
numbered TooManyEnergies = refl
numbered ShortList = refl
numbered Mesh = refl
numbered Bin = refl
numbered EnergyCount = refl
numbered NanEnergy = refl
numbered OtherLevel = refl
numbered ShortOutput = refl
numbered Sections = refl
numbered FileGrid = refl
numbered Row = refl
numbered Tiling = refl
numbered FileNan = refl
numbered Query = refl
numbered NotLent = refl
numbered EmptyCell = refl
numbered ReadingBeta = refl
numbered Prefactor = refl
numbered Term = refl
numbered ViewerBound = refl
numbered SlabPlace = refl
numbered Span = refl

-- questions that were refused: none of those after them is put
pub stops : (e : Refusal) (rest : ℕ) → first (number e) rest ≡ number e
unfolding first
stops e rest = rw numbered refl
