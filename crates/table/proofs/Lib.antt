-- Laws that belong to no one function.
pub mod Numbers
pub mod Items
pub mod Accepted
pub mod Lengths
pub mod Back
pub mod Sections
pub mod Sound
pub mod Accepts
pub mod OfRows
pub mod OfSections
pub mod OfTail
pub mod OfFile
pub mod AtomFile
pub mod Checked
pub mod OfLoose
