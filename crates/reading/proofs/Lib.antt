-- Laws that belong to no one function.
pub mod Inside
pub mod Picked
pub mod Parts
pub mod AtomPicked
pub mod AtomStages
pub mod AtomShown
pub mod Ready
pub mod Stored
pub mod Ways
pub mod Searched
pub mod Numbered
