-- Laws that belong to no one function.
pub mod Keys
pub mod Rows
pub mod Room
pub mod Blocks
pub mod Bound
pub mod Graphs
pub mod Accepted
pub mod Entries
pub mod Answers
pub mod Laid
pub mod Picked
