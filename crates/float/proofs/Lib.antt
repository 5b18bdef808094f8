-- Laws that belong to no one function.
pub mod Tests
pub mod Ends
pub mod Values
pub mod Fields
pub mod Steps
pub mod Truncation
pub mod Powers
pub mod Remainders
pub mod Far
pub mod Order
pub mod Signed
pub mod Shifts
pub mod Reach
pub mod Ranks
pub mod Leading
pub mod Halving
