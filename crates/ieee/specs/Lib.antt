-- A reader has to believe `Root`, `Fused`, `Narrow` and `Cases`; `Clause` states what is proved of narrowing. Only the code and the proofs need `Internal`.
pub mod Root
pub mod Fused
pub mod Narrow
pub mod Cases
pub mod Clause
pub mod Internal
