-- The theorems of demand 3, of a table of two molecules and of one against an atom, and of request 4, met by lists of calls.
pub mod Witness
pub mod Reorders
pub mod AtomWitness
