-- A reader has to believe `Ledger`, `Promise`, `Replies`, `Order`, `Packed`, `Comparisons`, `Longest`, `Foretold`, `Words`, `Replay` and, of tables against an atom, `AtomLedger` and `AtomPromise`.
pub mod Ledger
pub mod Promise
pub mod Replies
pub mod Order
pub mod Packed
pub mod Comparisons
pub mod AtomLedger
pub mod AtomPromise
pub mod Longest
pub mod Foretold
pub mod Words
pub mod Replay
