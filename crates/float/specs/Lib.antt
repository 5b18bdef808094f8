-- A reader has to believe `Order`, `Whole`, `Exp`, `Log` and `Power`. `Examples` has checks by computation.
pub mod Order
pub mod Whole
pub mod Exp
pub mod Log
pub mod Power
pub mod Examples
