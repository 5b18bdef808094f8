-- A reader has to believe `Answers`, `AtomAnswers`, `RepackAnswers`, `SpanAnswers` and `Sizes`.
pub mod Answers
pub mod AtomAnswers
pub mod RepackAnswers
pub mod SpanAnswers
pub mod Sizes
