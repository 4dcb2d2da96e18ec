pub mod Answering
pub mod Evaluated
pub mod Evaluating
pub mod Sums
