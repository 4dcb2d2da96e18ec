pub mod EveryAxis
pub mod EverySecond
pub mod PrintedLines
pub mod Root
pub mod WholeInput
