pub mod EveryKernel
pub mod PrintedLines
pub mod Rows
pub mod WholeInput
