pub mod Numbers
pub mod Runs
pub mod Scalars
pub mod Turns
