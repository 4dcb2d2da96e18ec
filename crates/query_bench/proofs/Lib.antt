pub mod Readings
pub mod WholeInput
