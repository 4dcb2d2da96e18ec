pub mod Classes
pub mod Radix
