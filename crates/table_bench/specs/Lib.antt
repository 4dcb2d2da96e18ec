pub mod Fault
pub mod Input
pub mod Kernels
pub mod Run
pub mod Tables
