pub mod Axes
pub mod Context
pub mod Fault
pub mod Input
pub mod Line
pub mod Step
pub mod Run
