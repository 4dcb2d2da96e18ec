pub mod Loading
pub mod OneStatus
pub mod Pieces
pub mod Repeats
pub mod Replying
pub mod Texts
pub mod Values
