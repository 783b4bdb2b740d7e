pub mod Keeping
pub mod Single
