pub mod Steps
pub mod Falls
pub mod Going
pub mod Outcome
