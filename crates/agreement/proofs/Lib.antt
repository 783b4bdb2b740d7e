pub mod Causes
pub mod Joined
pub mod Carrying
