pub mod Kids
pub mod Names
pub mod Good
pub mod Nodes
pub mod Climbs
pub mod Once
pub mod Whole
