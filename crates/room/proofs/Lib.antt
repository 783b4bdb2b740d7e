pub mod Sums
pub mod Nodes
pub mod Enough
pub mod Depth
