pub mod Nodes
pub mod Room
