pub mod Simulated
pub mod Nesting
