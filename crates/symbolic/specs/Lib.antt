pub mod Symbolic
pub mod Proper
