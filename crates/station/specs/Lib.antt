pub mod Held
pub mod Filled
pub mod Passed
pub mod Packets
