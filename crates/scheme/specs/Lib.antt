pub mod Code
pub mod Writing
pub mod Scheme
pub mod Written
pub mod Laws
pub mod Examples
