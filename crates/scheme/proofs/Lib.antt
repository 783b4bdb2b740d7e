pub mod Keep
pub mod Scope
pub mod Pins
pub mod Lengths
pub mod Numbers
