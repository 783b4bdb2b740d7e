pub mod Limits
pub mod Bytes
pub mod Header
pub mod Check
pub mod Output
pub mod Packed
pub mod Lender
pub mod Means
