pub mod Calls
pub mod History
pub mod Promises
