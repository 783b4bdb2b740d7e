pub mod Cells
pub mod Drafted
pub mod Operations
pub mod Draft
