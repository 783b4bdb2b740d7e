pub mod Marked
pub mod Written
pub mod Numbered
pub mod Decoded
pub mod Marks
pub mod Stays
pub mod Globals
