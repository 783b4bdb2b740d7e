pub mod Words
pub mod Tree
pub mod Tables
pub mod Steps
pub mod Meaning
pub mod Run
pub mod Laws
pub mod Examples
