pub mod Agreement
pub mod Carried
