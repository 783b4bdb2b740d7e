pub mod Layer
pub mod Either
