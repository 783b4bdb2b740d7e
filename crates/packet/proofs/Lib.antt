pub mod ByteLaws
pub mod GroupLaws
pub mod BoardLaws
pub mod LenderLaws
