pub mod Steps
pub mod WayLaws
