pub mod DraftLaws
pub mod PositionLaws
pub mod Steps
pub mod Widths
