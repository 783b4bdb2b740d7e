pub mod EndLaws
pub mod StmtLaws
pub mod Stacked
