pub mod Answers
pub mod Chronicle
pub mod Lines
pub mod Reports
pub mod Today
pub mod Whole
