pub mod Run
pub mod Led
