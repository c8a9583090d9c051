pub mod Invalidation
pub mod Outcome
