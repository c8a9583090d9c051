pub mod Texts
pub mod Outcomes
pub mod Slots
pub mod Laws
pub mod Fixed
pub mod FixedLaws
pub mod Limits
