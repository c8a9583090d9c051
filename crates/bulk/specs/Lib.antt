pub mod Texts
pub mod Outcomes
pub mod Given
pub mod Brought
pub mod Edits
