pub mod Texts
pub mod Outcomes
pub mod Records
pub mod Found
pub mod Inserted
