pub mod Brought
pub mod Cited
pub mod Cut
pub mod Drops
pub mod Gathered
pub mod Kept
pub mod Recasts
pub mod Reports
