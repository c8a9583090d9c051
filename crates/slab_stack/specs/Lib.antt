pub mod Slab
pub mod SlabLaws
