pub mod Heap
pub mod HeapLaws
