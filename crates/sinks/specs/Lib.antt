pub mod Faults
pub mod Laws
pub mod Memories
pub mod Pictures
pub mod Parts
pub mod PackedBlocks
pub mod PlainBlocks
pub mod Joins
