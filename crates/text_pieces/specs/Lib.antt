pub mod DraftView
pub mod Blocks
pub mod Writes
