pub mod Varints
pub mod Records
pub mod Cells
mod LastBytes
mod Serials
