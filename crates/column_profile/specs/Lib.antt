pub mod Values
pub mod Tally
pub mod Folded
pub mod Kept
pub mod Profile
pub mod Parts
pub mod Fields
pub mod Laws
