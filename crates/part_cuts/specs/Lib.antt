pub mod Counted
pub mod Cut
pub mod Laws
pub mod NoCut
pub mod Part
pub mod Passed
pub mod Reading
pub mod Within
