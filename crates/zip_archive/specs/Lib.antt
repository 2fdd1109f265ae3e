pub mod Crc
pub mod Fields
pub mod Headers
pub mod Directory
pub mod Archive
pub mod Reading
pub mod Laws
