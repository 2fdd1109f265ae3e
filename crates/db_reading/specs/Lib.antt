pub mod Pages
pub mod Entries
pub mod Tables
pub mod Whole
pub mod Laws
pub mod Database
