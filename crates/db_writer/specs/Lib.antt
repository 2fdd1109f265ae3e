pub mod Stored
pub mod Naming
pub mod Definitions
pub mod Rejects
pub mod Written
pub mod Field
pub mod Groups
pub mod Database
