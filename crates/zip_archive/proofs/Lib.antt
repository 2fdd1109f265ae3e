pub mod Registers
pub mod ZeroBytes
pub mod TableEntries
pub mod Sizes
pub mod Appended
pub mod NumbersRead
pub mod HeadersRead
pub mod ArchivesRead
mod Worked
