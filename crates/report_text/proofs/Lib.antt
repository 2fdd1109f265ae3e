pub mod FileBooks
pub mod Chunks
pub mod RunTexts
pub mod Texts
pub mod ReportTexts
pub mod RowCells
pub mod SplitParts
pub mod TwoDigits
mod Worked
