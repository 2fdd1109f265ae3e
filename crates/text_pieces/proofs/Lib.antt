mod RoundSteps
pub mod Fronts
pub mod Lanes
pub mod Ranges
pub mod RowTexts
pub mod RunLengths
pub mod WriteSteps
