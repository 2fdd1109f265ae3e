pub mod OwnText
pub mod ProgramTaps
