pub mod Rule
pub mod Steps
pub mod Seen
pub mod Answers
