pub mod ColumnSteps
pub mod Counting
pub mod ColumnRows
pub mod CourseRooms
pub mod CourseSteps
pub mod FeedSteps
pub mod KeySteps
pub mod LineSteps
pub mod PairSteps
pub mod Rooms
pub mod ShownSteps
pub mod TextSteps
mod Worked
