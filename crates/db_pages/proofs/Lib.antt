pub mod Pages
pub mod Appends
pub mod Cuts
pub mod Closed
pub mod Sizes
pub mod Follows
pub mod Counted
pub mod GroupsJoin
pub mod WholeTrees
pub mod TablesFollow
pub mod Images
pub mod Joined
pub mod LockPage
pub mod Rows
mod ShortRows
pub mod Grouping
pub mod Chains
mod Worked
