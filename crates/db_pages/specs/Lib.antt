pub mod Page
pub mod Cut
pub mod Numbers
pub mod Laid
pub mod Levels
pub mod Grown
pub mod Image
pub mod Laws
