pub mod FreshTaps
pub mod NoRun
