pub mod WholeFile
