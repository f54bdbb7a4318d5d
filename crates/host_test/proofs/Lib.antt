pub mod Copying
pub mod Determined
