-- Laws of the packed record and of the entries; a function's own proof stands in its folder.
pub mod Answers
pub mod Determined
pub mod Packing
pub mod ReadOff
pub mod Runs
pub mod Small
