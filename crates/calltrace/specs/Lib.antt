pub mod Counts
pub mod Line
pub mod Block
pub mod Trace
pub mod End
pub mod Claims
