pub mod Traces
pub mod Moved
pub mod Counted
