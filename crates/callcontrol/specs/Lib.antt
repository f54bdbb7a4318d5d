pub mod Call
pub mod Draft
pub mod Rows
pub mod Settle
pub mod Writing
pub mod Step
