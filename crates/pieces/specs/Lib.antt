pub mod Stream
pub mod Next
pub mod Runs
pub mod Claims
pub mod Witness
