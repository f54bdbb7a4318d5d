pub mod Set
pub mod Entries
pub mod Parts
pub mod Times
pub mod Runs
pub mod Demands
pub mod Witness
