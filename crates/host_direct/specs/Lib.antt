pub mod Packing
pub mod Entries
pub mod Laws
pub mod Runs
