pub mod Table
pub mod Reading
pub mod Laws
pub mod Runs
