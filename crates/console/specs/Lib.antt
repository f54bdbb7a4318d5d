pub mod Table
pub mod Route
pub mod Keys
pub mod Console
pub mod Runs
pub mod Answers
pub mod Demands
pub mod Witness
