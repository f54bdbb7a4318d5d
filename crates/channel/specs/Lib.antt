pub mod Rooms
pub mod Questions
pub mod Runs
pub mod Answers
pub mod Demands
pub mod Witness
