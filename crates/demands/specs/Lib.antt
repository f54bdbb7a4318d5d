pub mod Runs
pub mod History
pub mod Clocks
pub mod Demands
pub mod Examples
pub mod Witness
pub mod WrongSteps
