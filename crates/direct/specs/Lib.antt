-- What the promises of this crate cite: the tables of events and messages, the record, the rows, the step; and what is claimed of every run.
pub mod Events
pub mod Messages
pub mod Records
pub mod Call
pub mod Draft
pub mod Rows
pub mod Step
pub mod Runs
pub mod Demands
pub mod Witness
