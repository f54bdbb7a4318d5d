-- Laws that more than one function needs, and the claims; a function's own proof stands in its folder.
pub mod Answering
pub mod Asking
pub mod Counting
pub mod Demands
pub mod Determined
pub mod First
pub mod Individual
pub mod Kept
pub mod Once
pub mod Reading
pub mod Turns
pub mod Waiting
pub mod Witness
pub mod Written
