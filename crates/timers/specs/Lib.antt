-- What the promises of this crate cite, and what is claimed of them over true time.
pub mod Wrap
pub mod Due
pub mod Bank
pub mod Time
pub mod Claims
pub mod Witness
