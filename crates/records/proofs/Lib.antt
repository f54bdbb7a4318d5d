-- Laws that more than one function needs, and the claims about the tables; a function's own proof stands in its folder.
pub mod Apart
pub mod Determined
pub mod Laws
pub mod Places
pub mod Reading
pub mod Retired
pub mod RoundTrip
pub mod Rows
pub mod Slots
pub mod Tables
pub mod Writing
