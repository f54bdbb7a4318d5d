-- Laws that more than one function needs, and the claims about every run; a function's own proof stands in its folder.
pub mod Answers
pub mod Attempts
pub mod Carried
pub mod Demands
pub mod Determined
pub mod Kept
pub mod NewKinds
pub mod Reading
pub mod ReadsBack
pub mod Sent
pub mod Situations
pub mod Stores
pub mod Tables
pub mod Timers
pub mod Told
pub mod Turns
pub mod Witness
