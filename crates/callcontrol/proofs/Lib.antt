pub mod Carried
pub mod Determined
pub mod Laying
pub mod Ordering
pub mod Settled
pub mod Tags
pub mod Verbs
