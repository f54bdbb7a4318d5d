-- What the promises of this crate cite: letters, bytes, bodies, tables, and the laws of the tables.
pub mod Letters
pub mod Bytes
pub mod Bodies
pub mod Tables
pub mod Events
pub mod Messages
pub mod Laws
pub mod Records
