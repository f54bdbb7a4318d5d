pub mod Flat
pub mod Table
pub mod Line
pub mod Entry
pub mod Places
pub mod Reading
pub mod Small
pub mod Engines
