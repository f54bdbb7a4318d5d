pub mod All
pub mod Determined
pub mod Entry
pub mod Near
pub mod OnePlace
pub mod Packing
pub mod Runs
pub mod Tables
