pub mod Latest
pub mod Accepting
pub mod Extents
