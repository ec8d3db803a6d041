pub mod Reading
pub mod Examining
pub mod Admitting
