pub mod Checking
pub mod Admitting
pub mod Reaching
