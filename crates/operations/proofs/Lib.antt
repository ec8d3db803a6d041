pub mod Searching
pub mod Wording
pub mod Prefixes
