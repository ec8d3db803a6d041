pub mod Meanings
pub mod Scans
pub mod Walks
