pub mod Refusals
pub mod WordTypes
pub mod Directory
pub mod Records
