pub mod Orders
pub mod Agreeing
pub mod Finding
pub mod Kept
pub mod Verdicts
