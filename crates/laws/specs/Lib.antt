pub mod Tally
pub mod Exact
