pub mod InTurn
pub mod Arriving
