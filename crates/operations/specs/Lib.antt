pub mod Kinds
pub mod Rules
pub mod Events
pub mod Sources
pub mod Races
pub mod History
