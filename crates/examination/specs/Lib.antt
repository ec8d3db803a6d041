pub mod Refusals
pub mod Races
pub mod Admission
pub mod Asking
pub mod Closing
pub mod Runs
