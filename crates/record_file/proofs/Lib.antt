pub mod Walk
pub mod Fitting
pub mod Items
