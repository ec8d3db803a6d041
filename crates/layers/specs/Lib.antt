pub mod Renumbering
pub mod Layers
