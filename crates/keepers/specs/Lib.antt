pub mod Meaning
pub mod Refusals
pub mod Made
pub mod Adding
pub mod Asking
pub mod Extent
