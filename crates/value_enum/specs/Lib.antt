pub mod Ascending
pub mod Values
pub mod Levels
pub mod Shapes
pub mod Listing
pub mod Laws
