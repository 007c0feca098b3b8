pub mod Below
pub mod Marks
pub mod Searches
pub mod Kept
pub mod Settling
pub mod Ranking
pub mod Distances
pub mod Paths
