pub mod Graphs
pub mod Cycles
pub mod Marking
pub mod Distances
pub mod Settling
