pub mod Calls
pub mod Guards
pub mod CallGraphs
pub mod Faults
