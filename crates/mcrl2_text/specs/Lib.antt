pub mod Faults
pub mod Bytes
pub mod Calls
pub mod Texts
pub mod Plans
pub mod MemoryPlans
