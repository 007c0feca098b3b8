pub mod CallLemmas
pub mod GuardLemmas
pub mod GraphLemmas
pub mod CycleLemmas
