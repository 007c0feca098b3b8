pub mod Powers
pub mod NumberLemmas
