pub mod NumberValues
pub mod Rule
pub mod NumberLaws
