pub mod NameTests
pub mod LabelFilters
pub mod Filters
pub mod Indexes
pub mod Filtering
pub mod Means
pub mod AllowLaws
pub mod FilterOutcomes
