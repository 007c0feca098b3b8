pub mod Solutions
pub mod Simplified
pub mod Solving
pub mod SolvingLaws
pub mod OccurringVariables
pub mod SummandsInCode
pub mod SolvedLinears
