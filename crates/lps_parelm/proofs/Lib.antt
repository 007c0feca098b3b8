pub mod KeptPlaces
pub mod Drops
pub mod DroppedArguments
pub mod UseGraphs
pub mod UseLoops
pub mod NeededParameters
pub mod WhatIsLeft
pub mod WholeElimination
