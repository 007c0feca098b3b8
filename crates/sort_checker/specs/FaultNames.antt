-- The name in a fault.
use Rattle.sort_table.specs.Expressions.{Name}
use Rattle.sort_checker.specs.Refusals.{TypeFault, unknown_in, untyped, free_in, variable_left, comm_shape, rename_twice}

-- what holds of the name, where there is one
abbrev pub HoldsOfName : (Name → Type 0) → TypeFault → Type 0
HoldsOfName Q (unknown_in d n) = Q n
HoldsOfName Q (untyped d) = Unit {0}
HoldsOfName Q (free_in d n) = Q n
HoldsOfName Q (variable_left d) = Unit {0}
HoldsOfName Q (comm_shape d) = Unit {0}
HoldsOfName Q (rename_twice d n) = Q n
