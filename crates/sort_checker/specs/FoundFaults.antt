-- The faults that code finds.
use Rattle.sort_checker.specs.declared.type_faults.FoundFault.{FoundFault}
use Rattle.sort_checker.specs.declared.type_faults.FoundFault.TheVariants as found
use Rattle.sort_checker.specs.Refusals.{TypeFault, unknown_in, untyped, free_in, variable_left, comm_shape, rename_twice}

abbrev pub fault_of : FoundFault → TypeFault
fault_of (found.UnknownName d n) = unknown_in d n.now
fault_of (found.Untyped d) = untyped d
fault_of (found.FreeVariable d n) = free_in d n.now
fault_of (found.VariableLeft d) = variable_left d
fault_of (found.CommShape d) = comm_shape d
fault_of (found.RenameTwice d n) = rename_twice d n.now
