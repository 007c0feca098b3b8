-- What each fault says.
use Rattle.process_terms.specs.PlainProcesses.{PlainModel}
use Rattle.guard_check.specs.declared.checking.GuardFault.{GuardFault}
use Rattle.guard_check.specs.declared.checking.GuardFault.TheVariants.{Unguarded, NoMemory}
use Rattle.guard_check.specs.Calls.{Leads}
use Rattle.guard_check.specs.Guards.{AreOfFirstCycle}

-- names that lead round to the first of them; want of memory has no cause here
abbrev pub IsGuardFaultOf : PlainModel → GuardFault → Type 0
IsGuardFaultOf m (Unguarded names) = AreOfFirstCycle m Leads names.items
IsGuardFaultOf m NoMemory = Unit {0}
