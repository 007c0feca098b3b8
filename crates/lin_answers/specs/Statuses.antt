-- The statuses of answers.
use Rattle.std.specs.Prelude.{ℕ, List, [], ◌∷◌}
use Rattle.lps_simulator.specs.declared.options.Open.{Open}
use Rattle.lin_answers.specs.declared.status.Status.{Status}
use Rattle.lin_answers.specs.declared.status.Status.TheVariants.{Done, Refused, Words, ReadFault, WriteFault, NoMemory, Undecided, No}

-- whether a summand is left undecided
abbrev pub status_with : List Open → Status
status_with [] = Done
status_with (o ∷ undecided) = Undecided

-- the exit status of the program
abbrev pub number_of : Status → ℕ
number_of Done = 0
number_of Refused = 1
number_of Words = 2
number_of ReadFault = 3
number_of WriteFault = 4
number_of NoMemory = 5
number_of Undecided = 6
number_of No = 7
