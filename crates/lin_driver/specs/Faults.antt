-- The fault of a text or of a specification, from the fault of a pass.
use Rattle.mcrl2_lexer.specs.declared.token.LexFault.{LexFault}
use Rattle.mcrl2_lexer.specs.declared.token.LexFault.TheVariants as lex
use Rattle.mcrl2_parser.specs.declared.faults.ParseFault.{ParseFault}
use Rattle.mcrl2_parser.specs.declared.faults.ParseFault.TheVariants as parse
use Rattle.sort_table.specs.declared.building.SortFault.{SortFault}
use Rattle.sort_table.specs.declared.building.SortFault.TheVariants as sort
use Rattle.sort_checker.specs.declared.elaborating.TypeFault.{TypeFault}
use Rattle.sort_checker.specs.declared.elaborating.TypeFault.TheVariants as type
use Rattle.std.specs.Prelude.{◌≡◌, ℕ}
use Rattle.proc_unfold.specs.declared.faults.NetFault.{NetFault}
use Rattle.proc_unfold.specs.declared.faults.NetFault.TheVariants as net
use Rattle.guard_check.specs.declared.checking.GuardFault.{GuardFault}
use Rattle.guard_check.specs.declared.checking.GuardFault.TheVariants as guard
use Rattle.regular_encoder.specs.declared.faults.EncodeFault.{EncodeFault}
use Rattle.regular_encoder.specs.declared.faults.EncodeFault.TheVariants as encode
use Rattle.lin_driver.specs.declared.fault.ModelFault.{ModelFault}
use Rattle.lin_driver.specs.declared.fault.ModelFault.TheVariants.{Net, Guard, NotTail, NoMemory}
use Rattle.lin_driver.specs.declared.fault.LinFault.{LinFault}
use Rattle.lin_driver.specs.declared.fault.LinFault.TheVariants as lin
use Rattle.lin_driver.specs.declared.ending.Ending.{Ending}
use Rattle.lin_driver.specs.declared.ending.Ending.TheVariants.{Terminate}
use Rattle.lin_driver.specs.declared.methods.Method.{Method}
use Rattle.lin_driver.specs.declared.methods.Method.TheVariants.{Regular}

abbrev pub fault_of_net : NetFault → ModelFault
fault_of_net net.NoMemory = NoMemory
fault_of_net (net.ParallelRecursion names) = Net (net.ParallelRecursion names)
fault_of_net (net.ParallelUnderSequential number) = Net (net.ParallelUnderSequential number)

abbrev pub fault_of_guard : GuardFault → ModelFault
fault_of_guard guard.NoMemory = NoMemory
fault_of_guard (guard.Unguarded names) = Guard (guard.Unguarded names)

-- the number is that of the leaf
abbrev pub fault_of_encode : ℕ → EncodeFault → ModelFault
fault_of_encode number encode.NoMemory = NoMemory
fault_of_encode number (encode.NotTail summand) = NotTail number summand

-- ---- of a text
abbrev pub fault_of_lex : LexFault → LinFault
fault_of_lex lex.NoMemory = lin.NoMemory
fault_of_lex (lex.BadByte place) = lin.Lex (lex.BadByte place)
fault_of_lex (lex.NumeralTooLarge place) = lin.Lex (lex.NumeralTooLarge place)
fault_of_lex (lex.OutOfProfile place) = lin.Lex (lex.OutOfProfile place)

abbrev pub fault_of_parse : ParseFault → LinFault
fault_of_parse parse.NoMemory = lin.NoMemory
fault_of_parse (parse.Syntax number) = lin.Parse (parse.Syntax number)
fault_of_parse (parse.TooDeep number) = lin.Parse (parse.TooDeep number)
fault_of_parse parse.NoInit = lin.Parse parse.NoInit
fault_of_parse (parse.TwoInits number) = lin.Parse (parse.TwoInits number)

abbrev pub fault_of_sort : SortFault → LinFault
fault_of_sort sort.NoMemory = lin.NoMemory
fault_of_sort (sort.UnknownSort number name) = lin.Sort (sort.UnknownSort number name)
fault_of_sort (sort.SortCycle names) = lin.Sort (sort.SortCycle names)
fault_of_sort (sort.Duplicate first second) = lin.Sort (sort.Duplicate first second)
fault_of_sort (sort.EmptySort name) = lin.Sort (sort.EmptySort name)

abbrev pub fault_of_type : TypeFault → LinFault
fault_of_type type.NoMemory = lin.NoMemory
fault_of_type (type.UnknownName number name) = lin.«Type» (type.UnknownName number name)
fault_of_type (type.Untyped number) = lin.«Type» (type.Untyped number)
fault_of_type (type.FreeVariable number name) = lin.«Type» (type.FreeVariable number name)
fault_of_type (type.VariableLeft number) = lin.«Type» (type.VariableLeft number)
fault_of_type (type.CommShape number) = lin.«Type» (type.CommShape number)
fault_of_type (type.RenameTwice number name) = lin.«Type» (type.RenameTwice number name)

abbrev pub fault_of_model : ModelFault → LinFault
fault_of_model (Net fault) = lin.Net fault
fault_of_model (Guard fault) = lin.Guard fault
fault_of_model (NotTail component summand) = lin.NotTail component summand
fault_of_model NoMemory = lin.NoMemory

-- a summand of two calls is a fault by the method `Regular` alone, and an action `Terminate` by the ending of this name
abbrev pub IsModelFaultBy : Method → ModelFault → Type 0
IsModelFaultBy method (Net fault) = Unit {0}
IsModelFaultBy method (Guard fault) = Unit {0}
IsModelFaultBy method (NotTail component summand) = method ≡ Regular
IsModelFaultBy method NoMemory = Unit {0}

abbrev pub IsFaultBy : Ending → Method → LinFault → Type 0
IsFaultBy ending method (lin.Lex fault) = Unit {0}
IsFaultBy ending method (lin.Parse fault) = Unit {0}
IsFaultBy ending method (lin.Sort fault) = Unit {0}
IsFaultBy ending method (lin.«Type» fault) = Unit {0}
IsFaultBy ending method (lin.Net fault) = Unit {0}
IsFaultBy ending method (lin.Guard fault) = Unit {0}
IsFaultBy ending method (lin.NotTail component summand) = method ≡ Regular
IsFaultBy ending method (lin.TerminateDeclared number) = ending ≡ Terminate
IsFaultBy ending method lin.NoMemory = Unit {0}
