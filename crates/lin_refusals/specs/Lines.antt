-- The lines of the error output.
use Rattle.std.specs.Prelude.{◌<◌, ℕ, List, [], ◌∷◌, ◌++◌, codes, decimal, get_or, length}
use Rattle.std.specs.List.{AllByRecursion, flat_map}
use Rattle.data_theory.specs.declared.ids.NameId.{NameId}
use Rattle.mcrl2_lexer.specs.declared.token.LexFault.{LexFault}
use Rattle.mcrl2_lexer.specs.declared.token.LexFault.TheVariants as lex
use Rattle.mcrl2_parser.specs.declared.faults.ParseFault.{ParseFault}
use Rattle.mcrl2_parser.specs.declared.faults.ParseFault.TheVariants as parse
use Rattle.sort_table.specs.declared.building.SortFault.{SortFault}
use Rattle.sort_table.specs.declared.building.SortFault.TheVariants as sort
use Rattle.sort_checker.specs.declared.elaborating.TypeFault.{TypeFault}
use Rattle.sort_checker.specs.declared.elaborating.TypeFault.TheVariants as type
use Rattle.proc_unfold.specs.declared.faults.NetFault.{NetFault}
use Rattle.proc_unfold.specs.declared.faults.NetFault.TheVariants as net
use Rattle.guard_check.specs.declared.checking.GuardFault.{GuardFault}
use Rattle.guard_check.specs.declared.checking.GuardFault.TheVariants as guard
use Rattle.lin_driver.specs.declared.fault.LinFault.{LinFault}
use Rattle.lin_driver.specs.declared.fault.LinFault.TheVariants as lin
use Rattle.lin_refusals.specs.declared.stop.Stop.{Stop}
use Rattle.lin_refusals.specs.declared.stop.Stop.TheVariants.{Words, ReadFault, TooLong, Refused, NoMemory}

abbrev pub no_memory_line : List ℕ
no_memory_line = codes "no memory\n"

abbrev pub write_fault_line : List ℕ
write_fault_line = codes "write fault\n"

-- a refusal with the place or the number that its fault has
abbrev pub numbered : List ℕ → ℕ → List ℕ
numbered start number = start ++ decimal number ++ codes "\n"

abbrev pub lex_line : LexFault → List ℕ
lex_line (lex.BadByte place) = numbered (codes "refused 1 BadByte ") place
lex_line (lex.NumeralTooLarge place) = numbered (codes "refused 2 NumeralTooLarge ") place
lex_line (lex.OutOfProfile place) = numbered (codes "refused 3 OutOfProfile ") place
lex_line lex.NoMemory = no_memory_line

abbrev pub parse_line : ParseFault → List ℕ
parse_line (parse.Syntax number) = numbered (codes "refused 4 Syntax ") number
parse_line (parse.TooDeep number) = numbered (codes "refused 5 TooDeep ") number
parse_line parse.NoInit = codes "refused 6 NoInit\n"
parse_line (parse.TwoInits number) = numbered (codes "refused 7 TwoInits ") number
parse_line parse.NoMemory = no_memory_line

-- the text of a name
abbrev pub text_of : List (List ℕ) → NameId → List ℕ
text_of texts name = get_or texts name.0 []

-- a detail of a refusal that isn't its last one, or that stands behind another
abbrev pub spaced : List ℕ → List ℕ
spaced detail = codes " " ++ detail

-- a refusal that lists names
abbrev pub listed : List ℕ → List (List ℕ) → List NameId → List ℕ
listed start texts names = start ++ flat_map (λ (n : NameId). spaced (text_of texts n)) names ++ codes "\n"

abbrev pub sort_line : List (List ℕ) → SortFault → List ℕ
sort_line texts (sort.UnknownSort number name) = codes "refused 8 UnknownSort" ++ spaced (decimal number) ++ spaced (text_of texts name) ++ codes "\n"
sort_line texts (sort.SortCycle names) = listed (codes "refused 9 SortCycle") texts names.items
sort_line texts (sort.Duplicate first second) = codes "refused 10 Duplicate" ++ spaced (decimal first) ++ spaced (decimal second) ++ codes "\n"
sort_line texts (sort.EmptySort name) = codes "refused 11 EmptySort" ++ spaced (text_of texts name) ++ codes "\n"
sort_line texts sort.NoMemory = no_memory_line

-- a refusal with a number and a name
abbrev pub named : List ℕ → ℕ → List ℕ → List ℕ
named start number name = start ++ spaced (decimal number) ++ spaced name ++ codes "\n"

abbrev pub type_line : List (List ℕ) → TypeFault → List ℕ
type_line texts (type.UnknownName number name) = named (codes "refused 12 UnknownName") number (text_of texts name)
type_line texts (type.Untyped number) = numbered (codes "refused 13 Untyped ") number
type_line texts (type.FreeVariable number name) = named (codes "refused 14 FreeVariable") number (text_of texts name)
type_line texts (type.VariableLeft number) = numbered (codes "refused 15 VariableLeft ") number
type_line texts (type.CommShape number) = numbered (codes "refused 16 CommShape ") number
type_line texts (type.RenameTwice number name) = named (codes "refused 17 RenameTwice") number (text_of texts name)
type_line texts type.NoMemory = no_memory_line

abbrev pub net_line : List (List ℕ) → NetFault → List ℕ
net_line texts (net.ParallelRecursion names) = listed (codes "refused 18 ParallelRecursion") texts names.items
net_line texts (net.ParallelUnderSequential number) = numbered (codes "refused 19 ParallelUnderSequential ") number
net_line texts net.NoMemory = no_memory_line

abbrev pub guard_line : List (List ℕ) → GuardFault → List ℕ
guard_line texts (guard.Unguarded names) = listed (codes "refused 20 Unguarded") texts names.items
guard_line texts guard.NoMemory = no_memory_line

-- the line that refuses a text with that fault, whose names stand among these texts
abbrev pub refusal_line : List (List ℕ) → LinFault → List ℕ
refusal_line texts (lin.Lex fault) = lex_line fault
refusal_line texts (lin.Parse fault) = parse_line fault
refusal_line texts (lin.Sort fault) = sort_line texts fault
refusal_line texts (lin.«Type» fault) = type_line texts fault
refusal_line texts (lin.Net fault) = net_line texts fault
refusal_line texts (lin.Guard fault) = guard_line texts fault
refusal_line texts (lin.NotTail component summand) = codes "refused 21 NotTail" ++ spaced (decimal component) ++ spaced (decimal summand) ++ codes "\n"
refusal_line texts (lin.TerminateDeclared declaration) = numbered (codes "refused 23 TerminateDeclared ") declaration
refusal_line texts lin.NoMemory = no_memory_line

-- the line that refuses a trace whose line with this number is no label
abbrev pub bad_trace_line : ℕ → List ℕ
bad_trace_line number = numbered (codes "refused 22 BadTrace ") number

-- the line that refuses a text that is no condition over the parameters
abbrev pub bad_term_line : List ℕ
bad_term_line = codes "refused 24 BadTerm\n"

-- the line that refuses a text of choices whose line with this number is no move
abbrev pub bad_choice_line : ℕ → List ℕ
bad_choice_line number = numbered (codes "refused 28 BadChoice ") number

-- these names have a text
abbrev pub AreNamed : List (List ℕ) → List NameId → Type 0
AreNamed texts = AllByRecursion (λ (n : NameId). n.0 < length texts)

-- the names that a fault lists
abbrev pub names_of_sort_fault : SortFault → List NameId
names_of_sort_fault (sort.UnknownSort number name) = name ∷ []
names_of_sort_fault (sort.SortCycle names) = names.items
names_of_sort_fault (sort.EmptySort name) = name ∷ []
names_of_sort_fault _ = []

abbrev pub names_of_type_fault : TypeFault → List NameId
names_of_type_fault (type.UnknownName number name) = name ∷ []
names_of_type_fault (type.FreeVariable number name) = name ∷ []
names_of_type_fault (type.RenameTwice number name) = name ∷ []
names_of_type_fault _ = []

abbrev pub names_of_net_fault : NetFault → List NameId
names_of_net_fault (net.ParallelRecursion names) = names.items
names_of_net_fault _ = []

abbrev pub names_of_guard_fault : GuardFault → List NameId
names_of_guard_fault (guard.Unguarded names) = names.items
names_of_guard_fault guard.NoMemory = []

abbrev pub names_of_fault : LinFault → List NameId
names_of_fault (lin.Sort fault) = names_of_sort_fault fault
names_of_fault (lin.«Type» fault) = names_of_type_fault fault
names_of_fault (lin.Net fault) = names_of_net_fault fault
names_of_fault (lin.Guard fault) = names_of_guard_fault fault
names_of_fault _ = []

abbrev pub line_of : Stop → List ℕ
line_of Words = codes "usage: mcrl2lin TASK FILE [--trace FILE] [--method M] [--fuel N] [--bound N] [--seed N] [--depth N] [--ending E] [--invariant FILE] [--after FILE]\n"
line_of ReadFault = codes "read fault\n"
line_of TooLong = codes "refused 0 TooLong\n"
line_of (Refused line) = line.items
line_of NoMemory = no_memory_line
