-- Which faults are those of a text up to its recursion.
use Rattle.std.proofs.Common.{◌≡◌, ◌≢◌, sym, subst, Result, Ok, Err}
use Rattle.std.specs.Prelude.{IfErr, IsErrAnd}
use Rattle.mcrl2_lexer.specs.declared.token.LexFault.{LexFault}
use Rattle.mcrl2_lexer.specs.declared.token.LexFault.TheVariants as lex
use Rattle.mcrl2_parser.specs.declared.faults.ParseFault.{ParseFault}
use Rattle.mcrl2_parser.specs.declared.faults.ParseFault.TheVariants as parse
use Rattle.sort_table.specs.declared.building.SortFault.{SortFault}
use Rattle.sort_table.specs.declared.building.SortFault.TheVariants as sort
use Rattle.sort_checker.specs.declared.elaborating.TypeFault.{TypeFault}
use Rattle.sort_checker.specs.declared.elaborating.TypeFault.TheVariants as type
use Rattle.proc_unfold.specs.declared.faults.NetFault.{NetFault}
use Rattle.proc_unfold.specs.declared.faults.NetFault.TheVariants as net
use Rattle.guard_check.specs.declared.checking.GuardFault.{GuardFault}
use Rattle.guard_check.specs.declared.checking.GuardFault.TheVariants as guard
use Rattle.lin_driver.specs.Accepted.{IsUpToRecursion, IsOfTheText}
use Rattle.lin_driver.specs.Faults.{fault_of_net, fault_of_guard, fault_of_lex, fault_of_parse, fault_of_sort, fault_of_type, fault_of_model, IsFaultBy}
use Rattle.lin_driver.specs.declared.fault.LinFault.{LinFault}
use Rattle.lin_driver.specs.declared.fault.LinFault.TheVariants.{Lex, Parse, Sort, «Type», Net, Guard, NotTail, TerminateDeclared, NoMemory}
use Rattle.lin_driver.specs.declared.fault.ModelFault.{ModelFault}
use Rattle.lin_driver.specs.declared.fault.ModelFault.TheVariants as model
use Rattle.lin_driver.specs.declared.ending.Ending.{Ending}
use Rattle.lin_driver.specs.declared.methods.Method.{Method}

-- ---- of a specification
pub net_is_up_to : {T : Type 0} (r : Result T ModelFault) (fault : NetFault) → IsErrAnd r (λ given. given ≡ fault_of_net fault) → IfErr r IsUpToRecursion
net_is_up_to (Ok x) fault same = absurd same
net_is_up_to (Err given) net.NoMemory same = subst IsUpToRecursion (sym same) tt
net_is_up_to (Err given) (net.ParallelRecursion names) same = subst IsUpToRecursion (sym same) tt
net_is_up_to (Err given) (net.ParallelUnderSequential number) same = subst IsUpToRecursion (sym same) tt

pub guard_is_up_to : {T : Type 0} (r : Result T ModelFault) (fault : GuardFault) → IsErrAnd r (λ given. given ≡ fault_of_guard fault) → IfErr r IsUpToRecursion
guard_is_up_to (Ok x) fault same = absurd same
guard_is_up_to (Err given) guard.NoMemory same = subst IsUpToRecursion (sym same) tt
guard_is_up_to (Err given) (guard.Unguarded names) same = subst IsUpToRecursion (sym same) tt

-- ---- of a text
abbrev IsTextFault : {T : Type 0} → Result T LinFault → Type 0
IsTextFault r = IfErr r (λ given. given ≢ NoMemory → IsOfTheText given)

pub lex_of_the_text : {T : Type 0} (r : Result T LinFault) (fault : LexFault) → IsErrAnd r (λ given. given ≡ fault_of_lex fault) → IsTextFault r
lex_of_the_text (Ok x) fault same = absurd same
lex_of_the_text (Err given) lex.NoMemory same = λ some. absurd (some same)
lex_of_the_text (Err given) (lex.BadByte place) same = λ some. subst IsOfTheText (sym same) tt
lex_of_the_text (Err given) (lex.NumeralTooLarge place) same = λ some. subst IsOfTheText (sym same) tt
lex_of_the_text (Err given) (lex.OutOfProfile place) same = λ some. subst IsOfTheText (sym same) tt

pub parse_of_the_text : {T : Type 0} (r : Result T LinFault) (fault : ParseFault) → IsErrAnd r (λ given. given ≡ fault_of_parse fault) → IsTextFault r
parse_of_the_text (Ok x) fault same = absurd same
parse_of_the_text (Err given) parse.NoMemory same = λ some. absurd (some same)
parse_of_the_text (Err given) (parse.Syntax number) same = λ some. subst IsOfTheText (sym same) tt
parse_of_the_text (Err given) (parse.TooDeep number) same = λ some. subst IsOfTheText (sym same) tt
parse_of_the_text (Err given) parse.NoInit same = λ some. subst IsOfTheText (sym same) tt
parse_of_the_text (Err given) (parse.TwoInits number) same = λ some. subst IsOfTheText (sym same) tt

pub sort_of_the_text : {T : Type 0} (r : Result T LinFault) (fault : SortFault) → IsErrAnd r (λ given. given ≡ fault_of_sort fault) → IsTextFault r
sort_of_the_text (Ok x) fault same = absurd same
sort_of_the_text (Err given) sort.NoMemory same = λ some. absurd (some same)
sort_of_the_text (Err given) (sort.UnknownSort number name) same = λ some. subst IsOfTheText (sym same) tt
sort_of_the_text (Err given) (sort.SortCycle names) same = λ some. subst IsOfTheText (sym same) tt
sort_of_the_text (Err given) (sort.Duplicate first second) same = λ some. subst IsOfTheText (sym same) tt
sort_of_the_text (Err given) (sort.EmptySort name) same = λ some. subst IsOfTheText (sym same) tt

pub type_of_the_text : {T : Type 0} (r : Result T LinFault) (fault : TypeFault) → IsErrAnd r (λ given. given ≡ fault_of_type fault) → IsTextFault r
type_of_the_text (Ok x) fault same = absurd same
type_of_the_text (Err given) type.NoMemory same = λ some. absurd (some same)
type_of_the_text (Err given) (type.UnknownName number name) same = λ some. subst IsOfTheText (sym same) tt
type_of_the_text (Err given) (type.Untyped number) same = λ some. subst IsOfTheText (sym same) tt
type_of_the_text (Err given) (type.FreeVariable number name) same = λ some. subst IsOfTheText (sym same) tt
type_of_the_text (Err given) (type.VariableLeft number) same = λ some. subst IsOfTheText (sym same) tt
type_of_the_text (Err given) (type.CommShape number) same = λ some. subst IsOfTheText (sym same) tt
type_of_the_text (Err given) (type.RenameTwice number name) same = λ some. subst IsOfTheText (sym same) tt

pub model_of_the_text : (fault : ModelFault) (given : LinFault) → IsUpToRecursion fault → given ≡ fault_of_model fault → given ≢ NoMemory → IsOfTheText given
model_of_the_text (model.Net fault) given up same some = subst IsOfTheText (sym same) tt
model_of_the_text (model.Guard fault) given up same some = subst IsOfTheText (sym same) tt
model_of_the_text model.NoMemory given up same some = absurd (some same)
model_of_the_text _ given up same some = absurd up

-- such a fault is one by each method
one_by : (ending : Ending) (method : Method) (fault : LinFault) → (fault ≢ NoMemory → IsOfTheText fault) → IsFaultBy ending method fault
one_by ending method (Lex fault) of = tt
one_by ending method (Parse fault) of = tt
one_by ending method (Sort fault) of = tt
one_by ending method («Type» fault) of = tt
one_by ending method (Net fault) of = tt
one_by ending method (Guard fault) of = tt
one_by ending method (NotTail component summand) of = absurd (of (λ e. cc))
one_by ending method (TerminateDeclared number) of = absurd (of (λ e. cc))
one_by ending method NoMemory of = tt

pub by_each_method : {T : Type 0} (r : Result T LinFault) (ending : Ending) (method : Method) → IsTextFault r → IfErr r (IsFaultBy ending method)
by_each_method (Ok x) ending method of = tt
by_each_method (Err fault) ending method of = one_by ending method fault of
