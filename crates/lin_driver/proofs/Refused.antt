-- Why a text is refused.
use Rattle.std.proofs.Common.{◌≡◌, ◌≢◌, ℕ, List, refl, sym, subst, ◌∙◌, Result, Ok, Err}
use Rattle.std.specs.Prelude.{IfErr, IfOk, IsErrAnd, OnOk}
use Rattle.mcrl2_lexer.specs.declared.token.LexFault.{LexFault}
use Rattle.mcrl2_lexer.specs.declared.token.LexFault.TheVariants as lex
use Rattle.mcrl2_lexer.specs.declared.token.Token.{Token}
use Rattle.mcrl2_lexer.specs.Lexing as lexing
use Rattle.mcrl2_lexer.specs.Lexing.{HasTokens}
use Rattle.mcrl2_syntax.specs.Declarations.{PlainSpec}
use Rattle.mcrl2_parser.specs.declared.faults.ParseFault.{ParseFault}
use Rattle.mcrl2_parser.specs.declared.faults.ParseFault.TheVariants as parse
use Rattle.mcrl2_parser.specs.Faults as parsing
use Rattle.data_theory.specs.Complete.{BeginsWith}
use Rattle.data_theory.specs.Signature.{Sig}
use Rattle.term_pool.specs.Pools.{PoolContents}
use Rattle.process_terms.specs.PlainProcesses.{PlainModel}
use Rattle.sort_table.specs.Built.{IsFaultOf}
use Rattle.sort_table.specs.declared.building.SortFault.{SortFault}
use Rattle.sort_table.specs.declared.building.SortFault.TheVariants as sort
use Rattle.sort_checker.specs.TextModels.{IsModelOf, IsTypeFaultOf}
use Rattle.sort_checker.specs.declared.elaborating.TypeFault.{TypeFault}
use Rattle.sort_checker.specs.declared.elaborating.TypeFault.TheVariants as type
use Rattle.lin_driver.specs.Faults.{fault_of_lex, fault_of_parse, fault_of_sort, fault_of_type, fault_of_model, IsModelFaultBy, IsFaultBy}
use Rattle.lin_driver.specs.ModelLinears.{IsModelFaultOf}
use Rattle.lin_driver.specs.Refusals.{IsParsedAs, IsModelFaultOver, IsSpecFault, IsRefusedWith}
use Rattle.lin_driver.specs.declared.fault.LinFault.{LinFault}
use Rattle.lin_driver.specs.declared.fault.LinFault.TheVariants.{Lex, Parse, Sort, «Type», Net, Guard, NotTail, TerminateDeclared, NoMemory}
use Rattle.lin_driver.specs.declared.fault.ModelFault.{ModelFault}
use Rattle.lin_driver.specs.declared.fault.ModelFault.TheVariants as model
use Rattle.lin_driver.specs.declared.ending.Ending.{Ending}
use Rattle.lin_driver.specs.declared.methods.Method.{Method}

abbrev IsRefused : {T : Type 0} → Result T LinFault → List ℕ → List (List ℕ) → Type 0
IsRefused r text texts = IfErr r (λ given. given ≢ NoMemory → IsRefusedWith text texts given)

-- ---- tokens and declarations
pub lex_refused : {T : Type 0} (r : Result T LinFault) (text : List ℕ) (texts : List (List ℕ)) (fault : LexFault) → (fault ≢ lex.NoMemory → lexing.HasFault text fault) → IsErrAnd r (λ given. given ≡ fault_of_lex fault) → IsRefused r text texts
lex_refused (Ok x) text texts fault has same = absurd same
lex_refused (Err given) text texts lex.NoMemory has same = λ some. absurd (some same)
lex_refused (Err given) text texts (lex.BadByte place) has same = λ some. subst (IsRefusedWith text texts) (sym same) (has (λ e. cc))
lex_refused (Err given) text texts (lex.NumeralTooLarge place) has same = λ some. subst (IsRefusedWith text texts) (sym same) (has (λ e. cc))
lex_refused (Err given) text texts (lex.OutOfProfile place) has same = λ some. subst (IsRefusedWith text texts) (sym same) (has (λ e. cc))

pub parse_refused : {T : Type 0} (r : Result T LinFault) (text its_text : List ℕ) (texts : List (List ℕ)) (tokens : List Token) (fault : ParseFault) → its_text ≡ text → HasTokens text tokens → (fault ≢ parse.NoMemory → parsing.HasFault its_text tokens fault)
    → IsErrAnd r (λ given. given ≡ fault_of_parse fault) → IsRefused r text texts
parse_refused (Ok x) text its_text texts tokens fault own cut has same = absurd same
parse_refused (Err given) text its_text texts tokens parse.NoMemory own cut has same = λ some. absurd (some same)
parse_refused (Err given) text its_text texts tokens (parse.Syntax number) own cut has same = λ some.
    subst (IsRefusedWith text texts) (sym same) (record { tokens = tokens; has_tokens = cut; has_fault = subst (λ x. parsing.HasFault x tokens (parse.Syntax number)) own (has (λ e. cc)) })
parse_refused (Err given) text its_text texts tokens (parse.TooDeep number) own cut has same = λ some.
    subst (IsRefusedWith text texts) (sym same) (record { tokens = tokens; has_tokens = cut; has_fault = subst (λ x. parsing.HasFault x tokens (parse.TooDeep number)) own (has (λ e. cc)) })
parse_refused (Err given) text its_text texts tokens parse.NoInit own cut has same = λ some.
    subst (IsRefusedWith text texts) (sym same) (record { tokens = tokens; has_tokens = cut; has_fault = subst (λ x. parsing.HasFault x tokens parse.NoInit) own (has (λ e. cc)) })
parse_refused (Err given) text its_text texts tokens (parse.TwoInits number) own cut has same = λ some.
    subst (IsRefusedWith text texts) (sym same) (record { tokens = tokens; has_tokens = cut; has_fault = subst (λ x. parsing.HasFault x tokens (parse.TwoInits number)) own (has (λ e. cc)) })

-- ---- a fault of the specification is one of its text
of_spec : (text : List ℕ) (spec : PlainSpec) (texts : List (List ℕ)) → IsParsedAs text spec → (fault : LinFault) → IsSpecFault spec texts fault → IsRefusedWith text texts fault
of_spec text spec texts parsed (Lex fault) has = absurd has
of_spec text spec texts parsed (Parse fault) has = absurd has
of_spec text spec texts parsed (Sort fault) has = record { spec = spec; parsed = parsed; has_fault = has }
of_spec text spec texts parsed («Type» fault) has = record { spec = spec; parsed = parsed; has_fault = has }
of_spec text spec texts parsed (Net fault) has = record { spec = spec; parsed = parsed; has_fault = has }
of_spec text spec texts parsed (Guard fault) has = record { spec = spec; parsed = parsed; has_fault = has }
of_spec text spec texts parsed (NotTail component summand) has = record { spec = spec; parsed = parsed; has_fault = has }
of_spec text spec texts parsed (TerminateDeclared number) has = absurd has
of_spec text spec texts parsed NoMemory has = absurd has

pub spec_refused : {T : Type 0} (r : Result T LinFault) (text : List ℕ) (spec : PlainSpec) (texts : List (List ℕ)) → IsParsedAs text spec → IfErr r (λ given. given ≢ NoMemory → IsSpecFault spec texts given) → IsRefused r text texts
spec_refused (Ok x) text spec texts parsed has = tt
spec_refused (Err given) text spec texts parsed has = λ some. of_spec text spec texts parsed given (has some)

pub sort_refused : {T : Type 0} (r : Result T LinFault) (text : List ℕ) (spec : PlainSpec) (texts : List (List ℕ)) (fault : SortFault) → IsParsedAs text spec → IsFaultOf spec texts fault → IsErrAnd r (λ given. given ≡ fault_of_sort fault) → IsRefused r text texts
sort_refused (Ok x) text spec texts fault parsed has same = absurd same
sort_refused (Err given) text spec texts sort.NoMemory parsed has same = λ some. absurd (some same)
sort_refused (Err given) text spec texts (sort.UnknownSort number name) parsed has same = λ some. subst (IsRefusedWith text texts) (sym same) (record { spec = spec; parsed = parsed; has_fault = (has, λ e. cc) })
sort_refused (Err given) text spec texts (sort.SortCycle names) parsed has same = λ some. subst (IsRefusedWith text texts) (sym same) (record { spec = spec; parsed = parsed; has_fault = (has, λ e. cc) })
sort_refused (Err given) text spec texts (sort.Duplicate first second) parsed has same = λ some. subst (IsRefusedWith text texts) (sym same) (record { spec = spec; parsed = parsed; has_fault = (has, λ e. cc) })
sort_refused (Err given) text spec texts (sort.EmptySort name) parsed has same = λ some. subst (IsRefusedWith text texts) (sym same) (record { spec = spec; parsed = parsed; has_fault = (has, λ e. cc) })

-- ---- typing
pub type_refused : {T : Type 0} (r : Result T LinFault) (spec : PlainSpec) (g : Sig) (fault : TypeFault) → IsTypeFaultOf spec g fault → IsErrAnd r (λ given. given ≡ fault_of_type fault) → IfErr r (λ given. given ≢ NoMemory → IsSpecFault spec g.texts given)
type_refused (Ok x) spec g fault has same = absurd same
type_refused (Err given) spec g type.NoMemory has same = λ some. absurd (some same)
type_refused (Err given) spec g (type.UnknownName number name) has same = λ some. subst (IsSpecFault spec g.texts) (sym same) (record { signature = g; names = refl; has_fault = has }, λ e. cc)
type_refused (Err given) spec g (type.Untyped number) has same = λ some. subst (IsSpecFault spec g.texts) (sym same) (record { signature = g; names = refl; has_fault = has }, λ e. cc)
type_refused (Err given) spec g (type.FreeVariable number name) has same = λ some. subst (IsSpecFault spec g.texts) (sym same) (record { signature = g; names = refl; has_fault = has }, λ e. cc)
type_refused (Err given) spec g (type.VariableLeft number) has same = λ some. subst (IsSpecFault spec g.texts) (sym same) (record { signature = g; names = refl; has_fault = has }, λ e. cc)
type_refused (Err given) spec g (type.CommShape number) has same = λ some. subst (IsSpecFault spec g.texts) (sym same) (record { signature = g; names = refl; has_fault = has }, λ e. cc)
type_refused (Err given) spec g (type.RenameTwice number name) has same = λ some. subst (IsSpecFault spec g.texts) (sym same) (record { signature = g; names = refl; has_fault = has }, λ e. cc)

-- ---- the model
module _ (spec : PlainSpec) (g : Sig) (p : PoolContents) (m : PlainModel) (is : IsModelOf spec g p m) (texts : List (List ℕ)) (names : BeginsWith g.texts texts) where
  over : (fault : ModelFault) → IsModelFaultOf m fault → IsModelFaultOver spec texts fault
  over fault has = record { signature = g; pool = p; model = m; is_model = is; names = names; has_fault = has }

  by_model : (fault : ModelFault) → IsModelFaultOf m fault → fault_of_model fault ≢ NoMemory → IsSpecFault spec texts (fault_of_model fault)
  by_model (model.Net fault) has some = over (model.Net fault) has
  by_model (model.Guard fault) has some = over (model.Guard fault) has
  by_model (model.NotTail component summand) has some = over (model.NotTail component summand) has
  by_model model.NoMemory has some = absurd (some refl)

  pub model_refused : (fault : ModelFault) (given : LinFault) → IsModelFaultOf m fault → given ≡ fault_of_model fault → given ≢ NoMemory → IsSpecFault spec texts given
  model_refused fault given has same some = subst (IsSpecFault spec texts) (sym same) (by_model fault has (λ e. some (same ∙ e)))

-- ---- by which method
model_by : (ending : Ending) (method : Method) (fault : ModelFault) → IsModelFaultBy method fault → IsFaultBy ending method (fault_of_model fault)
model_by ending method (model.Net fault) by = tt
model_by ending method (model.Guard fault) by = tt
model_by ending method (model.NotTail component summand) by = by
model_by ending method model.NoMemory by = tt

pub model_fault_by : (ending : Ending) (method : Method) (fault : ModelFault) (given : LinFault) → IsModelFaultBy method fault → given ≡ fault_of_model fault → IsFaultBy ending method given
model_fault_by ending method fault given by same = subst (IsFaultBy ending method) (sym same) (model_by ending method fault by)

-- ---- want of memory alone
pub if_ok : {T E : Type 0} (r : Result T E) (P Q : T → Type 0) → ((x : T) → P x → Q x) → IfOk r P → IfOk r Q
if_ok (Ok x) P Q follows holds = follows x holds
if_ok (Err e) P Q follows holds = tt

pub no_fault_refused : {T : Type 0} (r : Result T LinFault) (text : List ℕ) (texts : List (List ℕ)) → IfErr r (λ fault. fault ≡ NoMemory) → IsRefused r text texts
no_fault_refused (Ok x) text texts none = tt
no_fault_refused (Err e) text texts none = λ some. absurd (some none)

pub is_told : {T E : Type 0} (r : Result T E) (P : E → Type 0) → IsErrAnd r P → IfErr r P
is_told (Ok x) P h = absurd h
is_told (Err e) P h = h

-- want of memory is the fault of no method
pub no_fault_by : {T : Type 0} (r : Result T LinFault) (ending : Ending) (method : Method) → IfErr r (λ fault. fault ≡ NoMemory) → IfErr r (IsFaultBy ending method)
no_fault_by (Ok x) ending method none = tt
no_fault_by (Err fault) ending method none = subst (IsFaultBy ending method) (sym none) tt

-- want of memory alone, whatever is parsed
pub no_fault_parsed : {T : Type 0} (r : Result T LinFault) (spec : PlainSpec) → IfErr r (λ fault. fault ≡ NoMemory)
    → IfErr r (λ fault. fault ≢ NoMemory → (text : List ℕ) (texts : List (List ℕ)) → IsParsedAs text spec → IsRefusedWith text texts fault)
no_fault_parsed (Ok x) spec none = tt
no_fault_parsed (Err fault) spec none = λ some. absurd (some none)

pub no_fault_by_each : {T : Type 0} (r : Result T LinFault) (ending : Ending) → IfErr r (λ fault. fault ≡ NoMemory) → IfErr r (λ fault. (method : Method) → IsFaultBy ending method fault)
no_fault_by_each (Ok x) ending none = tt
no_fault_by_each (Err fault) ending none = λ method. subst (IsFaultBy ending method) (sym none) tt

-- what holds of a fault that is given on
pub given_on : {T : Type 0} (r : Result T LinFault) (P : LinFault → Type 0) (fault : LinFault) → P fault → IsErrAnd r (λ given. given ≡ fault) → IfErr r P
given_on (Ok x) P fault holds same = absurd same
given_on (Err given) P fault holds same = subst P (sym same) holds

pub none_ok : {T E : Type 0} (r : Result T E) (P : Type 0) (Q : E → Type 0) → IsErrAnd r Q → OnOk r P
none_ok (Ok x) P Q told = absurd told
none_ok (Err e) P Q told = tt
