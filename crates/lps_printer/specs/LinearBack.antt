-- What is printed for a linear process elaborates to its definition and to its state.
use Rattle.std.specs.Prelude.{◌≡◌, ◌≢◌, zero, true, List, [], ◌∷◌, map, Option, Some, None}
use Rattle.std.specs.List.{Contains}
use Rattle.data_theory.specs.Terms.{Sort, Term}
use Rattle.data_theory.specs.Environments.{terms_of}
use Rattle.data_theory.specs.Declarations.{Declares, HaveSorts}
use Rattle.mcrl2_syntax.specs.ProcessTrees.{PlainProcess}
use Rattle.process_terms.specs.Labels.{Action}
use Rattle.process_terms.specs.Processes.{Bound, written_call, choice_of, close}
use Rattle.bisim_laws.specs.LinearProcesses.{Summand, Linear, variables, sorts, summand_body, linear_table, state_of, SummandIsSorted, IsSummand}
use Rattle.data_typing.specs.Meanings.{Scope, meaning}
use Rattle.sort_table.specs.NamedLists.{all_named}
use Rattle.lps_printer.specs.ReadableNames.{ReadsNames, IsWritable, AreWritable}
use Rattle.lps_printer.specs.PrintedProcesses as printed_
use Rattle.sort_table.specs.BareProcesses.{bare_process}
use Rattle.sort_checker.specs.FullVocabularies.{Parameters, FullVocabulary, process_named}
use Rattle.sort_table.specs.Vocabularies.{sort_in}
use Rattle.std.specs.List.{AllByRecursion}
use Rattle.sort_checker.specs.Scopes.{numbers_of}
use Rattle.sort_checker.specs.Elaborations.{Elaborates, ElaboratesDefinition}
use Rattle.lps_printer.specs.WrittenProcesses.{TextNames, sort_written, body_written, start_written, parameters_written, bound_named, scope_behind, plain_process}

-- R of each and each later one
abbrev pub EachTwo : {A : Type 0} → (A → A → Type 0) → List A → Type 0
EachTwo R [] = Unit {0}
EachTwo R (x ∷ xs) = AllByRecursion (R x) xs × EachTwo R xs

-- these can come into scope in this order: their sorts read back, and their numbers aren't in scope
abbrev pub CanBind : FullVocabulary → TextNames → Scope → List Bound → Type 0
CanBind v n scope [] = Unit {0}
CanBind v n scope (x ∷ xs) = (sort_in v.declared.sort_names (sort_written n x.sort) ≡ Some x.sort) × (Contains (numbers_of scope) x.var → ⊥) × CanBind v n (bound_named n x ∷ scope) xs

-- the action is declared, its arguments can be written, and what is said to be declared once is
pub record ActionReads (v : FullVocabulary) (n : TextNames) (a : Action) : Type 0 where
  pub declared : Contains (all_named a.name v.declared.actions) a.sorts
  pub once : n.once a.name ≡ true → all_named a.name v.declared.actions ≡ a.sorts ∷ []
  pub writable : AreWritable n.terms (n.once a.name) (terms_of a.args)

abbrev pub NextReads : TextNames → Option (List Term) → Type 0
NextReads n None = Unit {0}
NextReads n (Some ts) = AreWritable n.terms true (terms_of ts)

-- over these sorts of the variables, whose names read back in the summand
pub record SummandReads (v : FullVocabulary) (n : TextNames) (scope : Scope) (params : List Bound) (s : Summand) : Type 0 where
  pub sums : CanBind v n scope s.sums
  pub variable_sorts : List Sort
  pub names : ReadsNames v.declared.tables variable_sorts (numbers_of (scope_behind n scope s.sums)) n.terms (meaning v.declared (scope_behind n scope s.sums))
  pub params_sorted : AllByRecursion (λ (x : Bound). Declares variable_sorts x.var x.sort) params
  pub sorted : SummandIsSorted v.declared.tables variable_sorts params s
  pub shape : IsSummand params s
  pub condition : IsWritable n.terms s.condition
  pub label : AllByRecursion (ActionReads v n) s.label
  pub next : NextReads n s.next

abbrev pub parameters_of : TextNames → List Bound → Parameters
parameters_of n xs = map (λ (x : Bound). (n.terms.variable x.var, x.sort)) xs

pub record LinearReads (v : FullVocabulary) (n : TextNames) (l : Linear) (initial : List Term) : Type 0 where
  pub process : process_named v n.process ≡ Some (zero, parameters_of n l.params)
  pub distinct : EachTwo (λ (x y : Bound). n.terms.variable x.var ≢ n.terms.variable y.var) l.params
  pub params : CanBind v n [] l.params
  pub summands : AllByRecursion (SummandReads v n (scope_behind n [] l.params) l.params) l.summands
  pub closed_names : ReadsNames v.declared.tables [] [] n.terms (meaning v.declared [])
  pub of_sorts : HaveSorts v.declared.tables [] (terms_of initial) (sorts l.params)
  pub writable : AreWritable n.terms true (terms_of initial)

-- the printed body, and each tree of it, elaborates to the definition, and what is printed behind `init` to the state
pub record ElaboratesBack (v : FullVocabulary) (n : TextNames) (l : Linear) (initial : List Term) : Type 0 where
  pub definition : (body : PlainProcess) → printed_.bare_process body ≡ body_written n l
      → ElaboratesDefinition v (record { name = n.process; parameters = parameters_written n l.params; body = bare_process body }) (record { params = variables l.params; body = choice_of (map summand_body l.summands) })
  pub written : ElaboratesDefinition v (record { name = n.process; parameters = parameters_written n l.params; body = plain_process (body_written n l) }) (record { params = variables l.params; body = choice_of (map summand_body l.summands) })
  pub start : Elaborates v [] (start_written n initial) (written_call 0 initial)
  pub state : close (linear_table l) [] (written_call 0 initial) ≡ state_of l initial

abbrev pub LinearProcessesElaborateBack : Type 0
LinearProcessesElaborateBack = (v : FullVocabulary) (n : TextNames) (l : Linear) (initial : List Term) → LinearReads v n l initial → ElaboratesBack v n l initial
