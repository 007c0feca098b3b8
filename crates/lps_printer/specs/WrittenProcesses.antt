-- The process term that is printed for a linear process.
use Rattle.std.specs.Prelude.{ℕ, Bool, false, cond, nat_eq, List, [], ◌∷◌, map, Option, Some, None}
use Rattle.std.specs.List.{flat_map}
use Rattle.data_theory.specs.Terms.{Sort, boolean, positive, natural, integer, list, named as declared_sort, Term, variable}
use Rattle.data_theory.specs.Environments.{terms_of}
use Rattle.process_terms.specs.Labels.{Action, Label}
use Rattle.process_terms.specs.Processes.{Bound}
use Rattle.bisim_laws.specs.LinearProcesses.{Summand, Linear, is_true}
use Rattle.sort_table.specs.Expressions.{Name, Expression}
use Rattle.data_typing.specs.Meanings as scopes
use Rattle.data_typing.specs.Meanings.{Scope}
use Rattle.lps_printer.specs.PrintedExpressions.{Expressions, none, more}
use Rattle.lps_printer.specs.PlainExpressions.{plain}
use Rattle.lps_printer.specs.WrittenTerms.{Names, opens, places, written, written_all}
use Rattle.lps_printer.specs.PrintedProcesses as printed_
use Rattle.sort_table.specs.BareSorts.{SortExpression, truth_values, positives, naturals, integers, lists_of, a_name}
use Rattle.lps_printer.specs.PrintedProcesses.{Next, ends, goes_bare, goes, Variable, choice_process}
use Rattle.sort_table.specs.BareProcesses as bare
use Rattle.sort_table.specs.BareProcesses.{Variables}

-- the names of terms, of sorts and of the process, and which actions are declared once and not built in
pub record TextNames : Type 0 where
  pub terms : Names
  pub sort : ℕ → Name
  pub once : Name → Bool
  pub process : Name

abbrev pub sort_written : TextNames → Sort → SortExpression
sort_written n boolean = truth_values
sort_written n positive = positives
sort_written n natural = naturals
sort_written n integer = integers
sort_written n (list s) = lists_of (sort_written n s)
sort_written n (declared_sort d) = a_name (n.sort d)

abbrev pub variable_written : TextNames → Bound → Variable
variable_written n x = record { name = n.terms.variable x.var; sort = sort_written n x.sort }

abbrev pub action_written : TextNames → Action → printed_.Action
action_written n a = printed_.act a.name (cond (n.once a.name) (places (written_all n.terms (terms_of a.args))) (opens (written_all n.terms (terms_of a.args))))

abbrev pub first_written : TextNames → Label → printed_.Action
first_written n [] = printed_.tau_
first_written n (a ∷ m) = action_written n a

abbrev pub others_written : TextNames → Label → List printed_.Action
others_written n [] = []
others_written n (a ∷ m) = map (action_written n) m

-- the parameter itself
abbrev pub is_own : Bound → Term → Bool
is_own x (variable v) = nat_eq v x.var
is_own x _ = false

-- what stays is left out
abbrev pub assignments_written : TextNames → List Bound → List Term → List printed_.Assignment
assignments_written n (x ∷ xs) (t ∷ ts) = cond (is_own x t) (assignments_written n xs ts) (record { name = n.terms.variable x.var; value = (written n.terms t).placed } ∷ assignments_written n xs ts)
assignments_written n _ _ = []

abbrev pub call_written : TextNames → List Bound → List Term → Next
call_written n [] ts = goes_bare n.process
call_written n (x ∷ xs) ts = goes n.process (assignments_written n (x ∷ xs) ts)

abbrev pub next_written : TextNames → List Bound → Option (List Term) → Next
next_written n xs None = ends
next_written n xs (Some ts) = call_written n xs ts

abbrev pub summand_written : TextNames → List Bound → Summand → printed_.Summand
summand_written n params s = record {
  sums = map (variable_written n) s.sums;
  condition = cond (is_true s.condition) None (Some (written n.terms s.condition).opened);
  first = first_written n s.label;
  others = others_written n s.label;
  next = next_written n params s.next;
}

abbrev pub summands_written : TextNames → List Bound → List Summand → printed_.Process
summands_written n params [] = printed_.delta
summands_written n params (s ∷ ss) = choice_process (summand_written n params s) (map (summand_written n params) ss)

abbrev pub body_written : TextNames → Linear → printed_.Process
body_written n l = summands_written n l.params l.summands

-- ---- as it is elaborated
abbrev pub plain_list : Expressions → List Expression
plain_list none = []
plain_list (more e es) = plain e ∷ plain_list es

abbrev pub plain_action : printed_.Action → bare.Action
plain_action printed_.tau_ = bare.tau
plain_action (printed_.act x es) = bare.act x (plain_list es)

abbrev pub plain_assignment : printed_.Assignment → Name × Expression
plain_assignment x = (x.name, plain x.value)

abbrev pub plain_group : printed_.Variables → Variables
plain_group g = map (λ (x : Name). (x, g.sort)) g.names

abbrev mutual
  pub plain_process : printed_.Process → bare.Process
  plain_process printed_.delta = bare.delta
  plain_process (printed_.acts as_) = bare.acts (map plain_action as_)
  plain_process (printed_.call x ds) = bare.call x (map plain_assignment ds)
  plain_process (printed_.sequence ps) = bare.sequence (plain_processes ps)
  plain_process (printed_.sum gs p) = bare.sum (flat_map plain_group gs) (plain_process p)
  plain_process (printed_.when e p) = bare.when (plain e) (plain_process p)
  plain_process (printed_.choice ps) = bare.choice (plain_processes ps)
  plain_process printed_.other = bare.delta

  pub plain_processes : printed_.Processes → bare.Processes
  plain_processes printed_.none = bare.none
  plain_processes (printed_.more p ps) = bare.more (plain_process p) (plain_processes ps)

-- a process term of the forms that are printed
abbrev mutual
  pub IsPrinted : printed_.Process → Type 0
  IsPrinted (printed_.sequence ps) = ArePrinted ps
  IsPrinted (printed_.sum gs p) = IsPrinted p
  IsPrinted (printed_.when e p) = IsPrinted p
  IsPrinted (printed_.choice ps) = ArePrinted ps
  IsPrinted printed_.other = ⊥
  IsPrinted _ = Unit {0}

  pub ArePrinted : printed_.Processes → Type 0
  ArePrinted printed_.none = Unit {0}
  ArePrinted (printed_.more p ps) = IsPrinted p × ArePrinted ps

-- ---- where the process starts, and its definition
abbrev pub start_written : TextNames → List Term → bare.Process
start_written n ts = bare.acts (bare.act n.process (plain_list (places (written_all n.terms (terms_of ts)))) ∷ [])

abbrev pub parameters_written : TextNames → List Bound → Variables
parameters_written n xs = map (λ (x : Bound). (n.terms.variable x.var, sort_written n x.sort)) xs

abbrev pub bound_named : TextNames → Bound → scopes.Bound
bound_named n x = record { name = n.terms.variable x.var; number = x.var; sort = x.sort }

-- variables that came into scope in this order
abbrev pub scope_behind : TextNames → Scope → List Bound → Scope
scope_behind n scope [] = scope
scope_behind n scope (x ∷ xs) = scope_behind n (bound_named n x ∷ scope) xs
