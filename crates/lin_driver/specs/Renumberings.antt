-- Other numbers for the declared sorts and functions: what terms, labels and processes are under them.
use Rattle.std.specs.Prelude.{◌≡◌, ◌<◌, ◌↔◌, ℕ, map, length, option_map}
use Rattle.data_theory.specs.Terms.{Sort, boolean, positive, natural, integer, list, named, Symbol, equality, inequality, conditional, comparison, arithmetic, minus, upcast, empty, cons, snoc, concatenation, size, element_at, head, rhead, tail, rtail, membership, function, Term, Terms, variable, numeral, unknown, application, none, more}
use Rattle.data_theory.specs.Declarations.{Role, constructor, projection, recogniser, mapping, DeclaredFunction, Data, function_at, sort_at}
use Rattle.sort_table.specs.Expressions.{Name, Expression}
use Rattle.sort_table.specs.NamedLists.{all_named, first_named}
use Rattle.sort_table.specs.Vocabularies.{Vocabulary}
use Rattle.data_typing.specs.Typings.{Inferred, Typing}
use Rattle.data_typing.specs.Meanings.{Bound, Scope, typing_in}
use Rattle.sort_checker.specs.FullVocabularies.{Parameters, FullVocabulary}
use Rattle.process_terms.specs.Theories.{Theory, Equal}
use Rattle.process_terms.specs.Labels.{Action, Label}
use Rattle.process_terms.specs.Processes as processes
use Rattle.process_terms.specs.Processes.{Body, written_delta, written_act, written_choice, written_seq, written_cond, written_sum, written_call, written_merge, written_starting, written_around, Definition, Table, Process, delta, act, choice, seq, sum, call, merge, starting, around}
use Rattle.process_terms.specs.Steps.{Outcome, ended, goes_on, Step}

-- New numbers for sorts and for functions, each with the way back to the old ones.
pub record Renumbering : Type 0 where
  pub sorts : ℕ → ℕ
  pub old_sorts : ℕ → ℕ
  pub functions : ℕ → ℕ
  pub old_functions : ℕ → ℕ
  pub sorts_back : (d : ℕ) → old_sorts (sorts d) ≡ d
  pub sorts_there : (d : ℕ) → sorts (old_sorts d) ≡ d
  pub functions_back : (k : ℕ) → old_functions (functions k) ≡ k
  pub functions_there : (k : ℕ) → functions (old_functions k) ≡ k

abbrev pub back : Renumbering → Renumbering
back r = record {
  sorts = r.old_sorts;
  old_sorts = r.sorts;
  functions = r.old_functions;
  old_functions = r.functions;
  sorts_back = r.sorts_there;
  sorts_there = r.sorts_back;
  functions_back = r.functions_there;
  functions_there = r.functions_back;
}

-- ---- data under the new numbers; what is built in stays
abbrev pub new_sort : Renumbering → Sort → Sort
new_sort r boolean = boolean
new_sort r positive = positive
new_sort r natural = natural
new_sort r integer = integer
new_sort r (list s) = list (new_sort r s)
new_sort r (named d) = named (r.sorts d)

abbrev pub new_symbol : Renumbering → Symbol → Symbol
new_symbol r (equality s) = equality (new_sort r s)
new_symbol r (inequality s) = inequality (new_sort r s)
new_symbol r (conditional s) = conditional (new_sort r s)
new_symbol r (comparison c s) = comparison c (new_sort r s)
new_symbol r (arithmetic op ss to) = arithmetic op (map (new_sort r) ss) (new_sort r to)
new_symbol r (minus s) = minus (new_sort r s)
new_symbol r (upcast s to) = upcast (new_sort r s) (new_sort r to)
new_symbol r (empty s) = empty (new_sort r s)
new_symbol r (cons s) = cons (new_sort r s)
new_symbol r (snoc s) = snoc (new_sort r s)
new_symbol r (concatenation s) = concatenation (new_sort r s)
new_symbol r (size s) = size (new_sort r s)
new_symbol r (element_at s) = element_at (new_sort r s)
new_symbol r (head s) = head (new_sort r s)
new_symbol r (rhead s) = rhead (new_sort r s)
new_symbol r (tail s) = tail (new_sort r s)
new_symbol r (rtail s) = rtail (new_sort r s)
new_symbol r (membership s) = membership (new_sort r s)
new_symbol r (function k) = function (r.functions k)
new_symbol r f = f

abbrev mutual
  pub new_term : Renumbering → Term → Term
  new_term r (variable v) = variable v
  new_term r (numeral s z) = numeral (new_sort r s) z
  new_term r (unknown d k) = unknown (r.sorts d) k
  new_term r (application f ts) = application (new_symbol r f) (new_terms r ts)

  pub new_terms : Renumbering → Terms → Terms
  new_terms r none = none
  new_terms r (more t ts) = more (new_term r t) (new_terms r ts)

abbrev pub new_role : Renumbering → Role → Role
new_role r constructor = constructor
new_role r (projection c i) = projection (r.functions c) i
new_role r (recogniser c) = recogniser (r.functions c)
new_role r mapping = mapping

abbrev pub new_function : Renumbering → DeclaredFunction → DeclaredFunction
new_function r f = record { arguments = map (new_sort r) f.arguments; result = new_sort r f.result; role = new_role r f.role }

-- under the new numbers the first data are the second ones
pub record TakesData (r : Renumbering) (g h : Data) : Type 0 where
  pub sorts : (d : ℕ) → sort_at h (r.sorts d) ≡ sort_at g d
  pub all_sorts : (d : ℕ) → (d < length g.sorts) ↔ (r.sorts d < length h.sorts)
  pub functions : (k : ℕ) → function_at h (r.functions k) ≡ new_function r (function_at g k)
  pub all_functions : (k : ℕ) → (k < length g.functions) ↔ (r.functions k < length h.functions)

-- ---- vocabularies
-- the sorts, functions and actions of each name are the same ones under the new numbers, each in the same order
pub record TakesVocabulary (r : Renumbering) (v w : Vocabulary) : Type 0 where
  pub tables : TakesData r v.tables w.tables
  pub sorts : (n : Name) → first_named n w.sort_names ≡ option_map (new_sort r) (first_named n v.sort_names)
  pub functions : (f : Name) → all_named f w.function_names ≡ map r.functions (all_named f v.function_names)
  pub actions : (a : Name) → all_named a w.actions ≡ map (map (new_sort r)) (all_named a v.actions)

abbrev pub new_parameters : Renumbering → Parameters → Parameters
new_parameters r ps = map (λ (p : Name × Sort). (p.0, new_sort r p.1)) ps

-- and the processes have the same names and parameters
pub record TakesFullVocabulary (r : Renumbering) (v w : FullVocabulary) : Type 0 where
  pub declared : TakesVocabulary r v.declared w.declared
  pub processes : w.processes ≡ map (λ (p : Name × Parameters). (p.0, new_parameters r p.1)) v.processes

-- ---- processes under the new numbers
abbrev pub new_action : Renumbering → Action → Action
new_action r a = record { name = a.name; sorts = map (new_sort r) a.sorts; args = map (new_term r) a.args }

abbrev pub new_label : Renumbering → Label → Label
new_label r m = map (new_action r) m

abbrev pub new_bound : Renumbering → processes.Bound → processes.Bound
new_bound r x = record { var = x.var; sort = new_sort r x.sort }

abbrev pub new_body : Renumbering → Body → Body
new_body r written_delta = written_delta
new_body r (written_act m) = written_act (new_label r m)
new_body r (written_choice p q) = written_choice (new_body r p) (new_body r q)
new_body r (written_seq p q) = written_seq (new_body r p) (new_body r q)
new_body r (written_cond c p q) = written_cond (new_term r c) (new_body r p) (new_body r q)
new_body r (written_sum x p) = written_sum (new_bound r x) (new_body r p)
new_body r (written_call x ts) = written_call x (map (new_term r) ts)
new_body r (written_merge p q) = written_merge (new_body r p) (new_body r q)
new_body r (written_starting o p q) = written_starting o (new_body r p) (new_body r q)
new_body r (written_around o p) = written_around o (new_body r p)

abbrev pub new_definition : Renumbering → Definition → Definition
new_definition r f = record { params = f.params; body = new_body r f.body }

abbrev pub new_table : Renumbering → Table → Table
new_table r d = map (new_definition r) d

-- a sum over terms under the new numbers has for each what it had for the term under the old ones
abbrev pub new_process : Renumbering → Process → Process
new_process r delta = delta
new_process r (act m) = act (new_label r m)
new_process r (choice p q) = choice (new_process r p) (new_process r q)
new_process r (seq p q) = seq (new_process r p) (new_process r q)
new_process r (processes.cond c p q) = processes.cond (new_term r c) (new_process r p) (new_process r q)
new_process r (sum s f) = sum (new_sort r s) (λ t. new_process r (f (new_term (back r) t)))
new_process r (call d x ts) = call (new_table r d) x (map (new_term r) ts)
new_process r (merge p q) = merge (new_process r p) (new_process r q)
new_process r (starting o p q) = starting o (new_process r p) (new_process r q)
new_process r (around o p) = around o (new_process r p)

abbrev pub new_outcome : Renumbering → Outcome → Outcome
new_outcome r ended = ended
new_outcome r (goes_on p) = goes_on (new_process r p)

-- under the new numbers the second theory has the data of the first one, and the terms that it proves equal
pub record TakesTheory (r : Renumbering) (th ti : Theory) : Type 0 where
  pub declared : TakesData r th.declared ti.declared
  pub equal : (t u : Term) → Equal th t u ↔ Equal ti (new_term r t) (new_term r u)

-- ---- what an expression is under the new numbers
abbrev pub new_inferred : Renumbering → Inferred → Inferred
new_inferred r i = record { term = new_term r i.term; sort = new_sort r i.sort }

abbrev pub new_scope : Renumbering → Scope → Scope
new_scope r scope = map (λ (b : Bound). record { name = b.name; number = b.number; sort = new_sort r b.sort }) scope

-- it infers and checks the same
pub record IsTypedAlike (r : Renumbering) (t u : Typing) : Type 0 where
  pub infers : u.infers ≡ option_map (new_inferred r) t.infers
  pub checks : (s : Sort) → u.checks (new_sort r s) ≡ option_map (new_term r) (t.checks s)

-- ---- laws
abbrev pub TypingsAreRenumbered : Type 0
TypingsAreRenumbered = (r : Renumbering) (v w : Vocabulary) → TakesVocabulary r v w → (scope : Scope) (e : Expression) → IsTypedAlike r (typing_in v scope e) (typing_in w (new_scope r scope) e)

-- over such theories a process has the same steps under the new numbers
abbrev pub StepsAreRenumbered : Type 0
StepsAreRenumbered =
    (r : Renumbering) (th ti : Theory) → TakesTheory r th ti → (p : Process) (m : Label) (o : Outcome) → Step th p m o ↔ Step ti (new_process r p) (new_label r m) (new_outcome r o)
