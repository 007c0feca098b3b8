-- What passes make of a specification: made terms, plain conditions, and linear processes that are plainly conditioned.
use Rattle.std.specs.Prelude.{◌≡◌, ℕ, Bool, true, false, ◌||◌, List, [], ◌∷◌, ◌++◌, Some, ℤ, Contains}
use Rattle.std.specs.List.{AllByRecursion, flat_map}
use Rattle.data_theory.specs.declared.ids.SortId.{SortId}
use Rattle.data_theory.specs.declared.ids.TermId.{TermId}
use Rattle.data_theory.specs.Terms.{Sort, boolean, positive, named, function, Term, variable, numeral, application, none, put}
use Rattle.data_theory.specs.Declarations.{Data, HaveSorts}
use Rattle.data_theory.specs.Environments.{term_in, bound, terms_of, IsOver}
use Rattle.data_theory.specs.Equations.{one, equals, trueᵗ, falseᵗ, !ᵗ◌, ◌∧ᵗ◌}
use Rattle.data_theory.specs.Signature.{Sig}
use Rattle.data_theory.specs.IdData.{data_meant}
use Rattle.data_theory.specs.IdTerms.{term_under, variable_sorts, IsGrown}
use Rattle.term_pool.specs.HeadTrees.{tree_at}
use Rattle.term_pool.specs.Pools.{PoolContents, Extends}
use Rattle.term_pool.specs.ConstructorValues.{ConstructorValue, IsFirstValue}
use Rattle.term_pool.specs.Constants.{tree_with, constant_of, sorts_in_need, DeclaresConstants}
use Rattle.process_terms.specs.Labels.{Action, Label}
use Rattle.process_terms.specs.Communication.{conjunction_of}
use Rattle.process_terms.specs.Processes.{Around, allow, block, hide, rename, comm, Bound, Body, written_delta, written_act, written_choice, written_seq, written_cond, written_sum, written_call, written_merge, written_starting, written_around, Table}
use Rattle.process_terms.specs.SignatureEntries.{entries_of}
use Rattle.bisim_laws.specs.LinearProcesses.{Summand, Linear, variables, sorts, AreDeclared}
use Rattle.lps_core.specs.Conditions.{parts}
use Rattle.lps_core.specs.Fitting.{IsTermOf}
use Rattle.lps_core.specs.PlainLinears.{PlainLinear, linear_of, initial_of}

-- ---- what a specification writes
-- the sorts that its sums bind, its conditions, the arguments of its actions and of its process calls, and whether it has a `comm`
pub record Written : Type 0 where
  pub sums : List Sort
  pub conditions : List Term
  pub action_arguments : List Term
  pub call_arguments : List Term
  pub communicates : Bool

abbrev pub nothing_written : Written
nothing_written = record { sums = []; conditions = []; action_arguments = []; call_arguments = []; communicates = false }

abbrev pub both_written : Written → Written → Written
both_written v w = record {
  sums = v.sums ++ w.sums;
  conditions = v.conditions ++ w.conditions;
  action_arguments = v.action_arguments ++ w.action_arguments;
  call_arguments = v.call_arguments ++ w.call_arguments;
  communicates = v.communicates || w.communicates;
}

abbrev pub is_comm : Around → Bool
is_comm (comm rules) = true
is_comm (allow sets) = false
is_comm (block names) = false
is_comm (hide names) = false
is_comm (rename renamings) = false

abbrev pub written_in : Body → Written
written_in written_delta = nothing_written
written_in (written_act m) = record { sums = []; conditions = []; action_arguments = flat_map (λ (a : Action). a.args) m; call_arguments = []; communicates = false }
written_in (written_choice p q) = both_written (written_in p) (written_in q)
written_in (written_seq p q) = both_written (written_in p) (written_in q)
written_in (written_cond c p q) = both_written (record { sums = []; conditions = c ∷ []; action_arguments = []; call_arguments = []; communicates = false }) (both_written (written_in p) (written_in q))
written_in (written_sum x p) = both_written (record { sums = x.sort ∷ []; conditions = []; action_arguments = []; call_arguments = []; communicates = false }) (written_in p)
written_in (written_call i ts) = record { sums = []; conditions = []; action_arguments = []; call_arguments = ts; communicates = false }
written_in (written_merge p q) = both_written (written_in p) (written_in q)
written_in (written_starting o p q) = both_written (written_in p) (written_in q)
written_in (written_around o p) = both_written (record { sums = []; conditions = []; action_arguments = []; call_arguments = []; communicates = is_comm o }) (written_in p)

-- by its definitions and its `init`
abbrev pub written_by : Table → Body → Written
written_by [] p = written_in p
written_by (d ∷ ds) p = both_written (written_in d.body) (written_by ds p)

-- ---- what passes add
-- a structured sort whose terms are stacks, with its functions: `push`, `empty`, the recogniser of `push` and its projections
pub record StackSort : Type 0 where
  pub sort : ℕ
  pub push : ℕ
  pub empty : ℕ
  pub is_push : ℕ
  pub number : ℕ
  pub columns : List ℕ
  pub rest : ℕ

-- `closed_term` at the first signature and pool answers t, and leaves the second ones: t is the first value of the sort, the constants
-- in it that aren't there yet are declared, and nothing is lost
pub record IsClosedTerm (g : Sig) (p : PoolContents) (s : SortId) (h : Sig) (q : PoolContents) (t : TermId) : Type 0 where
  pub value : ConstructorValue
  pub first : IsFirstValue g s value
  pub tree : tree_at q.trees t ≡ tree_with (constant_of q.constants) value
  pub declared : DeclaresConstants (sorts_in_need g p.constants value) g p.constants h q.constants
  pub stands : IsTermOf h q.trees s t
  pub grown : IsGrown g h
  pub kept : Extends p.trees q.trees

-- the term was answered when signature and pool had come so far
pub record WasAnswered (h : Sig) (q : PoolContents) (u : Term) : Type 0 where
  pub before : Sig
  pub pool_before : PoolContents
  pub after : Sig
  pub pool_after : PoolContents
  pub sort : SortId
  pub term : TermId
  pub answer : IsClosedTerm before pool_before sort after pool_after term
  pub grown : IsGrown after h
  pub kept : Extends pool_after.trees q.trees
  pub is : u ≡ term_under h (tree_at q.trees term)

-- What terms may be made of: over the declared sorts and functions, and with variables of these sorts by their numbers, what the
-- specification writes, the closed terms that were answered, and the stacks of sorts that were added.
pub record Origin : Type 1 where
  pub declared : Data
  pub variable_sorts : List Sort
  pub written : Written
  pub WasAnswered : Term → Type 0
  pub stacks : List StackSort

-- ---- made terms
-- a parameter of a sort of stacks
pub record IsStack (o : Origin) (params : List Bound) (k : StackSort) (q : Bound) : Type 0 where
  pub sort : Contains o.stacks k
  pub parameter : Contains params q
  pub is : q.sort ≡ named k.sort

-- the made terms over these variables, among them these parameters
mutual
  pub data IsMade (o : Origin) (params xs : List Bound) : Term → Type 0 where
    a_variable : {x : Bound} → Contains xs x → IsMade o params xs (variable x.var)
    the_true : IsMade o params xs trueᵗ
    the_false : IsMade o params xs falseᵗ
    a_number : {z : ℤ} → IsMade o params xs (numeral positive z)
    a_closed_term : {t : Term} → o.WasAnswered t → IsMade o params xs t
    of_an_action : {t u : Term} → Contains o.written.action_arguments t → IsInstance o params xs t u → IsMade o params xs u
    of_a_call : {t u : Term} → Contains o.written.call_arguments t → IsInstance o params xs t u → IsMade o params xs u
    no_frame : {k : StackSort} → Contains o.stacks k → IsMade o params xs (application (function k.empty) none)
    a_frame : {k : StackSort} {ts : List Term} → Contains o.stacks k → AreMade o params xs ts → IsMade o params xs (application (function k.push) (terms_of ts))
    frames_below : {k : StackSort} {q : Bound} → IsStack o params k q → IsMade o params xs (one (function k.rest) (variable q.var))
    a_column : {k : StackSort} {q : Bound} {c : ℕ} → IsStack o params k q → Contains k.columns c → IsMade o params xs (one (function c) (variable q.var))

  pub data AreMade (o : Origin) (params xs : List Bound) : List Term → Type 0 where
    none_made : AreMade o params xs []
    more_made : {t : Term} {ts : List Term} → IsMade o params xs t → AreMade o params xs ts → AreMade o params xs (t ∷ ts)

  -- the first term, with made terms of the fitting sorts in place of its variables
  pub data IsInstance (o : Origin) (params xs : List Bound) : Term → Term → Type 0 where
    an_instance : {t : Term} (ys : List Bound) (us : List Term) → IsOver (variables ys) t → AreDeclared o.variable_sorts ys → HaveSorts o.declared o.variable_sorts (terms_of us) (sorts ys) → AreMade o params xs us
        → IsInstance o params xs t (put (term_in (bound (variables ys) us)) t)

-- ---- plain conditions
-- a condition, and both sides of each `&&` among these: as `true` is left out and terms are put in, what was one part may be taken
-- apart, and what stood at the end may stand in front
pub data StandsIn (c : Term) : Term → Type 0 where
  the_whole : StandsIn c c
  on_the_left : {x y : Term} → StandsIn c (x ∧ᵗ y) → StandsIn c x
  on_the_right : {x y : Term} → StandsIn c (x ∧ᵗ y) → StandsIn c y

-- an argument of an action
pub data IsActionArgument (o : Origin) (params xs : List Bound) : Term → Type 0 where
  action_argument : {t u : Term} → Contains o.written.action_arguments t → IsInstance o params xs t u → IsActionArgument o params xs u

-- an equality of two of them
pub data IsArgumentEquality (o : Origin) (params xs : List Bound) : Term → Type 0 where
  equal_arguments : {s : Sort} {t u : Term} → IsActionArgument o params xs t → IsActionArgument o params xs u → IsArgumentEquality o params xs (equals s t u)

-- a parameter that was added
pub record IsAdded (added params : List Bound) (x : Bound) : Type 0 where
  pub by_a_pass : Contains added x
  pub parameter : Contains params x

pub data IsPlainCondition (o : Origin) (added params xs : List Bound) : Term → Type 0 where
  as_written : {c t : Term} → Contains o.written.conditions c → IsInstance o params xs c t → IsPlainCondition o added params xs t
  against_a_written_one : {c t : Term} → Contains o.written.conditions c → IsInstance o params xs c t → IsPlainCondition o added params xs (!ᵗ t)
  an_equality : {t : Term} → o.written.communicates ≡ true → IsArgumentEquality o params xs t → IsPlainCondition o added params xs t
  against_equalities : (t : Term) (ts : List Term) → o.written.communicates ≡ true → AllByRecursion (IsArgumentEquality o params xs) (t ∷ ts) → IsPlainCondition o added params xs (!ᵗ conjunction_of (t ∷ ts))
  a_flag : {x : Bound} → IsAdded added params x → x.sort ≡ boolean → IsPlainCondition o added params xs (variable x.var)
  against_a_flag : {x : Bound} → IsAdded added params x → x.sort ≡ boolean → IsPlainCondition o added params xs (!ᵗ variable x.var)
  a_control_number : {x : Bound} {z : ℤ} → IsAdded added params x → x.sort ≡ positive → IsPlainCondition o added params xs (equals positive (variable x.var) (numeral positive z))
  a_frame_on_top : {k : StackSort} {q : Bound} → IsStack o params k q → IsPlainCondition o added params xs (one (function k.is_push) (variable q.var))
  a_frame_below : {k : StackSort} {q : Bound} → IsStack o params k q → IsPlainCondition o added params xs (one (function k.is_push) (one (function k.rest) (variable q.var)))
  no_frame_below : {k : StackSort} {q : Bound} → IsStack o params k q → IsPlainCondition o added params xs (!ᵗ (one (function k.is_push) (one (function k.rest) (variable q.var))))
  a_number_on_top : {k : StackSort} {q : Bound} {z : ℤ} → IsStack o params k q → IsPlainCondition o added params xs (equals positive (one (function k.number) (variable q.var)) (numeral positive z))

-- `true`, or what stands in such a condition
pub data IsPlainPart (o : Origin) (added params xs : List Bound) : Term → Type 0 where
  true_part : IsPlainPart o added params xs trueᵗ
  plain_part : {c p : Term} → IsPlainCondition o added params xs c → StandsIn c p → IsPlainPart o added params xs p

abbrev pub HasPlainParts : Origin → List Bound → List Bound → List Bound → Term → Type 0
HasPlainParts o added params xs c = (p : Term) → Contains (parts c) p → IsPlainPart o added params xs p

-- ---- linear processes
abbrev pub AreWrittenSums : Origin → List Bound → Type 0
AreWrittenSums o xs = (x : Bound) → Contains xs x → Contains o.written.sums x.sort

abbrev pub HasActionArguments : Origin → List Bound → List Bound → Label → Type 0
HasActionArguments o params xs m = AllByRecursion (λ (a : Action). AllByRecursion (IsActionArgument o params xs) a.args) m

pub record SummandIsPlain (o : Origin) (added params : List Bound) (s : Summand) : Type 0 where
  pub sums : AreWrittenSums o s.sums
  pub condition : HasPlainParts o added params (s.sums ++ params) s.condition
  pub label : HasActionArguments o params (s.sums ++ params) s.label
  pub next : (ts : List Term) → s.next ≡ Some ts → AreMade o params (s.sums ++ params) ts

-- Its sums have sorts that a `sum` of the specification binds. Its initial terms, its next terms and the arguments of its actions are
-- made, each over the variables of its own summand. Each part of a condition is plain.
pub record IsPlainlyConditioned (o : Origin) (added : List Bound) (l : Linear) (init : List Term) : Type 0 where
  pub starts : AreMade o [] [] init
  pub summands : (s : Summand) → Contains l.summands s → SummandIsPlain o added l.params s

-- ---- in code
abbrev pub origin_of : Sig → PoolContents → Written → List StackSort → Origin
origin_of h q w stacks = record { declared = data_meant h; variable_sorts = variable_sorts h; written = w; WasAnswered = WasAnswered h q; stacks = stacks }

abbrev pub IsPlain : Sig → PoolContents → Written → List StackSort → List Bound → PlainLinear → Type 0
IsPlain h q w stacks added l = IsPlainlyConditioned (origin_of h q w stacks) added (linear_of (entries_of h q.trees) l) (initial_of (entries_of h q.trees) l)
