-- Which process term, definition and equation a text's ones stand for.
use Rattle.std.specs.Prelude.{◌≡◌, ◌++◌, ℕ, Bool, true, false, List, [], ◌∷◌, map, Option, Some, None, is_some}
use Rattle.std.specs.List.{Contains, AllByRecursion, list_any}
use Rattle.data_theory.specs.Terms.{Sort, boolean, Term, variable, variables_of}
use Rattle.data_theory.specs.Declarations.{Declares}
use Rattle.data_theory.specs.Provable.{Equation, variables_of_equation}
use Rattle.process_terms.specs.Labels.{Label}
use Rattle.process_terms.specs.Processes as written
use Rattle.process_terms.specs.Processes.{Around, Bound, Body, written_delta, written_act, written_cond, written_call, written_starting, written_around, choice_of, seq_of, merge_of, sync_of, sums_around, Definition}
use Rattle.sort_table.specs.Expressions.{Name, Expression}
use Rattle.sort_table.specs.BareProcesses as bare
use Rattle.sort_table.specs.BareProcesses.{Variables, Action, tau, act, Process, Processes}
use Rattle.data_typing.specs.Meanings.{Scope, typing_in, ChecksAs}
use Rattle.sort_checker.specs.FullVocabularies.{Parameters, FullVocabulary, process_named, Written}
use Rattle.sort_checker.specs.Operators.{renaming_of, rule_of, names_of, renamed_twice, has_comm_fault}
use Rattle.sort_checker.specs.Faults.{is_action, are_renamings_typed}
use Rattle.sort_checker.specs.Scopes.{Binds}
use Rattle.sort_checker.specs.PartTypings.{label_in, arguments_in, assigned_in, are_assignments, left_side, condition_at}

-- the names of an operator are those of actions, and its renamings and rules are sound
pub record Fits (v : FullVocabulary) (o : Around) : Type 0 where
  pub actions : AllByRecursion (λ x. is_action v.declared x ≡ true) (names_of o)
  pub renamings : are_renamings_typed v.declared o ≡ true
  pub rules : has_comm_fault v.declared o ≡ false
  pub once : renamed_twice o ≡ None

-- ---- operands of `|` that are actions or calls
abbrev pub is_process : FullVocabulary → Action → Bool
is_process v tau = false
is_process v (act x es) = is_some (process_named v x)

-- one of the names is that of a process
abbrev pub names_process : FullVocabulary → List Action → Bool
names_process v as_ = list_any (is_process v) as_

-- each as a process term of its own
abbrev pub each_alone : List Action → Processes
each_alone [] = bare.none
each_alone (a ∷ as_) = bare.more (bare.acts (a ∷ [])) (each_alone as_)

-- ---- process terms
-- over the vocabulary and with these variables in scope, the process term stands for the body
mutual
  pub data Elaborates (v : FullVocabulary) : Scope → Process → Body → Type 0 where
    nothing : {scope : Scope} → Elaborates v scope bare.delta written_delta
    label : {scope : Scope} {as_ : List Action} {m : Label} → label_in v.declared scope as_ ≡ Some m → Elaborates v scope (bare.acts as_) (written_act m)
    call_in_order : {scope : Scope} {x : Name} {es : List Expression} {k : ℕ} {ps : Parameters} {ts : List Term} → process_named v x ≡ Some (k, ps)
        → arguments_in v.declared scope ps es ≡ Some ts → Elaborates v scope (bare.acts (act x es ∷ [])) (written_call k ts)
    -- two operands or more, one of which is a process
    one_by_one : {scope : Scope} {a b : Action} {as_ : List Action} {bs : List Body} → names_process v (a ∷ b ∷ as_) ≡ true → AllElaborate v scope (each_alone (a ∷ b ∷ as_)) bs
        → Elaborates v scope (bare.acts (a ∷ b ∷ as_)) (sync_of bs)
    call_by_name : {scope : Scope} {x : Name} {ds : List (Name × Expression)} {k : ℕ} {ps : Parameters} {ts : List Term} → process_named v x ≡ Some (k, ps)
        → are_assignments ps ds ≡ true → assigned_in v.declared scope ps ds ≡ Some ts → Elaborates v scope (bare.call x ds) (written_call k ts)
    only_these : {scope : Scope} {sets : List (List Name)} {p : Process} {b : Body} → Fits v (written.allow sets) → Elaborates v scope p b → Elaborates v scope (bare.allow sets p) (written_around (written.allow sets) b)
    none_of_these : {scope : Scope} {xs : List Name} {p : Process} {b : Body} → Fits v (written.block xs) → Elaborates v scope p b → Elaborates v scope (bare.block xs p) (written_around (written.block xs) b)
    unseen : {scope : Scope} {xs : List Name} {p : Process} {b : Body} → Fits v (written.hide xs) → Elaborates v scope p b → Elaborates v scope (bare.hide xs p) (written_around (written.hide xs) b)
    renamed : {scope : Scope} {rs : List (Name × Name)} {p : Process} {b : Body} → Fits v (written.rename (map renaming_of rs)) → Elaborates v scope p b
        → Elaborates v scope (bare.rename rs p) (written_around (written.rename (map renaming_of rs)) b)
    joined : {scope : Scope} {cs : List (List Name × Name)} {p : Process} {b : Body} → Fits v (written.comm (map rule_of cs)) → Elaborates v scope p b
        → Elaborates v scope (bare.comm cs p) (written_around (written.comm (map rule_of cs)) b)
    in_sequence : {scope : Scope} {ps : Processes} {bs : List Body} → AllElaborate v scope ps bs → Elaborates v scope (bare.sequence ps) (seq_of bs)
    one_of : {scope : Scope} {ps : Processes} {bs : List Body} → AllElaborate v scope ps bs → Elaborates v scope (bare.choice ps) (choice_of bs)
    at_once : {scope : Scope} {ps : Processes} {bs : List Body} → AllElaborate v scope ps bs → Elaborates v scope (bare.sync ps) (sync_of bs)
    left_first : {scope : Scope} {p q : Process} {b d : Body} → Elaborates v scope p b → Elaborates v scope q d → Elaborates v scope (bare.left_merge p q) (written_starting written.left_merge b d)
    side_by_side : {scope : Scope} {ps : Processes} {bs : List Body} → AllElaborate v scope ps bs → Elaborates v scope (bare.parallel ps) (merge_of bs)
    for_each : {scope inner : Scope} {xs : Variables} {p : Process} {bounds : List Bound} {b : Body} → Binds v.declared scope xs inner bounds → Elaborates v inner p b
        → Elaborates v scope (bare.sum xs p) (sums_around bounds b)
    where_true : {scope : Scope} {e : Expression} {c : Term} {p : Process} {b : Body} → ChecksAs v.declared scope e boolean c → Elaborates v scope p b
        → Elaborates v scope (bare.when e p) (written_cond c b written_delta)
    by_truth : {scope : Scope} {e : Expression} {c : Term} {p q : Process} {b d : Body} → ChecksAs v.declared scope e boolean c → Elaborates v scope p b
        → Elaborates v scope q d → Elaborates v scope (bare.either e p q) (written_cond c b d)

  pub data AllElaborate (v : FullVocabulary) : Scope → Processes → List Body → Type 0 where
    all_done : {scope : Scope} → AllElaborate v scope bare.none []
    one_and_more : {scope : Scope} {p : Process} {b : Body} {ps : Processes} {bs : List Body} → Elaborates v scope p b → AllElaborate v scope ps bs → AllElaborate v scope (bare.more p ps) (b ∷ bs)

-- ---- definitions
pub record ElaboratesDefinition (v : FullVocabulary) (w : Written) (d : Definition) : Type 0 where
  pub scope : Scope
  pub bounds : List Bound
  pub binds : Binds v.declared [] w.parameters scope bounds
  pub params : d.params ≡ map (λ (x : Bound). x.var) bounds
  pub body : Elaborates v scope w.body d.body

-- ---- equations
-- an equation of a text, with the variables in scope
pub record WrittenEquation : Type 0 where
  pub variables : Variables
  pub condition : Option Expression
  pub left : Expression
  pub right : Expression

-- Each variable in scope has a number. One that occurs has its sort in the equation. The left side is no variable, and has all
-- variables of the condition and of the right side.
pub record ElaboratesEquation (v : FullVocabulary) (e : WrittenEquation) (q : Equation) : Type 0 where
  pub scope : Scope
  pub bounds : List Bound
  pub binds : Binds v.declared [] e.variables scope bounds
  pub sorts : AllByRecursion (λ (x : Bound). Contains (variables_of_equation q) x.var → Declares q.sorts x.var x.sort) bounds
  pub sort : Sort
  pub left : left_side (typing_in v.declared scope e.left) (typing_in v.declared scope e.right) ≡ Some (record { term = q.left; sort = sort })
  pub right : ChecksAs v.declared scope e.right sort q.right
  pub condition : condition_at v.declared scope e.condition ≡ Some q.condition
  pub no_variable : (n : ℕ) → ¬ (q.left ≡ variable n)
  pub no_other : (n : ℕ) → Contains (variables_of q.condition ++ variables_of q.right) n → Contains (variables_of q.left) n
