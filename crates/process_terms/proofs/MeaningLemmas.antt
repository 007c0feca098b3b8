-- What code means stays as its tables grow.
use Rattle.std.proofs.Common.{◌≡◌, ◌<◌, ◌≤◌, ℕ, List, [], ◌∷◌, map, length, take, get_or, refl, sym, ap, ap₂, ◌∙◌, subst, arith, length-append}
use Rattle.std.specs.List.{All}
use Rattle.std.proofs.Math.Nat.{max-le}
use Rattle.std.proofs.lemmas.List.{get_or_append_left, take-append-le}
use Rattle.std.proofs.lemmas.List.Elements.{All-nil, All-cons, All-head, All-tail}
use Rattle.data_theory.specs.Terms.{boolean}
use Rattle.data_theory.specs.Environments.{IsOver}
use Rattle.data_theory.specs.Equations.{trueᵗ}
use Rattle.data_theory.specs.Complete.{BeginsWith}
use Rattle.data_theory.specs.declared.ids.VarId.{VarId}
use Rattle.process_terms.specs.Processes as written
use Rattle.process_terms.specs.Processes.{Bound, Body, written_act, written_cond, written_call, written_starting, written_around, choice_of, seq_of, merge_of, sync_of, sums_around, close}
use Rattle.process_terms.specs.PlainProcesses.{allow, block, hide, rename, comm, PlainProcesses, delta, act, call, choice, seq, cond, sum, merge, left_merge, sync, around, no_processes, more_processes, call_of, term_of}
use Rattle.process_terms.specs.Meanings.{ActionEntry, Entries, Grows, name_at, bound_at, term_at, action_of, rule_of, renaming_of, around_of, body_of, bodies_of, definition_of, above, equation_of, HasName, HasTerm, HasVariable, HasAction, HasRule, HasRenaming, HasAround, HasProcesses, HasDefinition, HasEquation}
use Rattle.process_terms.specs.MeaningLaws.{LabelsAreSettled, ProcessesAreSettled, DefinitionsAreSettled, ModelsAreSettled, ComponentsAreSettled}

-- g gives what f gives where P holds, and then Q holds
abbrev Stays : {A B : Type 0} → (A → Type 0) → (A → Type 0) → (A → B) → (A → B) → Type 0
Stays {A} P Q f g = (x : A) → P x → (g x ≡ f x) × Q x

all_stay : {A B : Type 0} (P Q : A → Type 0) (f g : A → B) → Stays P Q f g → (xs : List A) → All P xs → (map g xs ≡ map f xs) × All Q xs
all_stay P Q f g h [] a = (refl, All-nil Q)
all_stay P Q f g h (x ∷ xs) a =
    let first = h x (All-head P x xs a) in
    let rest = all_stay P Q f g h xs (All-tail P x xs a) in
    (ap₂ (λ y ys. y ∷ ys) first.0 rest.0, All-cons Q x xs first.1 rest.1)

pub all_same : {A B : Type 0} (P : A → Type 0) (f g : A → B) → ((x : A) → P x → g x ≡ f x) → (xs : List A) → All P xs → map g xs ≡ map f xs
all_same P f g h xs a = (all_stay P P f g (λ x p. (h x p, p)) xs a).0

pub entry_stays : {A : Type 0} (xs ys : List A) (d : A) (k : ℕ) → BeginsWith xs ys → k < length xs → (get_or ys k d ≡ get_or xs k d) × (k < length ys)
entry_stays xs ys d k e h =
    let longer = ap length e.1 in
    let sum = length-append xs e.0 in
    (ap (λ zs. get_or zs k d) e.1 ∙ get_or_append_left xs e.0 d k h, omega (arith, longer, sum, h))

-- ---- numbers
name_stays : (old new : Entries) → Grows old new → Stays (HasName old) (HasName new) (name_at old) (name_at new)
name_stays old new grows n h = entry_stays old.texts new.texts [] n.0 grows.texts h

term_stays : (old new : Entries) → Grows old new → Stays (HasTerm old) (HasTerm new) (term_at old) (term_at new)
term_stays old new grows t h = entry_stays old.terms new.terms trueᵗ t.0 grows.terms h

variable_stays : (old new : Entries) → Grows old new → Stays (HasVariable old) (HasVariable new) (bound_at old) (bound_at new)
variable_stays old new grows x h =
    let same = entry_stays old.variables new.variables boolean x.0 grows.variables h in
    (ap (λ s. record { var = x.0; sort = s }) same.0, same.1)

-- ---- labels and operators
action_stays : (old new : Entries) → Grows old new → Stays (HasAction old) (HasAction new) (action_of old) (action_of new)
action_stays old new grows a h =
    let same = entry_stays old.actions new.actions (record { name = []; sorts = [] }) a.act.0 grows.actions h.0 in
    let args = all_stay (HasTerm old) (HasTerm new) (term_at old) (term_at new) (term_stays old new grows) a.args h.1 in
    (ap₂ (λ (entry : ActionEntry) ts. record { name = entry.name; sorts = entry.sorts; args = ts }) same.0 args.0, (same.1, args.1))

pub labels_are_settled : LabelsAreSettled
labels_are_settled old new grows m h = all_stay (HasAction old) (HasAction new) (action_of old) (action_of new) (action_stays old new grows) m h

rule_stays : (old new : Entries) → Grows old new → Stays (HasRule old) (HasRule new) (rule_of old) (rule_of new)
rule_stays old new grows c h =
    let left = all_stay (HasName old) (HasName new) (name_at old) (name_at new) (name_stays old new grows) c.left h.0 in
    let result = name_stays old new grows c.result h.1 in
    (ap₂ (λ xs x. record { left = xs; result = x }) left.0 result.0, (left.1, result.1))

renaming_stays : (old new : Entries) → Grows old new → Stays (HasRenaming old) (HasRenaming new) (renaming_of old) (renaming_of new)
renaming_stays old new grows r h =
    let from = name_stays old new grows r.0 h.0 in
    let to = name_stays old new grows r.1 h.1 in
    (ap₂ (λ x y. record { from = x; to = y }) from.0 to.0, (from.1, to.1))

names_stay : (old new : Entries) → Grows old new → Stays (All (HasName old)) (All (HasName new)) (map (name_at old)) (map (name_at new))
names_stay old new grows names h = all_stay (HasName old) (HasName new) (name_at old) (name_at new) (name_stays old new grows) names h

around_stays : (old new : Entries) → Grows old new → Stays (HasAround old) (HasAround new) (around_of old) (around_of new)
around_stays old new grows (allow sets) h =
    let same = all_stay (All (HasName old)) (All (HasName new)) (map (name_at old)) (map (name_at new)) (names_stay old new grows) sets h in
    (ap written.allow same.0, same.1)
around_stays old new grows (block names) h = let same = names_stay old new grows names h in (ap written.block same.0, same.1)
around_stays old new grows (hide names) h = let same = names_stay old new grows names h in (ap written.hide same.0, same.1)
around_stays old new grows (rename renamings) h =
    let same = all_stay (HasRenaming old) (HasRenaming new) (renaming_of old) (renaming_of new) (renaming_stays old new grows) renamings h in
    (ap written.rename same.0, same.1)
around_stays old new grows (comm rules) h =
    let same = all_stay (HasRule old) (HasRule new) (rule_of old) (rule_of new) (rule_stays old new grows) rules h in
    (ap written.comm same.0, same.1)

-- ---- process terms
terms_stay : (old new : Entries) → Grows old new → Stays (All (HasTerm old)) (All (HasTerm new)) (map (term_at old)) (map (term_at new))
terms_stay old new grows ts h = all_stay (HasTerm old) (HasTerm new) (term_at old) (term_at new) (term_stays old new grows) ts h

variables_stay : (old new : Entries) → Grows old new → Stays (All (HasVariable old)) (All (HasVariable new)) (map (bound_at old)) (map (bound_at new))
variables_stay old new grows xs h = all_stay (HasVariable old) (HasVariable new) (bound_at old) (bound_at new) (variable_stays old new grows) xs h

mutual
  pub processes_are_settled : ProcessesAreSettled
  processes_are_settled old new grows delta h = (refl, tt)
  processes_are_settled old new grows (act m) h = let same = labels_are_settled old new grows m h in (ap written_act same.0, same.1)
  processes_are_settled old new grows (call x ts) h = let same = terms_stay old new grows ts h in (ap (written_call x.0) same.0, same.1)
  processes_are_settled old new grows (choice ps) h = let same = all_settled old new grows ps h in (ap choice_of same.0, same.1)
  processes_are_settled old new grows (seq ps) h = let same = all_settled old new grows ps h in (ap seq_of same.0, same.1)
  processes_are_settled old new grows (cond c p q) h =
      let condition = term_stays old new grows c h.0 in
      let then = processes_are_settled old new grows p h.1 in
      let other = processes_are_settled old new grows q h.2 in
      (ap₂ (λ x y. written_cond x y (body_of new q)) condition.0 then.0 ∙ ap (written_cond (term_at old c) (body_of old p)) other.0, (condition.1, then.1, other.1))
  processes_are_settled old new grows (sum xs p) h =
      let variables = variables_stay old new grows xs h.0 in
      let inner = processes_are_settled old new grows p h.1 in
      (ap₂ sums_around variables.0 inner.0, (variables.1, inner.1))
  processes_are_settled old new grows (merge ps) h = let same = all_settled old new grows ps h in (ap merge_of same.0, same.1)
  processes_are_settled old new grows (left_merge p q) h =
      let first = processes_are_settled old new grows p h.0 in
      let second = processes_are_settled old new grows q h.1 in
      (ap₂ (written_starting written.left_merge) first.0 second.0, (first.1, second.1))
  processes_are_settled old new grows (sync ps) h = let same = all_settled old new grows ps h in (ap sync_of same.0, same.1)
  processes_are_settled old new grows (around o p) h =
      let operator = around_stays old new grows o h.0 in
      let inner = processes_are_settled old new grows p h.1 in
      (ap₂ written_around operator.0 inner.0, (operator.1, inner.1))

  all_settled : (old new : Entries) → Grows old new → (ps : PlainProcesses) → HasProcesses old ps → (bodies_of new ps ≡ bodies_of old ps) × HasProcesses new ps
  all_settled old new grows no_processes h = (refl, tt)
  all_settled old new grows (more_processes p ps) h =
      let first = processes_are_settled old new grows p h.0 in
      let rest = all_settled old new grows ps h.1 in
      (ap₂ (λ x xs. x ∷ xs) first.0 rest.0, (first.1, rest.1))

definition_stays : (old new : Entries) → Grows old new → Stays (HasDefinition old) (HasDefinition new) (definition_of old) (definition_of new)
definition_stays old new grows d h =
    let params = variables_stay old new grows d.params h.0 in
    let body = processes_are_settled old new grows d.body h.1 in
    (ap (λ b. record { params = map (λ (x : VarId). x.0) d.params; body = b }) body.0, (params.1, body.1))

pub definitions_are_settled : DefinitionsAreSettled
definitions_are_settled old new grows ds h = all_stay (HasDefinition old) (HasDefinition new) (definition_of old) (definition_of new) (definition_stays old new grows) ds h

above_within : (g : Entries) (xs : List VarId) → All (HasVariable g) xs → above xs ≤ length g.variables
above_within g [] h = omega arith
above_within g (x ∷ xs) h =
    let first = All-head (HasVariable g) x xs h in
    max-le (omega (arith, first)) (above_within g xs (All-tail (HasVariable g) x xs h))

sorts_stay : (old new : Entries) → Grows old new → (xs : List VarId) → All (HasVariable old) xs → take (above xs) new.variables ≡ take (above xs) old.variables
sorts_stay old new grows xs h =
    ap (take (above xs)) grows.variables.1 ∙ take-append-le (above xs) old.variables grows.variables.0 (above_within old xs h)

equation_stays : (old new : Entries) → Grows old new → Stays (HasEquation old) (HasEquation new) (equation_of old) (equation_of new)
equation_stays old new grows q h =
    let sorts = sorts_stay old new grows q.variables h.0 in
    let variables = variables_stay old new grows q.variables h.0 in
    let condition = term_stays old new grows q.condition h.1 in
    let left = term_stays old new grows q.left h.2 in
    let right = term_stays old new grows q.right h.3 in
    let own : List ℕ = map (λ (x : VarId). x.0) q.variables in (
      ap₂ (λ ss c. record { sorts = ss; condition = c; left = term_at new q.left; right = term_at new q.right }) sorts condition.0
          ∙ ap₂ (λ x y. record { sorts = take (above q.variables) old.variables; condition = term_at old q.condition; left = x; right = y }) left.0 right.0,
      (
        variables.1,
        condition.1,
        left.1,
        right.1,
        subst (IsOver own) (sym condition.0) h.4,
        subst (IsOver own) (sym left.0) h.5,
        subst (IsOver own) (sym right.0) h.6,
      ),
    )

pub models_are_settled : ModelsAreSettled
models_are_settled old new grows m h =
    let equations = all_stay (HasEquation old) (HasEquation new) (equation_of old) (equation_of new) (equation_stays old new grows) m.equations h.0 in
    let definitions = definitions_are_settled old new grows m.definitions h.1 in
    let init = processes_are_settled old new grows m.init h.2 in (
      λ d. ap (λ qs. record { declared = d; equations = qs }) equations.0,
      ap₂ (λ t p. close t [] p) definitions.0 init.0,
      (equations.1, definitions.1, init.1),
    )

pub components_are_settled : ComponentsAreSettled
components_are_settled old new grows (call_of x ts) h = let same = terms_stay old new grows ts h in (ap (written_call x.0) same.0, same.1)
components_are_settled old new grows (term_of p) h = processes_are_settled old new grows p h
