-- What is printed for a linear process elaborates to it.
use Rattle.std.proofs.Common.{◌≡◌, ◌<◌, ℕ, zero, suc, Bool, true, false, cond, ◌&&◌, List, [], ◌∷◌, ◌++◌, inl, inr, ⊎_elim, if◌then◌else◌, map, length, refl, sym, ap, ap₂, ◌∙◌, subst, arith}
use Rattle.std.specs.Prelude.{Option, Some, None, option_map, option_and_then, Contains, slice_index_or}
use Rattle.std.specs.List.{flat_map}
use Rattle.std.specs.Option.{option_or}
use Rattle.std.proofs.lemmas.List.Elements.{Contains-append_cases}
use Rattle.mcrl2_syntax.specs.ProcessTrees.{PlainProcess}
use Rattle.data_theory.specs.Terms.{Sort, boolean, list, empty, Term, Terms, variable, unknown, application, put}
use Rattle.data_theory.specs.Terms as terms
use Rattle.data_theory.specs.Declarations.{Data, Declares, HasSort, HaveSorts}
use Rattle.data_theory.specs.Environments.{term_in, terms_of, IsOver, AreOver}
use Rattle.data_theory.specs.Environments as lists
use Rattle.data_theory.proofs.EnvironmentLemmas.{lists_of_terms, contains_first, contains_later, closed_terms_stay}
use Rattle.process_terms.specs.Labels.{Action, Label}
use Rattle.process_terms.specs.Processes as processes
use Rattle.process_terms.specs.Processes.{Body, written_delta, written_act, written_cond, written_call, written_seq, choice_of, sums_around, call}
use Rattle.bisim_laws.specs.LinearProcesses.{Summand, Linear, variables, sorts, is_true, label_and_next, summand_body, linear_table, LabelIsOver, no_action_left, action_over, NextIsOver, no_next, next_over, LabelIsSorted, action_sorted, NextIsSorted, next_sorted}
use Rattle.sort_table.specs.Expressions as typed
use Rattle.sort_table.specs.Expressions.{Name, Expression}
use Rattle.data_typing.specs.Typings.{sorts_eq, Typing, bound, Meaning, first_of, exactly, checked, all_at, typings}
use Rattle.data_typing.specs.Meanings.{Scope, meaning, typing_in}
use Rattle.sort_table.specs.NamedLists.{all_named}
use Rattle.data_typing.proofs.SortTests.{sort_told_itself}
use Rattle.lps_printer.specs.PrintedExpressions.{Expressions, none, more}
use Rattle.lps_printer.specs.PlainExpressions.{plain, plain_all}
use Rattle.lps_printer.specs.ReadableNames.{ReadsNames, is_nil, IsWritable, AreWritable}
use Rattle.lps_printer.specs.WrittenTerms.{opens, places, written, written_all}
use Rattle.lps_printer.specs.PrintedProcesses as printed_
use Rattle.lps_printer.specs.PrintedProcesses.{one_variable, with_next, with_condition, with_sums, summand_process, all_summands, choice_process}
use Rattle.lps_printer.proofs.Exact.{AllInfer, all_exact, all_sorts_told, others_not}
use Rattle.lps_printer.proofs.ReadBack.{AllBack, back, backs, open_all, place_all, place_exact}
use Rattle.sort_table.specs.BareProcesses as bare
use Rattle.sort_table.specs.BareProcesses.{bare_process}
use Rattle.sort_checker.specs.FullVocabularies.{FullVocabulary, process_named}
use Rattle.std.specs.List.{AllByRecursion}
use Rattle.sort_checker.specs.PartTypings.{action_at, action_of, label_in, assigned_or, assigned_in}
use Rattle.sort_checker.specs.Scopes.{numbers_of, Binds, binds_none, binds_more}
use Rattle.sort_checker.specs.Elaborations.{Elaborates, nothing, label, call_in_order, call_by_name, in_sequence, one_of, for_each, where_true, AllElaborate, all_done, one_and_more}
use Rattle.lps_printer.specs.WrittenProcesses.{plain_list, TextNames, variable_written, action_written, first_written, others_written, is_own, call_written, next_written, summand_written, summands_written, body_written, plain_action, plain_group, plain_process, plain_processes, IsPrinted, start_written, parameters_written, bound_named, scope_behind}
use Rattle.lps_printer.specs.LinearBack.{CanBind, ActionReads, NextReads, SummandReads, parameters_of, LinearReads, LinearProcessesElaborateBack}
use Rattle.lps_printer.proofs.PrintedTrees.{tree_is, choice_printed}
use Rattle.lps_printer.proofs.Lookups.{AreApart, assigned, LooksUp, looks_up, are_assigned, own_is, left_is, in_scope, over_more, all_over_more}

-- ---- actions
pub sorts_themselves : (ss : List Sort) → sorts_eq ss ss ≡ true
sorts_themselves [] = refl
sorts_themselves (s ∷ ss) = ap (λ (b : Bool). b && sorts_eq ss ss) (sort_told_itself s) ∙ sorts_themselves ss

abbrev made : Name → List Sort → Terms → Action
made x ss us = record { name = x; sorts = ss; args = lists.list_of us }

found_at : (x : Name) {m : Name → Meaning} {es : typed.Expressions} {ts : Terms} {ss : List Sort} → AllInfer m es ts ss → (r : List Sort) (o : Option Action) (b : Bool) → sorts_eq ss r ≡ b → (b ≡ false → o ≡ Some (made x ss ts))
    → option_or (action_at x exactly (typings m es) r) o ≡ Some (made x ss ts)
found_at x {m = m} {es = es} {ts = ts} {ss = ss} is r o true e h =
    let same : ss ≡ r = all_sorts_told ss r e in
    subst (λ (q : List Sort). option_or (action_at x exactly (typings m es) q) o ≡ Some (made x ss ts)) same (ap (λ (u : Option Terms). option_or (option_map (made x ss) u) o) (all_exact is))
found_at x is r o false e h = ap (λ (u : Option Terms). option_or (option_map (made x r) u) o) (others_not r is e) ∙ h refl

-- with arguments that infer the sorts of a declaration
found_exact : (x : Name) {m : Name → Meaning} {es : typed.Expressions} {ts : Terms} {ss : List Sort} → AllInfer m es ts ss → (rs : List (List Sort)) (k : ℕ) → k < length rs → slice_index_or rs k ss ≡ ss
    → first_of (action_at x exactly (typings m es)) rs ≡ Some (made x ss ts)
found_exact x is [] k l e = absurd (omega arith)
found_exact x {ss = ss} is (r ∷ rs) zero l e = found_at x is r _ true (ap (λ (q : List Sort). sorts_eq ss q) e ∙ sorts_themselves ss) (λ c. absurd cc)
found_exact x {ss = ss} is (r ∷ rs) (suc k) l e = found_at x is r _ (sorts_eq ss r) refl (λ c. found_exact x is rs k (omega arith) e)

either_way : (x : Name) (ss : List Sort) (a b : Option Terms) (ts : Terms) → ((us : Terms) → a ≡ Some us → us ≡ ts) → b ≡ Some ts → option_or (option_or (option_map (made x ss) a) None) (option_or (option_map (made x ss) b) None) ≡ Some (made x ss ts)
either_way x ss None b ts h e = ap (λ (o : Option Terms). option_or (option_map (made x ss) o) None) e
either_way x ss (Some us) b ts h e = ap (λ (vs : Terms). Some (made x ss vs)) (h us refl)

args_back : (v : FullVocabulary) (n : TextNames) (scope : Scope) (a : Action) (o : Bool) → n.once a.name ≡ o → ActionReads v n a → AllBack (meaning v.declared scope) o (written_all n.terms (terms_of a.args)) (terms_of a.args) a.sorts
    → action_of a.name (typings (meaning v.declared scope) (plain_all (cond o (places (written_all n.terms (terms_of a.args))) (opens (written_all n.terms (terms_of a.args)))))) (all_named a.name v.declared.actions) ≡ Some (made a.name a.sorts (terms_of a.args))
args_back v n scope a true e h is =
    let ts : List Typing = typings (meaning v.declared scope) (plain_all (places (written_all n.terms (terms_of a.args)))) in
    ap (action_of a.name ts) (h.once e) ∙ either_way a.name a.sorts (all_at exactly a.sorts ts) (all_at checked a.sorts ts) (terms_of a.args) (place_exact is) (place_all is)
args_back v n scope a false e h is =
    let ts : List Typing = typings (meaning v.declared scope) (plain_all (opens (written_all n.terms (terms_of a.args)))) in
    let d = h.declared in
    ap (λ (o : Option Action). option_or o (first_of (action_at a.name checked ts) (all_named a.name v.declared.actions))) (found_exact a.name (open_all is) (all_named a.name v.declared.actions) d.0 d.1 d.2)

record Here (v : FullVocabulary) (n : TextNames) (scope : Scope) : Type 0 where
  vs : List Sort
  xs : List ℕ
  reads : ReadsNames v.declared.tables vs xs n.terms (meaning v.declared scope)

action_back : (v : FullVocabulary) (n : TextNames) (scope : Scope) (k : Here v n scope) (a : Action) → ActionReads v n a → HaveSorts v.declared.tables k.vs (terms_of a.args) a.sorts → AreOver k.xs (terms_of a.args)
    → action_of a.name (typings (meaning v.declared scope) (plain_all (cond (n.once a.name) (places (written_all n.terms (terms_of a.args))) (opens (written_all n.terms (terms_of a.args)))))) (all_named a.name v.declared.actions) ≡ Some a
action_back v n scope k a h s o =
    args_back v n scope a (n.once a.name) refl h (backs k.reads (terms_of a.args) a.sorts (n.once a.name) s h.writable o) ∙ ap (λ (ts : List Term). Some (record { name = a.name; sorts = a.sorts; args = ts })) (lists_of_terms a.args)

-- arguments one by one
listed_typings : (v : FullVocabulary) (scope : Scope) (es : Expressions) → map (typing_in v.declared scope) (plain_list es) ≡ typings (meaning v.declared scope) (plain_all es)
listed_typings v scope none = refl
listed_typings v scope (more e es) = ap (λ (ts : List Typing). typing_in v.declared scope (plain e) ∷ ts) (listed_typings v scope es)

listed_action : (v : FullVocabulary) (n : TextNames) (scope : Scope) (k : Here v n scope) (a : Action) → ActionReads v n a → HaveSorts v.declared.tables k.vs (terms_of a.args) a.sorts → AreOver k.xs (terms_of a.args)
    → action_of a.name (map (typing_in v.declared scope) (plain_list (cond (n.once a.name) (places (written_all n.terms (terms_of a.args))) (opens (written_all n.terms (terms_of a.args)))))) (all_named a.name v.declared.actions) ≡ Some a
listed_action v n scope k a h s o =
    ap (λ (ts : List Typing). action_of a.name ts (all_named a.name v.declared.actions)) (listed_typings v scope (cond (n.once a.name) (places (written_all n.terms (terms_of a.args))) (opens (written_all n.terms (terms_of a.args)))))
    ∙ action_back v n scope k a h s o

cons_action : {o : Option Action} {p : Option Label} {a : Action} {m : Label} → o ≡ Some a → p ≡ Some m → option_and_then (λ (b : Action). option_map (λ (l : Label). b ∷ l) p) o ≡ Some (a ∷ m)
cons_action e f = ap₂ (λ (o : Option Action) (p : Option Label). option_and_then (λ (b : Action). option_map (λ (l : Label). b ∷ l) p) o) e f

actions_back : (v : FullVocabulary) (n : TextNames) (scope : Scope) (k : Here v n scope) (m : Label) → AllByRecursion (ActionReads v n) m → LabelIsSorted v.declared.tables k.vs m → LabelIsOver k.xs m
    → label_in v.declared scope (map plain_action (map (action_written n) m)) ≡ Some m
actions_back v n scope k [] h s o = refl
actions_back v n scope k (a ∷ m) h (action_sorted s ss) (action_over o os) = cons_action (listed_action v n scope k a h.0 s o) (actions_back v n scope k m h.1 ss os)

label_back : (v : FullVocabulary) (n : TextNames) (scope : Scope) (k : Here v n scope) (m : Label) → AllByRecursion (ActionReads v n) m → LabelIsSorted v.declared.tables k.vs m → LabelIsOver k.xs m
    → label_in v.declared scope (map plain_action (first_written n m ∷ others_written n m)) ≡ Some m
label_back v n scope k [] h s o = refl
label_back v n scope k (a ∷ m) h s o = actions_back v n scope k (a ∷ m) h s o

-- ---- calls
cons_term : {o : Option Term} {p : Option (List Term)} {t : Term} {ts : List Term} → o ≡ Some t → p ≡ Some ts → option_and_then (λ (u : Term). option_map (λ (us : List Term). u ∷ us) p) o ≡ Some (t ∷ ts)
cons_term e f = ap₂ (λ (o : Option Term) (p : Option (List Term)). option_and_then (λ (u : Term). option_map (λ (us : List Term). u ∷ us) p) o) e f

one_back : (v : FullVocabulary) (n : TextNames) (scope : Scope) (k : Here v n scope) (x : processes.Bound) (t : Term) (o : Bool) → is_own x t ≡ o → meaning v.declared scope (n.terms.variable x.var) ≡ bound x.var x.sort
    → HasSort v.declared.tables k.vs t x.sort → IsWritable n.terms t → IsOver k.xs t → assigned_or v.declared scope (n.terms.variable x.var, x.sort) (cond o None (Some (plain (written n.terms t).placed))) ≡ Some t
one_back v n scope k x t true e m s w q = left_is v scope (n.terms.variable x.var) x.var x.sort m ∙ ap (λ (u : Term). Some u) (own_is x t e)
one_back v n scope k x t false e m s w q = (back k.reads t x.sort s w q).placed

abbrev Mean : FullVocabulary → TextNames → Scope → List processes.Bound → Type 0
Mean v n scope xs = AllByRecursion (λ (x : processes.Bound). meaning v.declared scope (n.terms.variable x.var) ≡ bound x.var x.sort) xs

all_back : (v : FullVocabulary) (n : TextNames) (scope : Scope) (k : Here v n scope) (ds : List (Name × Expression)) (xs : List processes.Bound) (ts : List Term) → LooksUp n ds xs ts → Mean v n scope xs
    → HaveSorts v.declared.tables k.vs (terms_of ts) (sorts xs) → AreWritable n.terms true (terms_of ts) → AreOver k.xs (terms_of ts) → assigned_in v.declared scope (parameters_of n xs) ds ≡ Some ts
all_back v n scope k ds [] [] l m s w q = refl
all_back v n scope k ds [] (t ∷ ts) l m s w q = absurd s
all_back v n scope k ds (x ∷ xs) [] l m s w q = absurd s
all_back v n scope k ds (x ∷ xs) (t ∷ ts) l m s w q =
    cons_term (ap (assigned_or v.declared scope (n.terms.variable x.var, x.sort)) l.0 ∙ one_back v n scope k x t (is_own x t) refl m.0 s.0 w.0 q.0) (all_back v n scope k ds xs ts l.1 m.1 s.1 w.2 q.1)

call_back : (v : FullVocabulary) (n : TextNames) (scope : Scope) (k : Here v n scope) (params : List processes.Bound) (ts : List Term) (as_ : List printed_.Action) (m : Label) → process_named v n.process ≡ Some (zero, parameters_of n params) → AreApart n params
    → Mean v n scope params → HaveSorts v.declared.tables k.vs (terms_of ts) (sorts params) → AreWritable n.terms true (terms_of ts) → AreOver k.xs (terms_of ts) → label_in v.declared scope (map plain_action as_) ≡ Some m
    → Elaborates v scope (plain_process (with_next (printed_.acts as_) (call_written n params ts))) (written_seq (written_act m) (written_call 0 ts))
call_back v n scope k [] [] as_ m e d h s w q l = in_sequence (one_and_more (label l) (one_and_more (call_in_order e refl) all_done))
call_back v n scope k [] (t ∷ ts) as_ m e d h s w q l = absurd s
call_back v n scope k (x ∷ xs) ts as_ m e d h s w q l =
    in_sequence (one_and_more (label l) (one_and_more (call_by_name e (are_assigned n (x ∷ xs) ts d) (all_back v n scope k (assigned n (x ∷ xs) ts) (x ∷ xs) ts (looks_up n (x ∷ xs) ts d) h s w q)) all_done))

next_back : (v : FullVocabulary) (n : TextNames) (scope : Scope) (k : Here v n scope) (params : List processes.Bound) (o : Option (List Term)) (as_ : List printed_.Action) (m : Label) → process_named v n.process ≡ Some (zero, parameters_of n params) → AreApart n params
    → Mean v n scope params → NextIsSorted v.declared.tables k.vs (sorts params) o → NextReads n o → NextIsOver k.xs params o → label_in v.declared scope (map plain_action as_) ≡ Some m
    → Elaborates v scope (plain_process (with_next (printed_.acts as_) (next_written n params o))) (label_and_next m o)
next_back v n scope k params None as_ m e d h s w q l = label l
next_back v n scope k params (Some ts) as_ m e d h (next_sorted s) w (next_over q z) l = call_back v n scope k params ts as_ m e d h s w q l

-- ---- conditions and sums
not_nil : (g : Data) (vs : List Sort) (t : Term) → HasSort g vs t boolean → is_nil t ≡ false
not_nil g vs (variable v) h = refl
not_nil g vs (terms.numeral s z) h = refl
not_nil g vs (unknown d k) h = refl
not_nil g vs (application (empty s) ts) h = let e : list s ≡ boolean = h.2 in absurd cc
not_nil g vs (application f ts) h = refl

condition_back : (v : FullVocabulary) (n : TextNames) (scope : Scope) (k : Here v n scope) (c : Term) (o : Bool) → HasSort v.declared.tables k.vs c boolean → IsWritable n.terms c → IsOver k.xs c → (p : printed_.Process) (b : Body) → Elaborates v scope (plain_process p) b
    → Elaborates v scope (plain_process (with_condition (cond o None (Some (written n.terms c).opened)) p)) (if o then b else written_cond c b written_delta)
condition_back v n scope k c true s w q p b d = d
condition_back v n scope k c false s w q p b d = where_true ((back k.reads c boolean s w q).opened (not_nil v.declared.tables k.vs c s)).checks d

bound_back : (v : FullVocabulary) (n : TextNames) (scope : Scope) (xs : List processes.Bound) → CanBind v n scope xs → Binds v.declared scope (flat_map plain_group (map one_variable (map (variable_written n) xs))) (scope_behind n scope xs) xs
bound_back v n scope [] h = binds_none
bound_back v n scope (x ∷ xs) h = binds_more h.0 h.1 (bound_back v n (bound_named n x ∷ scope) xs h.2)

pub parameters_back : (v : FullVocabulary) (n : TextNames) (scope : Scope) (xs : List processes.Bound) → CanBind v n scope xs → Binds v.declared scope (parameters_written n xs) (scope_behind n scope xs) xs
parameters_back v n scope [] h = binds_none
parameters_back v n scope (x ∷ xs) h = binds_more h.0 h.1 (parameters_back v n (bound_named n x ∷ scope) xs h.2)

sums_back : (v : FullVocabulary) (n : TextNames) (scope : Scope) (xs : List processes.Bound) → CanBind v n scope xs → (p : printed_.Process) (b : Body) → Elaborates v (scope_behind n scope xs) (plain_process p) b
    → Elaborates v scope (plain_process (with_sums (map (variable_written n) xs) p)) (sums_around xs b)
sums_back v n scope [] h p b d = d
sums_back v n scope (x ∷ xs) h p b d = for_each (bound_back v n scope (x ∷ xs) h) d

-- ---- a summand
label_over_more : (xs ys : List ℕ) → ((v : ℕ) → Contains xs v → Contains ys v) → (m : Label) → LabelIsOver xs m → LabelIsOver ys m
label_over_more xs ys f [] no_action_left = no_action_left
label_over_more xs ys f (a ∷ m) (action_over h hs) = action_over (all_over_more xs ys f (terms_of a.args) h) (label_over_more xs ys f m hs)

next_over_more : (xs ys : List ℕ) (params : List processes.Bound) → ((v : ℕ) → Contains xs v → Contains ys v) → (o : Option (List Term)) → NextIsOver xs params o → NextIsOver ys params o
next_over_more xs ys params f None no_next = no_next
next_over_more xs ys params f (Some ts) (next_over h l) = next_over (all_over_more xs ys f (terms_of ts) h) l

mean_all : {v : FullVocabulary} {n : TextNames} {scope : Scope} (k : Here v n scope) (xs : List processes.Bound) → ((w : ℕ) → Contains (variables xs) w → Contains k.xs w) → AllByRecursion (λ (x : processes.Bound). Declares k.vs x.var x.sort) xs → Mean v n scope xs
mean_all k [] f h = tt
mean_all k (x ∷ xs) f h = (k.reads.variables x.var x.sort (f x.var (contains_first x.var (variables xs))) h.0, mean_all k xs (λ w c. f w (contains_later x.var w (variables xs) c)) h.1)

summand_back : (v : FullVocabulary) (n : TextNames) (params : List processes.Bound) → process_named v n.process ≡ Some (zero, parameters_of n params) → AreApart n params → (s : Summand) → SummandReads v n (scope_behind n [] params) params s
    → Elaborates v (scope_behind n [] params) (plain_process (summand_process (summand_written n params s))) (summand_body s)
summand_back v n params e d s h =
    let outer : Scope = scope_behind n [] params in
    let inner : Scope = scope_behind n outer s.sums in
    let k : Here v n inner = record { vs = h.variable_sorts; xs = numbers_of inner; reads = h.names } in
    let inside : (w : ℕ) → Contains (variables params) w → Contains (numbers_of inner) w = λ w c. in_scope n s.sums outer w (inr (in_scope n params [] w (inl c))) in
    let all : (w : ℕ) → Contains (variables s.sums ++ variables params) w → Contains (numbers_of inner) w
    = λ w c. ⊎_elim (λ a. in_scope n s.sums outer w (inl a)) (λ b. inside w b) (Contains-append_cases (variables s.sums) (variables params) w c) in
    let over : List ℕ = variables s.sums ++ variables params in
    sums_back v n outer s.sums h.sums _ _
    (condition_back v n inner k s.condition (is_true s.condition) h.sorted.condition h.condition (over_more over (numbers_of inner) all s.condition h.shape.condition) _ _
    (next_back v n inner k params s.next (first_written n s.label ∷ others_written n s.label) s.label e d (mean_all k params inside h.params_sorted) h.sorted.next h.next (next_over_more over (numbers_of inner) params all s.next h.shape.next)
    (label_back v n inner k s.label h.label h.sorted.label (label_over_more over (numbers_of inner) all s.label h.shape.label))))

-- ---- the whole
choice_back : (v : FullVocabulary) (n : TextNames) (params : List processes.Bound) → process_named v n.process ≡ Some (zero, parameters_of n params) → AreApart n params → (s : Summand) (ss : List Summand) → SummandReads v n (scope_behind n [] params) params s
    → AllByRecursion (SummandReads v n (scope_behind n [] params) params) ss → AllElaborate v (scope_behind n [] params) (plain_processes (all_summands (summand_written n params s) (map (summand_written n params) ss))) (map summand_body (s ∷ ss))
choice_back v n params e d s [] h hs = one_and_more (summand_back v n params e d s h) all_done
choice_back v n params e d s (r ∷ rs) h hs = one_and_more (summand_back v n params e d s h) (choice_back v n params e d r rs hs.0 hs.1)

summands_back : (v : FullVocabulary) (n : TextNames) (params : List processes.Bound) → process_named v n.process ≡ Some (zero, parameters_of n params) → AreApart n params → (ss : List Summand) → AllByRecursion (SummandReads v n (scope_behind n [] params) params) ss
    → Elaborates v (scope_behind n [] params) (plain_process (summands_written n params ss)) (choice_of (map summand_body ss))
summands_back v n params e d [] h = nothing
summands_back v n params e d (s ∷ []) h = summand_back v n params e d s h.0
summands_back v n params e d (s ∷ r ∷ rs) h = one_of (choice_back v n params e d s (r ∷ rs) h.0 h.1)

body_printed : (n : TextNames) (params : List processes.Bound) (ss : List Summand) → IsPrinted (summands_written n params ss)
body_printed n params [] = tt
body_printed n params (s ∷ ss) = choice_printed (summand_written n params s) (map (summand_written n params) ss)

mutual
  pub closed_over : (g : Data) (t : Term) (s : Sort) → HasSort g [] t s → IsOver [] t
  closed_over g (variable v) s h = absurd h
  closed_over g (terms.numeral a z) s h = tt
  closed_over g (unknown d k) s h = tt
  closed_over g (application f ts) s h = all_closed_over g ts _ h.1

  pub all_closed_over : (g : Data) (ts : Terms) (ss : List Sort) → HaveSorts g [] ts ss → AreOver [] ts
  all_closed_over g terms.none ss h = tt
  all_closed_over g (terms.more t ts) [] h = absurd h
  all_closed_over g (terms.more t ts) (s ∷ ss) h = (closed_over g t s h.0, all_closed_over g ts ss h.1)

all_stay : (g : Data) (ts : List Term) (ss : List Sort) → HaveSorts g [] (terms_of ts) ss → map (put (term_in [])) ts ≡ ts
all_stay g [] ss h = refl
all_stay g (t ∷ ts) [] h = absurd h
all_stay g (t ∷ ts) (s ∷ ss) h = ap₂ (λ (u : Term) (us : List Term). u ∷ us) (closed_terms_stay g (term_in []) t s h.0) (all_stay g ts ss h.1)

same_sorts : (n : TextNames) (xs : List processes.Bound) → map (λ (p : Name × Sort). p.1) (parameters_of n xs) ≡ sorts xs
same_sorts n [] = refl
same_sorts n (x ∷ xs) = ap (λ (ss : List Sort). x.sort ∷ ss) (same_sorts n xs)

start_back : (v : FullVocabulary) (n : TextNames) (l : Linear) (initial : List Term) → LinearReads v n l initial → Elaborates v [] (start_written n initial) (written_call 0 initial)
start_back v n l initial h =
    let ts : List Typing = typings (meaning v.declared []) (plain_all (places (written_all n.terms (terms_of initial)))) in
    let found : all_at checked (sorts l.params) ts ≡ Some (terms_of initial)
    = place_all (backs h.closed_names (terms_of initial) (sorts l.params) true h.of_sorts h.writable (all_closed_over v.declared.tables (terms_of initial) (sorts l.params) h.of_sorts)) in
    call_in_order h.process (ap (λ (us : List Typing). option_map lists.list_of (all_at checked (map (λ (p : Name × Sort). p.1) (parameters_of n l.params)) us)) (listed_typings v [] (places (written_all n.terms (terms_of initial)))) ∙ ap (λ (ss : List Sort). option_map lists.list_of (all_at checked ss ts)) (same_sorts n l.params) ∙ ap (option_map lists.list_of) found ∙ ap (λ (us : List Term). Some us) (lists_of_terms initial))

-- any tree of the printed summands
pub tree_back : (v : FullVocabulary) (n : TextNames) (l : Linear) (initial : List Term) → LinearReads v n l initial → (body : PlainProcess) → printed_.bare_process body ≡ body_written n l
    → Elaborates v (scope_behind n [] l.params) (bare_process body) (choice_of (map summand_body l.summands))
tree_back v n l initial h body e =
    let is : bare_process body ≡ plain_process (body_written n l) = tree_is body (subst IsPrinted (sym e) (body_printed n l.params l.summands)) ∙ ap plain_process e in
    subst (λ (p : bare.Process). Elaborates v (scope_behind n [] l.params) p (choice_of (map summand_body l.summands))) (sym is) (summands_back v n l.params h.process h.distinct l.summands h.summands)

pub linear_processes_elaborate_back : LinearProcessesElaborateBack
linear_processes_elaborate_back v n l initial h = record {
  definition = λ body e. record { scope = scope_behind n [] l.params; bounds = l.params; binds = parameters_back v n [] l.params h.params; params = refl; body = tree_back v n l initial h body e };
  written = record { scope = scope_behind n [] l.params; bounds = l.params; binds = parameters_back v n [] l.params h.params; params = refl; body = summands_back v n l.params h.process h.distinct l.summands h.summands };
  start = start_back v n l initial h;
  state = ap (call (linear_table l) 0) (all_stay v.declared.tables initial (sorts l.params) h.of_sorts);
}
