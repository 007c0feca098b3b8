-- What comes behind a vocabulary changes nothing in what elaborates.
use Rattle.std.proofs.Common.{◌≡◌, Bool, true, false, not, cond, ◌&&◌, List, [], ◌∷◌, ◌++◌, map, refl, sym, ap, ap₂, ◌∙◌, subst, append-nil}
use Rattle.std.specs.Prelude.{Option, Some, None, option_map, option_and_then, bytes_eq}
use Rattle.std.specs.List.{AllByRecursion, list_all}
use Rattle.std.proofs.lemmas.Option.{none-some}
use Rattle.data_theory.specs.Terms.{Sort, boolean, list, Term}
use Rattle.data_theory.specs.Environments as lists
use Rattle.process_terms.specs.Communication.{Rule}
use Rattle.process_terms.specs.Labels as written
use Rattle.process_terms.specs.Labels.{Label}
use Rattle.process_terms.specs.Processes as processes
use Rattle.process_terms.specs.Processes.{Renaming, Around, Body}
use Rattle.sort_table.specs.Expressions.{Name, Expression}
use Rattle.sort_table.specs.NamedLists.{all_named, first_named}
use Rattle.sort_table.specs.BareSorts.{SortExpression, truth_values, positives, naturals, integers, lists_of, a_name}
use Rattle.sort_table.specs.BareProcesses.{Variables, Action, tau, act, Process, Processes}
use Rattle.sort_table.specs.Growth.{More, with_more}
use Rattle.sort_table.specs.Vocabularies.{Vocabulary, sort_in}
use Rattle.data_typing.specs.Typings.{Typing, checked, all_at}
use Rattle.data_typing.specs.TypingLaws.{IsOverData}
use Rattle.data_typing.specs.Meanings.{Scope, typing_in}
use Rattle.data_typing.proofs.Options.{mapped}
use Rattle.data_typing.proofs.OtherNames.{other_names_change_nothing}
use Rattle.sort_checker.specs.FullVocabularies.{Parameters, FullVocabulary}
use Rattle.sort_checker.specs.Scopes.{Binds, binds_none, binds_more}
use Rattle.sort_checker.specs.Operators.{renaming_fits, rule_fits, rule_fits_at, has_action, are_apart}
use Rattle.sort_checker.specs.PartTypings.{action_of, label_in, arguments_in, assigned_or, assigned_in, left_side, condition_at}
use Rattle.sort_checker.specs.Elaborations.{Fits, Elaborates, nothing, label, call_in_order, one_by_one, call_by_name, only_these, none_of_these, unseen, renamed, joined, in_sequence, one_of, at_once, left_first, side_by_side, for_each, where_true, by_truth, AllElaborate, all_done, one_and_more}
use Rattle.sort_checker.specs.FittingBodies.{EachExpression, EachExpressionOf, EachArgument, EachValue, EachOption}
use Rattle.sort_checker.specs.GrowthLaws.{fuller, HasNoneOf, ProcessesStayAlike, DefinitionsStayAlike, EquationsStayAlike}
use Rattle.sort_checker.proofs.EachAlone.{expressions_alone, names_alike}

-- ---- sorts
found_in_front : {A : Type 0} (n : Name) (rs qs : List (Name × A)) (x : A) → first_named n rs ≡ Some x → first_named n (rs ++ qs) ≡ Some x
found_in_front n [] qs x h = absurd (none-some x h)
found_in_front {A = A} n (r ∷ rs) qs x h = by_test (bytes_eq r.0 n) (first_named n rs) (first_named n (rs ++ qs)) (found_in_front n rs qs x) h
  where
    by_test : (b : Bool) (o p : Option A) → (o ≡ Some x → p ≡ Some x) → cond b (Some r.1) o ≡ Some x → cond b (Some r.1) p ≡ Some x
    by_test true o p f e = e
    by_test false o p f e = f e

sort_stays : (ns ms : List (Name × Sort)) (e : SortExpression) (s : Sort) → sort_in ns e ≡ Some s → sort_in (ns ++ ms) e ≡ Some s
sort_stays ns ms truth_values s h = h
sort_stays ns ms positives s h = h
sort_stays ns ms naturals s h = h
sort_stays ns ms integers s h = h
sort_stays ns ms (lists_of e) s h = mapped list (sort_in ns e) s h (λ r there q. ap (option_map list) (sort_stays ns ms e r there) ∙ ap (λ (t : Sort). Some t) q)
sort_stays ns ms (a_name n) s h = found_in_front n ns ms s h

-- a vocabulary with these sorts and names of sorts behind its own binds as before
binds_stay : (v w : Vocabulary) (ms : List (Name × Sort)) → w.sort_names ≡ v.sort_names ++ ms → {scope inner : Scope} {xs : Variables} {bs : List processes.Bound} → Binds v scope xs inner bs → Binds w scope xs inner bs
binds_stay v w ms same binds_none = binds_none
binds_stay v w ms same (binds_more {s = s} {e = e} is f bs) = binds_more (ap (λ ns. sort_in ns e) same ∙ sort_stays v.sort_names ms e s is) f (binds_stay v w ms same bs)

-- ---- without actions
-- sorts and functions behind those that there are, and no actions
abbrev without_actions : Vocabulary → More → Vocabulary
without_actions v m = record { tables = (with_more v m).tables; sort_names = (with_more v m).sort_names; function_names = (with_more v m).function_names; actions = v.actions }

abbrev longer : FullVocabulary → More → FullVocabulary
longer v m = record { declared = without_actions v.declared m; processes = v.processes }

no_actions_more : (v : FullVocabulary) (m : More) → m.actions ≡ [] → longer v m ≡ fuller v m
no_actions_more v m none =
    let actions = ap (λ l. v.declared.actions ++ l) none ∙ append-nil v.declared.actions in
    sym (λ i. record { declared = record { tables = (with_more v.declared m).tables; sort_names = (with_more v.declared m).sort_names; function_names = (with_more v.declared m).function_names; actions = actions i }; processes = v.processes })

-- ---- operators
all_alike : {A : Type 0} (p q : A → Bool) → ((x : A) → p x ≡ q x) → (xs : List A) → list_all p xs ≡ list_all q xs
all_alike p q h [] = refl
all_alike p q h (x ∷ xs) = ap₂ (λ (a b : Bool). a && b) (h x) (all_alike p q h xs)

renaming_stays : (v : Vocabulary) (m : More) (r : Renaming) → renaming_fits (without_actions v m) r ≡ renaming_fits v r
renaming_stays v m r = all_alike (has_action (without_actions v m) r.to) (has_action v r.to) (λ ss. refl) (all_named r.from v.actions)

rule_stays_at : (v : Vocabulary) (m : More) (c : Rule) (ss : List Sort) → rule_fits_at (without_actions v m) c ss ≡ rule_fits_at v c ss
rule_stays_at v m c ss = ap (λ (b : Bool). cond b (has_action v c.result ss) true) (all_alike (λ x. has_action (without_actions v m) x ss) (λ x. has_action v x ss) (λ x. refl) c.left)

rule_stays : (v : Vocabulary) (m : More) (c : Rule) → rule_fits (without_actions v m) c ≡ rule_fits v c
rule_stays v m c = all_alike (λ (a : Name × List Sort). rule_fits_at (without_actions v m) c a.1) (λ (a : Name × List Sort). rule_fits_at v c a.1) (λ a. rule_stays_at v m c a.1) v.actions

allow_fits : (v : FullVocabulary) (m : More) (sets : List (List Name)) → Fits v (processes.allow sets) → Fits (longer v m) (processes.allow sets)
allow_fits v m sets f = record { actions = f.actions; renamings = refl; rules = refl; once = refl }

block_fits : (v : FullVocabulary) (m : More) (xs : List Name) → Fits v (processes.block xs) → Fits (longer v m) (processes.block xs)
block_fits v m xs f = record { actions = f.actions; renamings = refl; rules = refl; once = refl }

hide_fits : (v : FullVocabulary) (m : More) (xs : List Name) → Fits v (processes.hide xs) → Fits (longer v m) (processes.hide xs)
hide_fits v m xs f = record { actions = f.actions; renamings = refl; rules = refl; once = refl }

rename_fits : (v : FullVocabulary) (m : More) (rs : List Renaming) → Fits v (processes.rename rs) → Fits (longer v m) (processes.rename rs)
rename_fits v m rs f = record { actions = f.actions; renamings = all_alike (renaming_fits (without_actions v.declared m)) (renaming_fits v.declared) (renaming_stays v.declared m) rs ∙ f.renamings; rules = refl; once = f.once }

comm_fits : (v : FullVocabulary) (m : More) (cs : List Rule) → Fits v (processes.comm cs) → Fits (longer v m) (processes.comm cs)
comm_fits v m cs f = record {
  actions = f.actions;
  renamings = refl;
  rules = ap (λ (b : Bool). not (are_apart cs && b)) (all_alike (rule_fits (without_actions v.declared m)) (rule_fits v.declared) (rule_stays v.declared m) cs) ∙ f.rules;
  once = refl;
}

-- ---- data
module _ (v : FullVocabulary) (m : More) (over : IsOverData v.declared) where
  same_typing : (scope : Scope) (e : Expression) → HasNoneOf m e → typing_in (without_actions v.declared m) scope e ≡ typing_in v.declared scope e
  same_typing scope e h = other_names_change_nothing v.declared m scope e over h

  same_typings : (scope : Scope) (es : List Expression) → AllByRecursion (HasNoneOf m) es → map (typing_in (without_actions v.declared m) scope) es ≡ map (typing_in v.declared scope) es
  same_typings scope [] h = refl
  same_typings scope (e ∷ es) h = ap₂ (λ (t : Typing) (ts : List Typing). t ∷ ts) (same_typing scope e h.0) (same_typings scope es h.1)

  same_label : (scope : Scope) (as_ : List Action) → AllByRecursion (EachArgument (HasNoneOf m)) as_ → label_in (without_actions v.declared m) scope as_ ≡ label_in v.declared scope as_
  same_label scope [] h = refl
  same_label scope (tau ∷ as_) h = same_label scope as_ h.1
  same_label scope (act x es ∷ as_) h =
      ap₂ (λ (ts : List Typing) (o : Option Label). option_and_then (λ (a : written.Action). option_map (λ (l : Label). a ∷ l) o) (action_of x ts (all_named x v.declared.actions))) (same_typings scope es h.0) (same_label scope as_ h.1)

  same_arguments : (scope : Scope) (ps : Parameters) (es : List Expression) → AllByRecursion (HasNoneOf m) es → arguments_in (without_actions v.declared m) scope ps es ≡ arguments_in v.declared scope ps es
  same_arguments scope ps es h = ap (λ (ts : List Typing). option_map lists.list_of (all_at checked (map (λ (p : Name × Sort). p.1) ps) ts)) (same_typings scope es h)

  same_value : (scope : Scope) (p : Name × Sort) (ds : List (Name × Expression)) → EachValue (HasNoneOf m) ds → assigned_or (without_actions v.declared m) scope p (first_named p.0 ds) ≡ assigned_or v.declared scope p (first_named p.0 ds)
  same_value scope p [] h = refl
  same_value scope p (d ∷ ds) h = by_test (bytes_eq d.0 p.0) (first_named p.0 ds) (same_value scope p ds h.1)
    where
      by_test : (b : Bool) (o : Option Expression) → assigned_or (without_actions v.declared m) scope p o ≡ assigned_or v.declared scope p o → assigned_or (without_actions v.declared m) scope p (cond b (Some d.1) o) ≡ assigned_or v.declared scope p (cond b (Some d.1) o)
      by_test true o e = ap (λ (t : Typing). t.checks p.1) (same_typing scope d.1 h.0)
      by_test false o e = e

  same_assigned : (scope : Scope) (ps : Parameters) (ds : List (Name × Expression)) → EachValue (HasNoneOf m) ds → assigned_in (without_actions v.declared m) scope ps ds ≡ assigned_in v.declared scope ps ds
  same_assigned scope [] ds h = refl
  same_assigned scope (p ∷ ps) ds h =
      ap₂ (λ (o : Option Term) (q : Option (List Term)). option_and_then (λ (t : Term). option_map (λ (ts : List Term). t ∷ ts) q) o) (same_value scope p ds h) (same_assigned scope ps ds h)

  -- ---- process terms
  mutual
    stay : {scope : Scope} {p : Process} {b : Body} → EachExpression (HasNoneOf m) p → Elaborates v scope p b → Elaborates (longer v m) scope p b
    stay h nothing = nothing
    stay {scope = scope} h (label {as_ = as_} e) = label (same_label scope as_ h ∙ e)
    stay {scope = scope} h (call_in_order {es = es} {ps = ps} e f) = call_in_order e (same_arguments scope ps es h.0 ∙ f)
    stay h (one_by_one {a = x} {b = y} {as_ = as_} n ds) = one_by_one (names_alike (longer v m) v (λ z. refl) (x ∷ y ∷ as_) ∙ n) (all_stay (expressions_alone (HasNoneOf m) (x ∷ y ∷ as_) h) ds)
    stay {scope = scope} h (call_by_name {ds = ds} {ps = ps} e a f) = call_by_name e a (same_assigned scope ps ds h ∙ f)
    stay h (only_these {sets = sets} f d) = only_these (allow_fits v m sets f) (stay h d)
    stay h (none_of_these {xs = xs} f d) = none_of_these (block_fits v m xs f) (stay h d)
    stay h (unseen {xs = xs} f d) = unseen (hide_fits v m xs f) (stay h d)
    stay h (renamed f d) = renamed (rename_fits v m _ f) (stay h d)
    stay h (joined f d) = joined (comm_fits v m _ f) (stay h d)
    stay h (in_sequence ds) = in_sequence (all_stay h ds)
    stay h (one_of ds) = one_of (all_stay h ds)
    stay h (at_once ds) = at_once (all_stay h ds)
    stay h (left_first d f) = left_first (stay h.0 d) (stay h.1 f)
    stay h (side_by_side ds) = side_by_side (all_stay h ds)
    stay h (for_each bs d) = for_each (binds_stay v.declared (without_actions v.declared m) m.sort_names refl bs) (stay h d)
    stay {scope = scope} h (where_true {e = e} c d) = where_true (ap (λ (t : Typing). t.checks boolean) (same_typing scope e h.0) ∙ c) (stay h.1 d)
    stay {scope = scope} h (by_truth {e = e} c d f) = by_truth (ap (λ (t : Typing). t.checks boolean) (same_typing scope e h.0) ∙ c) (stay h.1 d) (stay h.2 f)

    all_stay : {scope : Scope} {ps : Processes} {bs : List Body} → EachExpressionOf (HasNoneOf m) ps → AllElaborate v scope ps bs → AllElaborate (longer v m) scope ps bs
    all_stay h all_done = all_done
    all_stay h (one_and_more d ds) = one_and_more (stay h.0 d) (all_stay h.1 ds)

  same_condition : (scope : Scope) (c : Option Expression) → EachOption (HasNoneOf m) c → condition_at (without_actions v.declared m) scope c ≡ condition_at v.declared scope c
  same_condition scope None h = refl
  same_condition scope (Some e) h = ap (λ (t : Typing). t.checks boolean) (same_typing scope e h)

pub processes_stay_alike : ProcessesStayAlike
processes_stay_alike v m none over scope p b h d = subst (λ w. Elaborates w scope p b) (no_actions_more v m none) (stay v m over h d)

pub definitions_stay_alike : DefinitionsStayAlike
definitions_stay_alike v m none over w d h e =
    let binds = binds_stay v.declared (with_more v.declared m) m.sort_names refl e.binds in
    record { scope = e.scope; bounds = e.bounds; binds = binds; params = e.params; body = processes_stay_alike v m none over e.scope w.body _ h e.body }

pub equations_stay_alike : EquationsStayAlike
equations_stay_alike v m over e q c l r h = record {
  scope = h.scope;
  bounds = h.bounds;
  binds = binds_stay v.declared (with_more v.declared m) m.sort_names refl h.binds;
  sorts = h.sorts;
  sort = h.sort;
  left = ap₂ left_side (same_typing v m over h.scope e.left l) (same_typing v m over h.scope e.right r) ∙ h.left;
  right = ap (λ (t : Typing). t.checks h.sort) (same_typing v m over h.scope e.right r) ∙ h.right;
  condition = same_condition v m over h.scope e.condition c ∙ h.condition;
  no_variable = h.no_variable;
  no_other = h.no_other;
}
