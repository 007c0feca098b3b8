-- Labels and calls by their parts.
use Rattle.std.proofs.Common.{◌≡◌, ◌<◌, ◌+◌, ℕ, zero, suc, true, List, [], ◌∷◌, ◌++◌, length, map, take, get_or, refl, sym, subst, ap, ap₂, ◌∙◌, arith}
use Rattle.std.specs.Prelude.{Option, Some, None, option_map, option_and_then, slice_get, Vec}
use Rattle.std.specs.Global.{Global}
use Rattle.std.specs.List.{All, AllByRecursion}
use Rattle.std.proofs.lemmas.Option.{none-some, same_Some, slice_get-map, slice_get_read}
use Rattle.std.proofs.lemmas.List.{map-append}
use Rattle.std.proofs.lemmas.Simd.{map-map}
use Rattle.std.proofs.lemmas.List.Elements.{All-append, All-nil, All-cons}
use Rattle.mcrl2_syntax.specs.declared.process_tree.ActionTree.{ActionTree}
use Rattle.mcrl2_syntax.specs.ListedData.{ListedData}
use Rattle.mcrl2_syntax.specs.declared.process_tree.ActionTree.TheVariants as trees
use Rattle.mcrl2_syntax.specs.declared.word.Word.{Word}
use Rattle.mcrl2_syntax.specs.DataTrees.{plain_data}
use Rattle.mcrl2_syntax.specs.ProcessParts.{plain_action}
use Rattle.data_theory.specs.declared.ids.ProcId.{ProcId}
use Rattle.data_theory.specs.declared.ids.TermId.{TermId}
use Rattle.data_theory.specs.Keys.{Key}
use Rattle.data_theory.specs.Signature.{Sig}
use Rattle.data_theory.specs.Terms.{Sort, Term}
use Rattle.data_theory.specs.WholeSignatures.{IsSignature}
use Rattle.term_pool.specs.Pools.{PoolContents}
use Rattle.process_terms.specs.Labels as written
use Rattle.process_terms.specs.Labels.{Label}
use Rattle.process_terms.specs.Meanings as code
use Rattle.process_terms.specs.Meanings.{ActionEntry, term_at, HasAction, HasTerm}
use Rattle.process_terms.specs.PlainProcesses as plain
use Rattle.process_terms.specs.PlainProcesses.{PlainAction, PlainProcess, plain_label, plain_process, plain_process_step}
use Rattle.process_terms.specs.declared.labels.Label as labels
use Rattle.process_terms.specs.declared.processes.Proc.TheVariants as procs
use Rattle.process_terms.specs.declared.processes.Proc.TheFolds.{fold-roll-Proc}
use Rattle.process_terms.specs.Processes.{Body, written_act, written_call}
use Rattle.process_terms.specs.SignatureEntries.{entries_of, action_entry}
use Rattle.sort_table.specs.BareProcesses as bare
use Rattle.sort_table.specs.BareData.{bare_data}
use Rattle.sort_table.specs.BareProcesses.{Action, tau, act, bare_action}
use Rattle.sort_table.proofs.KeptFunctions.{one_more_read}
use Rattle.sort_table.specs.Expressions.{Name, Expression}
use Rattle.sort_table.specs.NamedLists.{all_named}
use Rattle.sort_table.specs.SignatureVocabularies.{action_under}
use Rattle.sort_table.specs.Vocabularies.{Vocabulary}
use Rattle.data_typing.specs.Meanings.{Scope, typing_in}
use Rattle.data_typing.specs.Readings.{bare_trees}
use Rattle.sort_checker.specs.declared.sorted_actions.SortedAction.{SortedAction}
use Rattle.sort_checker.specs.Additions.{GoesOn}
use Rattle.sort_checker.specs.CodeContexts.{IsElaborated}
use Rattle.sort_checker.specs.ElaboratedLabels.{IsAction, IsWishedAction, no_action, the_action, IsWishedLabel, no_label, the_label, IsWishedCall, no_call, the_call}
use Rattle.sort_checker.specs.ElaboratedParts.{AreTerms, IsLabel, IsBody}
use Rattle.sort_checker.specs.Elaborations.{names_process, each_alone, Elaborates, label, call_in_order, one_by_one, call_by_name, AllElaborate}
use Rattle.sort_checker.specs.FullVocabularies.{Parameters, FullVocabulary, process_named}
use Rattle.sort_checker.specs.PartTypings.{action_of, label_in, arguments_in, are_assignments, assigned_in}
use Rattle.sort_checker.specs.SortedActions.{sorts_of, IsSortedAction}
use Rattle.sort_checker.proofs.Adding.{goes_then, vocabulary_stays}

-- ---- one action more
module _ (v : Vocabulary) (s : Scope) where
  abbrev pub action_in : Name → List Expression → Option written.Action
  action_in x es = action_of x (map (typing_in v s) es) (all_named x v.actions)

  record IsFirst (o : Option written.Action) (r : Option Label) (m : Label) : Type 0 where
    first : written.Action
    rest : Label
    here : o ≡ Some first
    behind : r ≡ Some rest
    are : m ≡ first ∷ rest

  parts : (o : Option written.Action) (r : Option Label) (m : Label) → option_and_then (λ a. option_map (λ (n : Label). a ∷ n) r) o ≡ Some m → IsFirst o r m
  parts None r m e = absurd (none-some m e)
  parts (Some a) None m e = absurd (none-some m e)
  parts (Some a) (Some n) m e = record { first = a; rest = n; here = refl; behind = refl; are = sym (same_Some (a ∷ n) m e) }

  join : (o : Option written.Action) (r : Option Label) (a : written.Action) (n : Label) → o ≡ Some a → r ≡ Some n → option_and_then (λ b. option_map (λ (k : Label). b ∷ k) r) o ≡ Some (a ∷ n)
  join o r a n e f = ap₂ (λ p q. option_and_then (λ b. option_map (λ (k : Label). b ∷ k) q) p) e f

  pub label_more : (as_ : List Action) (m : Label) (x : Name) (es : List Expression) (a : written.Action) → label_in v s as_ ≡ Some m → action_in x es ≡ Some a → label_in v s (as_ ++ act x es ∷ []) ≡ Some (m ++ a ∷ [])
  label_more [] m x es a e f = join (action_in x es) (Some []) a [] f refl ∙ ap (λ (n : Label). Some (n ++ a ∷ [])) (same_Some [] m e)
  label_more (tau ∷ as_) m x es a e f = label_more as_ m x es a e f
  label_more (act y ds ∷ as_) m x es a e f =
      let p = parts (action_in y ds) (label_in v s as_) m e in
      join (action_in y ds) (label_in v s (as_ ++ act x es ∷ [])) p.first (p.rest ++ a ∷ []) p.here (label_more as_ p.rest x es a p.behind f) ∙ ap (λ (n : Label). Some (n ++ a ∷ [])) (sym p.are)

  pub label_same : (as_ : List Action) → label_in v s (as_ ++ tau ∷ []) ≡ label_in v s as_
  label_same [] = refl
  label_same (tau ∷ as_) = label_same as_
  label_same (act y ds ∷ as_) = ap (λ r. option_and_then (λ a. option_map (λ (n : Label). a ∷ n) r) (action_in y ds)) (label_same as_)

  none_then : (o : Option written.Action) → option_and_then (λ a. option_map (λ (n : Label). a ∷ n) None) o ≡ None
  none_then None = refl
  none_then (Some a) = refl

  pub label_has_none : (as_ : List Action) (i : ℕ) (x : Name) (es : List Expression) → slice_get as_ i ≡ Some (act x es) → action_in x es ≡ None → label_in v s as_ ≡ None
  label_has_none [] i x es at e = absurd (none-some (act x es) at)
  label_has_none (a ∷ as_) zero x es at e =
      ap (λ (b : Action). label_in v s (b ∷ as_)) (same_Some a (act x es) at) ∙ ap (option_and_then (λ b. option_map (λ (n : Label). b ∷ n) (label_in v s as_))) e
  label_has_none (tau ∷ as_) (suc i) x es at e = label_has_none as_ i x es at e
  label_has_none (act y ds ∷ as_) (suc i) x es at e = ap (λ r. option_and_then (λ a. option_map (λ (n : Label). a ∷ n) r) (action_in y ds)) (label_has_none as_ i x es at e) ∙ none_then (action_in y ds)

  -- the action that stands at a place of a label's tree is one of the label
  abbrev action_by : Action → Option written.Action
  action_by tau = None
  action_by (act x es) = action_in x es

  pub record IsInLabel (x : Name) (es : List Expression) (m : Label) : Type 1 where
    pub action : written.Action
    pub is : action_in x es ≡ Some action
    pub holds : (P : written.Action → Type 0) → AllByRecursion P m → P action

  pub label_has : (as_ : List Action) (i : ℕ) (x : Name) (es : List Expression) (m : Label) → slice_get as_ i ≡ Some (act x es) → label_in v s as_ ≡ Some m → IsInLabel x es m
  label_has [] i x es m at e = absurd (none-some (act x es) at)
  label_has (tau ∷ as_) zero x es m at e = absurd (let never : tau ≡ act x es = same_Some tau (act x es) at in cc)
  label_has (tau ∷ as_) (suc i) x es m at e = label_has as_ i x es m at e
  label_has (act y ds ∷ as_) zero x es m at e =
      let p = parts (action_in y ds) (label_in v s as_) m e in
      record { action = p.first; is = ap action_by (sym (same_Some (act y ds) (act x es) at)) ∙ p.here; holds = λ P all. (subst (AllByRecursion P) p.are all).0 }
  label_has (act y ds ∷ as_) (suc i) x es m at e =
      let p = parts (action_in y ds) (label_in v s as_) m e in
      let r = label_has as_ i x es p.rest at p.behind in
      record { action = r.action; is = r.is; holds = λ P all. r.holds P (subst (AllByRecursion P) p.are all).1 }

-- ---- in code
entry_there : (g : Sig) (ks : List Key) (k : ℕ) (x : Name) (ss : List Sort) (d : ActionEntry) → slice_get (map (action_under g) ks) k ≡ Some (x, ss) → (k < length (map (action_entry g) ks)) × (get_or (map (action_entry g) ks) k d ≡ record { name = x; sorts = ss })
entry_there g [] k x ss d e = absurd (none-some (x, ss) e)
entry_there g (a ∷ ks) zero x ss d e = (omega arith, ap (λ (r : Name × List Sort). record { name = r.0; sorts = r.1 }) (same_Some (action_under g a) (x, ss) e))
entry_there g (a ∷ ks) (suc k) x ss d e = let r = entry_there g ks k x ss d e in let l = r.0 in (omega (arith, l), r.1)

pub action_made : (g : Sig) (p : PoolContents) → IsSignature g → (x : Name) (a : SortedAction) → IsSortedAction g x a → (ids : List TermId) (us : List Term) → AreTerms g p ids us
    → IsAction g p (record { act = a.act; args = ids }) (record { name = x; sorts = sorts_of a; args = us })
action_made g p stands x a is ids us are = record {
  there = λ h q on. ((entry h q on).0, are.there h q on);
  means = λ h q on. ap₂ (λ (r : ActionEntry) (ts : List Term). record { name = r.name; sorts = r.sorts; args = ts }) (entry h q on).1 (are.means h q on);
}
  where
    entry : (h : Sig) (q : PoolContents) → GoesOn g p h q
        → (a.act.0 < length (map (action_entry h) h.actions)) × (get_or (map (action_entry h) h.actions) a.act.0 (record { name = []; sorts = [] }) ≡ record { name = x; sorts = sorts_of a })
    entry h q on = entry_there h h.actions a.act.0 x (sorts_of a) (record { name = []; sorts = [] }) (ap (λ (w : Vocabulary). slice_get w.actions a.act.0) (vocabulary_stays g h stands on.added) ∙ is.numbered)

pub none_labelled : (g : Sig) (p : PoolContents) (xs : List PlainAction) → xs ≡ [] → IsLabel g p xs []
none_labelled g p xs e = record { there = λ h q on. subst (All (HasAction (entries_of h q.trees))) (sym e) (All-nil (HasAction (entries_of h q.trees))); means = λ h q on. ap (code.label_of (entries_of h q.trees)) e }

pub labelled_on : (g : Sig) (o : PoolContents) (h : Sig) (p : PoolContents) → GoesOn g o h p → (xs : List PlainAction) (m : Label) → IsLabel g o xs m → IsLabel h p xs m
labelled_on g o h p before xs m are = record { there = λ k q on. are.there k q (goes_then g o h p k q before on); means = λ k q on. are.means k q (goes_then g o h p k q before on) }

pub labelled_more : (g : Sig) (o : PoolContents) (h : Sig) (p : PoolContents) → GoesOn g o h p → (xs ys : List PlainAction) (m : Label) (x : PlainAction) (a : written.Action) → ys ≡ xs ++ x ∷ [] → IsLabel g o xs m → IsAction h p x a → IsLabel h p ys (m ++ a ∷ [])
labelled_more g o h p before xs ys m x a pushed are is = record {
  there = λ k q on. subst (All (HasAction (entries_of k q.trees))) (sym pushed) (All-append (HasAction (entries_of k q.trees)) xs (x ∷ []) (are.there k q (goes_then g o h p k q before on)) (All-cons (HasAction (entries_of k q.trees)) x [] (is.there k q on) (All-nil (HasAction (entries_of k q.trees)))));
  means = λ k q on.
      ap (map (code.action_of (entries_of k q.trees))) pushed ∙ (map-append (code.action_of (entries_of k q.trees)) xs (x ∷ []) ∙ ap₂ (λ (n : Label) (b : written.Action). n ++ b ∷ []) (are.means k q (goes_then g o h p k q before on)) (is.means k q on));
}

pub act_step : (m : labels.Label) → plain_process (procs.Act m) ≡ plain.act (plain_label m)
act_step m = ap plain_process (sym (procs.rolls-Act m)) ∙ fold-roll-Proc PlainProcess plain_process_step _

pub call_step : (x : ProcId) (ids : Vec TermId Global) → plain_process (procs.Call x ids) ≡ plain.call x ids.items
call_step x ids = ap plain_process (sym (procs.rolls-Call x ids)) ∙ fold-roll-Proc PlainProcess plain_process_step _

pub act_made : (g : Sig) (p : PoolContents) (l : labels.Label) (m : Label) → IsLabel g p (plain_label l) m → IsBody g p (plain_process (procs.Act l)) (written_act m)
act_made g p l m are =
    subst (λ (x : PlainProcess). IsBody g p x (written_act m)) (sym (act_step l)) (record { there = λ h q on. are.there h q on; means = λ h q on. ap written_act (are.means h q on) })

pub call_made : (g : Sig) (p : PoolContents) (k : ℕ) (ids : Vec TermId Global) (ts : List Term) → AreTerms g p ids.items ts → IsBody g p (plain_process (procs.Call (record { 0 = k }) ids)) (written_call k ts)
call_made g p k ids ts are =
    subst (λ (x : PlainProcess). IsBody g p x (written_call k ts)) (sym (call_step (record { 0 = k }) ids)) (record { there = λ h q on. are.there h q on; means = λ h q on. ap (written_call k) (are.means h q on) })

-- ---- what elaborates
two_or_more : (a b : Action) (as_ : List Action) → ¬ (length (a ∷ b ∷ as_) ≡ 1)
two_or_more a b as_ one = let never : ⊥ = omega (arith, one) in absurd never

module _ (v : FullVocabulary) (s : Scope) where
  pub record IsCall (x : Name) (es : List Expression) : Type 0 where
    pub place : ℕ
    pub parameters : Parameters
    pub terms : List Term
    pub process : process_named v x ≡ Some (place, parameters)
    pub arguments : arguments_in v.declared s parameters es ≡ Some terms

  pub record IsAssigned (x : Name) (ds : List (Name × Expression)) : Type 0 where
    pub place : ℕ
    pub parameters : Parameters
    pub terms : List Term
    pub process : process_named v x ≡ Some (place, parameters)
    pub assignments : are_assignments parameters ds ≡ true
    pub values : assigned_in v.declared s parameters ds ≡ Some terms

  -- one of the names is that of a process, and each elaborates alone
  pub record AreOneByOne (as_ : List Action) : Type 0 where
    pub bodies : List Body
    pub named : names_process v as_ ≡ true
    pub elaborate : AllElaborate v s (each_alone as_) bodies

  pub by_acts : (P : Type 0) (as_ : List Action) (b : Body) → Elaborates v s (bare.acts as_) b → ((m : Label) → label_in v.declared s as_ ≡ Some m → P) → ((x : Name) (es : List Expression) → as_ ≡ act x es ∷ [] → IsCall x es → P)
      → (¬ (length as_ ≡ 1) → AreOneByOne as_ → P) → P
  by_acts P as_ b (label {m = m} e) f k l = f m e
  by_acts P _ b (call_in_order {x = x} {es = es} {k = n} {ps = ps} {ts = ts} e a) f k l = k x es refl (record { place = n; parameters = ps; terms = ts; process = e; arguments = a })
  by_acts P _ b (one_by_one {a = a} {b = c} {as_ = as_} {bs = bs} n ds) f k l = l (two_or_more a c as_) (record { bodies = bs; named = n; elaborate = ds })

  pub of_call : (x : Name) (ds : List (Name × Expression)) (b : Body) → Elaborates v s (bare.call x ds) b → IsAssigned x ds
  of_call x ds b (call_by_name {k = n} {ps = ps} {ts = ts} e a d) = record { place = n; parameters = ps; terms = ts; process = e; assignments = a; values = d }

  -- more than one, or none, that are no label
  pub several_elaborate : (as_ : List Action) (b : Body) → ¬ (length as_ ≡ 1) → label_in v.declared s as_ ≡ None → Elaborates v s (bare.acts as_) b → AreOneByOne as_
  several_elaborate as_ b several none e = by_acts (AreOneByOne as_) as_ b e (λ m l. absurd (none-some m (sym none ∙ l))) (λ x es one is. absurd (several (ap length one))) (λ n are. are)

  abbrev IsSingleCall : List Action → Type 0
  IsSingleCall (act y ds ∷ []) = IsCall y ds
  IsSingleCall _ = Unit {0}

  -- a name with arguments is an action or a call
  pub one_elaborates : (P : Type 0) (x : Name) (es : List Expression) (b : Body) → Elaborates v s (bare.acts (act x es ∷ [])) b → ((a : written.Action) → action_in v.declared s x es ≡ Some a → P) → (IsCall x es → P) → P
  one_elaborates P x es b e f k = by_acts P (act x es ∷ []) b e (λ m l. let p = parts v.declared s (action_in v.declared s x es) (Some []) m l in f p.first p.here) (λ y ds one is. k (subst (λ (as_ : List Action). IsSingleCall as_) (sym one) is)) (λ n are. absurd (n refl))

  pub action_elaborates : (x : Name) (es : List Expression) (a : written.Action) → action_in v.declared s x es ≡ Some a → Elaborates v s (bare.acts (act x es ∷ [])) (written_act (a ∷ []))
  action_elaborates x es a e = label (join v.declared s (action_in v.declared s x es) (Some []) a [] e refl)

-- ---- what was found
pub the_action_found : (g : Sig) (p : PoolContents) (want : Option written.Action) (o : Option PlainAction) (x : PlainAction) → o ≡ Some x → IsWishedAction g p want o → (a : written.Action) × (want ≡ Some a) × IsAction g p x a
the_action_found g p want _ x e (no_action n) = cc
the_action_found g p want _ x e (the_action {x = y} a w is) = (a, w, subst (λ z. IsAction g p z a) (same_Some y x e) is)

pub no_action_found : (g : Sig) (p : PoolContents) (want : Option written.Action) (o : Option PlainAction) → o ≡ None → IsWishedAction g p want o → want ≡ None
no_action_found g p want _ e (no_action n) = n
no_action_found g p want _ e (the_action a w is) = cc

pub the_label_found : (g : Sig) (p : PoolContents) (want : Option Label) (o : Option (List PlainAction)) (xs : List PlainAction) → o ≡ Some xs → IsWishedLabel g p want o → (m : Label) × (want ≡ Some m) × IsLabel g p xs m
the_label_found g p want _ xs e (no_label n) = cc
the_label_found g p want _ xs e (the_label {xs = ys} m w is) = (m, w, subst (λ zs. IsLabel g p zs m) (same_Some ys xs e) is)

pub no_label_found : (g : Sig) (p : PoolContents) (want : Option Label) (o : Option (List PlainAction)) → o ≡ None → IsWishedLabel g p want o → want ≡ None
no_label_found g p want _ e (no_label n) = n
no_label_found g p want _ e (the_label m w is) = cc

module _ (v : FullVocabulary) (s : Scope) (x : Name) (es : List Expression) (g : Sig) (p : PoolContents) where
  pub call_elaborates : (o : Option PlainProcess) (c : PlainProcess) → o ≡ Some c → IsWishedCall v s x es g p o → IsElaborated v s (bare.acts (act x es ∷ [])) g p c
  call_elaborates _ c e (no_call n) = cc
  call_elaborates _ c e (the_call {c = d} k ps ts f a is) = subst (IsElaborated v s (bare.acts (act x es ∷ [])) g p) (same_Some d c e) (record { body = written_call k ts; elaborates = call_in_order f a; stands = is })

  pub no_call_found : (o : Option PlainProcess) → o ≡ None → IsWishedCall v s x es g p o → IsCall v s x es → ⊥
  no_call_found _ e (no_call n) is = none-some is.terms (sym (n is.place is.parameters is.process) ∙ is.arguments)
  no_call_found _ e (the_call k ps ts f a stands) is = cc

-- ---- trees of actions
pub named_bare : (end : ℕ) (w : Word) (ds : ListedData) → bare_action (plain_action (trees.Named end w ds)) ≡ act w.bytes.items (bare_trees ds.items)
named_bare end w ds = ap (act w.bytes.items) (map-map bare_data plain_data ds.items)

module _ (v : Vocabulary) (s : Scope) (ts : List ActionTree) (i : ℕ) (t : ActionTree) (inside : i < length ts) (at : t ≡ get_or ts i t) where
  more_trees : map bare_action (map plain_action (take (i + 1) ts)) ≡ map bare_action (map plain_action (take i ts)) ++ bare_action (plain_action t) ∷ []
  more_trees = one_more_read plain_action bare_action ts i t inside at

  pub next_label : (m : Label) (x : Name) (es : List Expression) (a : written.Action) → label_in v s (map bare_action (map plain_action (take i ts))) ≡ Some m → bare_action (plain_action t) ≡ act x es → action_in v s x es ≡ Some a
      → label_in v s (map bare_action (map plain_action (take (i + 1) ts))) ≡ Some (m ++ a ∷ [])
  next_label m x es a so_far is one =
      ap (label_in v s) (more_trees ∙ ap (λ (b : Action). map bare_action (map plain_action (take i ts)) ++ b ∷ []) is) ∙ label_more v s (map bare_action (map plain_action (take i ts))) m x es a so_far one

  pub next_tau : bare_action (plain_action t) ≡ tau → label_in v s (map bare_action (map plain_action (take (i + 1) ts))) ≡ label_in v s (map bare_action (map plain_action (take i ts)))
  next_tau is = ap (label_in v s) (more_trees ∙ ap (λ (b : Action). map bare_action (map plain_action (take i ts)) ++ b ∷ []) is) ∙ label_same v s (map bare_action (map plain_action (take i ts)))

  pub no_label_here : (x : Name) (es : List Expression) → bare_action (plain_action t) ≡ act x es → action_in v s x es ≡ None → label_in v s (map bare_action (map plain_action ts)) ≡ None
  no_label_here x es is none =
      label_has_none v s (map bare_action (map plain_action ts)) i x es
      (slice_get-map bare_action (map plain_action ts) i ∙ (ap (option_map bare_action) (slice_get-map plain_action ts i ∙ ap (option_map plain_action) (slice_get_read ts (length ts) i t refl inside at)) ∙ ap (λ (b : Action). Some b) is)) none

  pub label_has_here : (x : Name) (es : List Expression) → bare_action (plain_action t) ≡ act x es → (m : Label) → label_in v s (map bare_action (map plain_action ts)) ≡ Some m → IsInLabel v s x es m
  label_has_here x es is m e =
      label_has v s (map bare_action (map plain_action ts)) i x es m
      (slice_get-map bare_action (map plain_action ts) i ∙ (ap (option_map bare_action) (slice_get-map plain_action ts i ∙ ap (option_map plain_action) (slice_get_read ts (length ts) i t refl inside at)) ∙ ap (λ (b : Action). Some b) is)) e

pub tau_bare : (t : ActionTree) → ((end : ℕ) (w : Word) (ds : ListedData) → t ≡ trees.Named end w ds → ⊥) → bare_action (plain_action t) ≡ tau
tau_bare (trees.Tau span) other = refl
tau_bare (trees.Named end w ds) other = absurd (other end w ds refl)

pub single_bare : (ts : List ActionTree) → length ts ≡ 1 → (t : ActionTree) → t ≡ get_or ts 0 t → map bare_action (map plain_action ts) ≡ bare_action (plain_action t) ∷ []
single_bare [] one t at = let never : ⊥ = omega (arith, one) in absurd never
single_bare (u ∷ []) one t at = ap (λ (x : ActionTree). bare_action (plain_action x) ∷ []) (sym at)
single_bare (u ∷ w ∷ ts) one t at = let never : ⊥ = omega (arith, one) in absurd never

-- what is assigned, where the process of the name has these parameters
pub assigned_here : (v : FullVocabulary) (s : Scope) (x : Name) (ds : List (Name × Expression)) → IsAssigned v s x ds → (k : ℕ) (ps : Parameters) → process_named v x ≡ Some (k, ps)
    → (are_assignments ps ds ≡ true) × (ts : List Term) × (assigned_in v.declared s ps ds ≡ Some ts)
assigned_here v s x ds is k ps found =
    let same : is.parameters ≡ ps = ap (λ (r : ℕ × Parameters). r.1) (same_Some (is.place, is.parameters) (k, ps) (sym is.process ∙ found)) in
    (ap (λ (qs : Parameters). are_assignments qs ds) (sym same) ∙ is.assignments, is.terms, ap (λ (qs : Parameters). assigned_in v.declared s qs ds) (sym same) ∙ is.values)
