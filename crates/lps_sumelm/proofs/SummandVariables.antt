-- The variables of a summand's terms, in code and in what they mean.
use Rattle.std.proofs.Common.{◌≡◌, ◌⊎◌, inl, inr, ⊎_elim, ◌+◌, ◌<◌, ℕ, List, [], ◌∷◌, ◌++◌, map, take, length, get_or, refl, sym, ap, ◌∙◌, subst, append-nil, append_assoc, Option, Some, None}
use Rattle.std.specs.Global.{Global}
use Rattle.std.specs.Prelude.{◌↔◌, option_map, Vec, Result, Ok, Err, OnOk}
use Rattle.data_theory.specs.declared.no_memory.NoMemory.{NoMemory}
use Rattle.std.specs.List.{Contains}
use Rattle.std.proofs.lemmas.List.{take_more, map-append}
use Rattle.std.proofs.lemmas.List.Elements.{Contains-append_cases, Contains-append_left, Contains-append_right}
use Rattle.data_theory.specs.declared.ids.VarId.{VarId}
use Rattle.data_theory.specs.declared.ids.TermId.{TermId}
use Rattle.data_theory.specs.Terms.{variables_of, variables_of_all}
use Rattle.data_theory.specs.Environments.{terms_of}
use Rattle.data_theory.specs.Signature.{Sig}
use Rattle.data_theory.specs.IdTrees.{Tree, Trees, variable, numeral, function, none, more}
use Rattle.data_theory.specs.IdTerms.{term_under, terms_under}
use Rattle.term_pool.specs.HeadTrees.{tree_at, trees_at}
use Rattle.term_pool.proofs.Lists.{contains_none, contains_cons, contains_head, contains_tail}
use Rattle.process_terms.specs.PlainProcesses.{PlainAction, plain_action}
use Rattle.process_terms.specs.declared.labels.Action.{Action}
use Rattle.lps_core.specs.TreeSummands.{meant_action, trees_of_label}
use Rattle.lps_core.specs.PlainLinears.{PlainSummand, plain_next}
use Rattle.lps_sumelm.specs.OccurringVariables.{Occurs, OccursAmong, OccursIn, terms_of_label, terms_of_next, summand_terms}
use Rattle.lps_sumelm.specs.Solving.{action_variables, next_variables}

-- ---- what a term means has the variables that occur in its tree
mutual
  pub occurring : (g : Sig) (v : VarId) (t : Tree) → Occurs v t → Contains (variables_of (term_under g t)) v.0
  occurring g v (variable x) h = subst (λ z. Contains (x.0 ∷ []) z) (ap (λ (y : VarId). y.0) h) (contains_head x.0 [])
  occurring g v (numeral a z) h = absurd h
  occurring g v (function f ts) h = all_occurring g v ts h

  pub all_occurring : (g : Sig) (v : VarId) (ts : Trees) → OccursAmong v ts → Contains (variables_of_all (terms_under g ts)) v.0
  all_occurring g v none h = absurd h
  all_occurring g v (more t ts) h = ⊎_elim
      (λ k. Contains-append_left (variables_of (term_under g t)) (variables_of_all (terms_under g ts)) v.0 (occurring g v t k))
      (λ k. Contains-append_right (variables_of (term_under g t)) (variables_of_all (terms_under g ts)) v.0 (all_occurring g v ts k)) h

mutual
  pub occurs_there : (g : Sig) (v : VarId) (t : Tree) → Contains (variables_of (term_under g t)) v.0 → Occurs v t
  occurs_there g v (variable x) h = ⊎_elim (λ e. ap (λ (n : ℕ). record { 0 = n }) e) (λ j. absurd (contains_none v.0 j)) (contains_cons x.0 v.0 [] h)
  occurs_there g v (numeral a z) h = contains_none v.0 h
  occurs_there g v (function f ts) h = all_occur_there g v ts h

  pub all_occur_there : (g : Sig) (v : VarId) (ts : Trees) → Contains (variables_of_all (terms_under g ts)) v.0 → OccursAmong v ts
  all_occur_there g v none h = contains_none v.0 h
  all_occur_there g v (more t ts) h = ⊎_elim
      (λ k. inl (occurs_there g v t k))
      (λ k. inr (all_occur_there g v ts k))
      (Contains-append_cases (variables_of (term_under g t)) (variables_of_all (terms_under g ts)) v.0 h)

-- ---- lists of terms
module _ (ts : List Tree) where
  pub none_occurs : (v : VarId) → OccursIn ts [] v → ⊥
  none_occurs v h = contains_none h.0 h.1

  pub occurs_first : (xs ys : List TermId) (v : VarId) → OccursIn ts xs v → OccursIn ts (xs ++ ys) v
  occurs_first xs ys v h = (h.0, Contains-append_left xs ys h.0 h.1, h.2)

  pub occurs_behind : (xs ys : List TermId) (v : VarId) → OccursIn ts ys v → OccursIn ts (xs ++ ys) v
  occurs_behind xs ys v h = (h.0, Contains-append_right xs ys h.0 h.1, h.2)

  pub occurs_either : (xs ys : List TermId) (v : VarId) → OccursIn ts (xs ++ ys) v → OccursIn ts xs v ⊎ OccursIn ts ys v
  occurs_either xs ys v h = ⊎_elim (λ i. inl (h.0, i, h.2)) (λ i. inr (h.0, i, h.2)) (Contains-append_cases xs ys h.0 h.1)

  pub occurs_one : (id : TermId) (v : VarId) → OccursIn ts (id ∷ []) v → Occurs v (tree_at ts id)
  occurs_one id v h = ⊎_elim (λ e. subst (λ z. Occurs v (tree_at ts z)) (sym e) h.2) (λ i. absurd (contains_none h.0 i)) (contains_cons id h.0 [] h.1)

  pub one_occurs : (id : TermId) (v : VarId) → Occurs v (tree_at ts id) → OccursIn ts (id ∷ []) v
  one_occurs id v h = (id, contains_head id [], h)

  -- the set after some terms, and then after more
  pub occurs_more : (xs ys zs : List TermId) (old mid new : List VarId) → zs ≡ xs ++ ys → ((v : VarId) → Contains mid v ↔ (Contains old v ⊎ OccursIn ts xs v)) → ((v : VarId) → Contains new v ↔ (Contains mid v ⊎ OccursIn ts ys v))
      → (v : VarId) → Contains new v ↔ (Contains old v ⊎ OccursIn ts zs v)
  occurs_more xs ys zs old mid new e f h v = (
    λ k. ⊎_elim
        (λ m. ⊎_elim (λ o. inl o) (λ o. inr (subst (λ z. OccursIn ts z v) (sym e) (occurs_first xs ys v o))) ((f v).0 m))
        (λ o. inr (subst (λ z. OccursIn ts z v) (sym e) (occurs_behind xs ys v o))) ((h v).0 k),
    λ u. ⊎_elim
        (λ o. (h v).1 (inl ((f v).1 (inl o))))
        (λ o. ⊎_elim (λ i. (h v).1 (inl ((f v).1 (inr i)))) (λ i. (h v).1 (inr i)) (occurs_either xs ys v (subst (λ z. OccursIn ts z v) e o))) u,
  )

-- ---- labels
pub label_terms_append : (m n : List PlainAction) → terms_of_label (m ++ n) ≡ terms_of_label m ++ terms_of_label n
label_terms_append [] n = refl
label_terms_append (a ∷ m) n = ap (λ l. a.args ++ l) (label_terms_append m n) ∙ sym (append_assoc a.args (terms_of_label m) (terms_of_label n))

-- the terms of one action more
pub label_more : (items : List Action) (i : ℕ) (a : Action) → i < length items → a ≡ get_or items i a → terms_of_label (map plain_action (take (i + 1) items)) ≡ terms_of_label (map plain_action (take i items)) ++ a.args.items
label_more items i a l e =
    ap (λ z. terms_of_label (map plain_action z)) (take_more items i a l ∙ ap (λ z. take i items ++ z ∷ []) (sym e))
    ∙ ap terms_of_label (map-append plain_action (take i items) (a ∷ []))
    ∙ label_terms_append (map plain_action (take i items)) (plain_action a ∷ [])
    ∙ ap (λ l. terms_of_label (map plain_action (take i items)) ++ l) (append-nil a.args.items)

-- ---- what a summand means has the variables that occur in its terms
module _ (g : Sig) (ts : List Tree) where
  args_give : (ids : List TermId) (v : VarId) → OccursIn ts ids v → Contains (variables_of_all (terms_of (map (term_under g) (trees_at ts ids)))) v.0
  args_give [] v h = absurd (contains_none h.0 h.1)
  args_give (id ∷ ids) v h = ⊎_elim
      (λ e. Contains-append_left (variables_of (term_under g (tree_at ts id))) _ v.0 (occurring g v (tree_at ts id) (subst (λ z. Occurs v (tree_at ts z)) (sym e) h.2)))
      (λ i. Contains-append_right (variables_of (term_under g (tree_at ts id))) _ v.0 (args_give ids v (h.0, i, h.2)))
      (contains_cons id h.0 ids h.1)

  args_have : (ids : List TermId) (v : VarId) → Contains (variables_of_all (terms_of (map (term_under g) (trees_at ts ids)))) v.0 → OccursIn ts ids v
  args_have [] v h = absurd (contains_none v.0 h)
  args_have (id ∷ ids) v h = ⊎_elim
      (λ i. (id, contains_head id ids, occurs_there g v (tree_at ts id) i))
      (λ i. let r = args_have ids v i in (r.0, contains_tail id r.0 ids r.1, r.2))
      (Contains-append_cases (variables_of (term_under g (tree_at ts id))) (variables_of_all (terms_of (map (term_under g) (trees_at ts ids)))) v.0 h)

  label_gives : (m : List PlainAction) (v : VarId) → OccursIn ts (terms_of_label m) v → Contains (action_variables (map (meant_action g) (trees_of_label ts m))) v.0
  label_gives [] v h = absurd (contains_none h.0 h.1)
  label_gives (a ∷ m) v h = ⊎_elim
      (λ k. Contains-append_left (variables_of_all (terms_of (map (term_under g) (trees_at ts a.args)))) (action_variables (map (meant_action g) (trees_of_label ts m))) v.0 (args_give a.args v k))
      (λ k. Contains-append_right (variables_of_all (terms_of (map (term_under g) (trees_at ts a.args)))) (action_variables (map (meant_action g) (trees_of_label ts m))) v.0 (label_gives m v k))
      (occurs_either ts a.args (terms_of_label m) v h)

  label_has : (m : List PlainAction) (v : VarId) → Contains (action_variables (map (meant_action g) (trees_of_label ts m))) v.0 → OccursIn ts (terms_of_label m) v
  label_has [] v h = absurd (contains_none v.0 h)
  label_has (a ∷ m) v h = ⊎_elim
      (λ k. occurs_first ts a.args (terms_of_label m) v (args_have a.args v k))
      (λ k. occurs_behind ts a.args (terms_of_label m) v (label_has m v k))
      (Contains-append_cases (variables_of_all (terms_of (map (term_under g) (trees_at ts a.args)))) (action_variables (map (meant_action g) (trees_of_label ts m))) v.0 h)

  next_gives : (next : Option (List TermId)) (v : VarId) → OccursIn ts (terms_of_next next) v → Contains (next_variables (option_map (map (term_under g)) (option_map (trees_at ts) next))) v.0
  next_gives None v h = absurd (contains_none h.0 h.1)
  next_gives (Some ids) v h = args_give ids v h

  next_has : (next : Option (List TermId)) (v : VarId) → Contains (next_variables (option_map (map (term_under g)) (option_map (trees_at ts) next))) v.0 → OccursIn ts (terms_of_next next) v
  next_has None v h = absurd (contains_none v.0 h)
  next_has (Some ids) v h = args_have ids v h

  module _ (s : PlainSummand) where
    abbrev cs : List ℕ
    cs = variables_of (term_under g (tree_at ts s.condition))

    abbrev ls : List ℕ
    ls = action_variables (map (meant_action g) (trees_of_label ts s.label))

    abbrev ns : List ℕ
    ns = next_variables (option_map (map (term_under g)) (option_map (trees_at ts) s.next))

    pub summand_gives : (v : VarId) → OccursIn ts (summand_terms s) v → Contains (cs ++ (ls ++ ns)) v.0
    summand_gives v h = ⊎_elim
        (λ k. Contains-append_left cs (ls ++ ns) v.0 (occurring g v (tree_at ts s.condition) (occurs_one ts s.condition v k)))
        (λ k. Contains-append_right cs (ls ++ ns) v.0 (⊎_elim
        (λ i. Contains-append_left ls ns v.0 (label_gives s.label v i))
        (λ i. Contains-append_right ls ns v.0 (next_gives s.next v i))
        (occurs_either ts (terms_of_label s.label) (terms_of_next s.next) v k)))
        (occurs_either ts (s.condition ∷ []) (terms_of_label s.label ++ terms_of_next s.next) v h)

    pub summand_has : (v : VarId) → Contains (cs ++ (ls ++ ns)) v.0 → OccursIn ts (summand_terms s) v
    summand_has v h = ⊎_elim
        (λ k. occurs_first ts (s.condition ∷ []) (terms_of_label s.label ++ terms_of_next s.next) v (one_occurs ts s.condition v (occurs_there g v (tree_at ts s.condition) k)))
        (λ k. occurs_behind ts (s.condition ∷ []) (terms_of_label s.label ++ terms_of_next s.next) v (⊎_elim
        (λ i. occurs_first ts (terms_of_label s.label) (terms_of_next s.next) v (label_has s.label v i))
        (λ i. occurs_behind ts (terms_of_label s.label) (terms_of_next s.next) v (next_has s.next v i))
        (Contains-append_cases ls ns v.0 k)))
        (Contains-append_cases cs (ls ++ ns) v.0 h)

-- ---- loops over a label
module _ (ts : List Tree) where
  pub occurs_at_start : (old : List VarId) (v : VarId) → Contains old v ↔ (Contains old v ⊎ OccursIn ts [] v)
  occurs_at_start old v = (λ k. inl k, λ u. ⊎_elim (λ k. k) (λ k. absurd (none_occurs ts v k)) u)

  pub occurs_in_more : (items : List Action) (i : ℕ) (a : Action) (args : List TermId) (old mid new : List VarId) → i < length items → a ≡ get_or items i a → args ≡ a.args.items
      → ((v : VarId) → Contains mid v ↔ (Contains old v ⊎ OccursIn ts (terms_of_label (map plain_action (take i items))) v)) → ((v : VarId) → Contains new v ↔ (Contains mid v ⊎ OccursIn ts args v))
      → (v : VarId) → Contains new v ↔ (Contains old v ⊎ OccursIn ts (terms_of_label (map plain_action (take (i + 1) items))) v)
  occurs_in_more items i a args old mid new l e q f h =
      occurs_more ts (terms_of_label (map plain_action (take i items))) a.args.items (terms_of_label (map plain_action (take (i + 1) items))) old mid new (label_more items i a l e) f
      (subst (λ z. (v : VarId) → Contains new v ↔ (Contains mid v ⊎ OccursIn ts z v)) q h)

  pub occurs_in_all : (items taken all : List Action) (old new : List VarId) → taken ≡ items → items ≡ all → ((v : VarId) → Contains new v ↔ (Contains old v ⊎ OccursIn ts (terms_of_label (map plain_action taken)) v))
      → (v : VarId) → Contains new v ↔ (Contains old v ⊎ OccursIn ts (terms_of_label (map plain_action all)) v)
  occurs_in_all items taken all old new q r h = subst (λ z. (v : VarId) → Contains new v ↔ (Contains old v ⊎ OccursIn ts (terms_of_label (map plain_action z)) v)) (q ∙ r) h

  -- the three parts of a summand
  pub occurs_in_each : (s : PlainSummand) (empty one two three : List VarId) → empty ≡ [] → ((v : VarId) → Contains one v ↔ (Contains empty v ⊎ OccursIn ts (s.condition ∷ []) v)) → ((v : VarId) → Contains two v ↔ (Contains one v ⊎ OccursIn ts (terms_of_label s.label) v))
      → ((v : VarId) → Contains three v ↔ (Contains two v ⊎ OccursIn ts (terms_of_next s.next) v)) → (v : VarId) → Contains three v ↔ OccursIn ts (summand_terms s) v
  occurs_in_each s empty one two three e f g h v =
      let k = occurs_more ts (s.condition ∷ []) (terms_of_label s.label) (s.condition ∷ terms_of_label s.label) empty one two refl f g in
      let m = occurs_more ts (s.condition ∷ terms_of_label s.label) (terms_of_next s.next) (summand_terms s) empty two three refl k h v in (
        λ i. ⊎_elim (λ j. absurd (contains_none v (subst (λ z. Contains z v) e j))) (λ j. j) (m.0 i),
        λ i. m.1 (inr i),
      )

  pub occurs_in_one : (id : TermId) (empty new : List VarId) → empty ≡ [] → ((v : VarId) → Contains new v ↔ (Contains empty v ⊎ OccursIn ts (id ∷ []) v)) → (v : VarId) → Contains new v ↔ Occurs v (tree_at ts id)
  occurs_in_one id empty new e h v = (
    λ i. ⊎_elim (λ j. absurd (contains_none v (subst (λ z. Contains z v) e j))) (λ j. occurs_one ts id v j) ((h v).0 i),
    λ o. (h v).1 (inr (one_occurs ts id v o)),
  )

  -- next terms in code
  pub occurs_in_next : (next : Option (Vec TermId Global)) (terms : Vec TermId Global) (args : List TermId) (old new : List VarId) → next ≡ Some terms → args ≡ terms.items → ((v : VarId) → Contains new v ↔ (Contains old v ⊎ OccursIn ts args v))
      → (v : VarId) → Contains new v ↔ (Contains old v ⊎ OccursIn ts (terms_of_next (plain_next next)) v)
  occurs_in_next next terms args old new e q h =
      subst (λ o. (v : VarId) → Contains new v ↔ (Contains old v ⊎ OccursIn ts (terms_of_next (plain_next o)) v)) (sym e) (subst (λ z. (v : VarId) → Contains new v ↔ (Contains old v ⊎ OccursIn ts z v)) q h)

  pub refused : (o : Result (Unit {0}) NoMemory) (P Q : Type 0) → (P → Q) → OnOk o P → OnOk o Q
  refused (Ok x) P Q w h = w h
  refused (Err e) P Q w h = tt
