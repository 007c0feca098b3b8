-- Terms that are put in fit, by what is listed for the variables.
use Rattle.std.proofs.Common.{◌≡◌, ⊎_elim, ℕ, List, [], ◌∷◌, cond, sym, ap, ◌∙◌, subst}
use Rattle.std.specs.Prelude.{slice_get}
use Rattle.std.specs.List.{All, Contains}
use Rattle.std.proofs.lemmas.Bool.Decides.{eqb_tells}
use Rattle.std.proofs.lemmas.List.Elements.{All-nil, All-cons, All-head, All-tail, All-weaker}
use Rattle.std.proofs.lemmas.Option.{get_or_from_slice_get}
use Rattle.data_theory.specs.declared.ids.SortId.{SortId}
use Rattle.data_theory.specs.declared.ids.VarId.{VarId}
use Rattle.data_theory.specs.declared.ids.TermId.{TermId}
use Rattle.data_theory.specs.declared.signature.Variable.{Variable}
use Rattle.data_theory.specs.Environments.{term_in, IsOver}
use Rattle.data_theory.specs.Signature.{Sig}
use Rattle.data_theory.specs.WholeSignatures.{IsSignature}
use Rattle.data_theory.specs.IdTrees.{Tree, put_tree}
use Rattle.data_theory.specs.IdTreeSorts.{IsVariableOf, HasTreeSort}
use Rattle.term_pool.specs.HeadTrees.{tree_at, IsIn, AreIn}
use Rattle.term_pool.specs.Bindings.{listed, listed_terms}
use Rattle.term_pool.specs.TermSorts.{HaveVariableSorts}
use Rattle.term_pool.proofs.Lists.{contains_none, contains_cons}
use Rattle.process_terms.specs.PlainProcesses.{PlainAction}
use Rattle.process_terms.specs.SignatureEntries.{entries_of}
use Rattle.process_terms.specs.Meanings.{term_at, ReadsOnly}
use Rattle.lps_core.specs.Fitting.{IsVariable, sort_of_variable}
use Rattle.lps_core.specs.TreeSummands.{IsActionIn, TreeAction, trees_of_action, trees_of_label, put_in_action, put_actions, numbers_of}
use Rattle.proc_unfold.specs.FittingModels.{TermFits, TermsFit, ActionFits}
use Rattle.proc_unfold.specs.PutTerms.{ArePut}
use Rattle.proc_unfold.proofs.PutBodies.{env_of}
use Rattle.proc_unfold.proofs.PutFits.{Covers, terms_fit}
use Rattle.greibach.specs.FittingPlaces.{AreAmong}
use Rattle.greibach.specs.ListedVariables.{listed_variables}
use Rattle.greibach.specs.Surroundings.{BindingFits}

-- ---- what is listed
pub listed_within : (g : Sig) (ts : List Tree) (xs : List VarId) (by : List (VarId × TermId)) → All (BindingFits g ts xs) by → AreIn ts (listed_terms by)
listed_within g ts xs [] h = All-nil (IsIn ts)
listed_within g ts xs (p ∷ by) h = All-cons (IsIn ts) p.1 (listed_terms by) (All-head (BindingFits g ts xs) p by h).term.term.within (listed_within g ts xs by (All-tail (BindingFits g ts xs) p by h))

sort_told : (g : Sig) (x : VarId) (s : SortId) → IsVariable g x → IsVariableOf g x s → sort_of_variable g x ≡ s
sort_told g x s k v = ap (λ (z : Variable). z.sort) (get_or_from_slice_get g.variables x.0 v.0 _ v.1) ∙ v.2

listed_sorted : (g : Sig) (ts : List Tree) (xs : List VarId) (by : List (VarId × TermId)) → All (BindingFits g ts xs) by → HaveVariableSorts g ts by
listed_sorted g ts xs by h = All-weaker (BindingFits g ts xs) (λ p. (s : SortId) → IsVariableOf g p.0 s → HasTreeSort g (tree_at ts p.1) s) (λ p k s v. subst (HasTreeSort g (tree_at ts p.1)) (sort_told g p.0 s k.variable v) k.term.term.sorted) by h

listed_over : (g : Sig) (ts : List Tree) (xs : List VarId) (by : List (VarId × TermId)) → All (BindingFits g ts xs) by → (v : ℕ) → Contains (numbers_of (listed_variables by)) v → IsOver (numbers_of xs) (term_in (env_of (entries_of g ts) by) v)
listed_over g ts xs [] h v i = absurd (contains_none v i)
listed_over g ts xs (p ∷ by) h v i = ⊎_elim
    (λ q. subst (λ c. IsOver (numbers_of xs) (cond c (term_at (entries_of g ts) p.1) (term_in (env_of (entries_of g ts) by) v))) (sym q.0) (All-head (BindingFits g ts xs) p by h).term.over)
    (λ q. subst (λ c. IsOver (numbers_of xs) (cond c (term_at (entries_of g ts) p.1) (term_in (env_of (entries_of g ts) by) v))) (sym q.0)
    (listed_over g ts xs by (All-tail (BindingFits g ts xs) p by h) v (⊎_elim (λ e. absurd (q.1 e)) (λ j. j) (contains_cons p.0.0 v (numbers_of (listed_variables by)) i))))
    (eqb_tells p.0.0 v)

-- ---- putting in
module _ (g : Sig) (sg : IsSignature g) (ts : List Tree) (by : List (VarId × TermId)) (ys : List VarId) (h : All (BindingFits g ts ys) by) (xs : List VarId) (covered : AreAmong xs (listed_variables by)) where
  covers : Covers g sg ts xs ys by
  covers v i = listed_over g ts ys by h v (covered v i)

  pub put_terms_fit : (ss : List SortId) (ids made : List TermId) → ArePut ts by ids made → TermsFit g ts xs ss ids → TermsFit g ts ys ss made
  put_terms_fit ss ids made put k = terms_fit g sg ts by (listed_within g ts ys by h) (listed_sorted g ts ys by h) xs ys covers ss ids made put k

  pub put_term_fits : (s : SortId) (id made : TermId) → IsIn ts made → tree_at ts made ≡ put_tree (listed ts by) (tree_at ts id) → TermFits g ts xs s id → TermFits g ts ys s made
  put_term_fits s id made w e k =
      let one = put_terms_fit (s ∷ []) (id ∷ []) (made ∷ []) (record {
        read = All-cons (IsIn ts) id [] k.term.within (All-nil (IsIn ts));
        within = All-cons (IsIn ts) made [] w (All-nil (IsIn ts));
        trees = ap (λ t. t ∷ []) e;
      }) (record {
        terms = record { within = All-cons (IsIn ts) id [] k.term.within (All-nil (IsIn ts)); sorted = (k.term.sorted, tt) };
        over = All-cons (ReadsOnly (entries_of g ts) xs) id [] k.over (All-nil (ReadsOnly (entries_of g ts) xs));
      }) in
      record { term = record { within = w; sorted = one.terms.sorted.0 }; over = All-head (ReadsOnly (entries_of g ts) ys) made [] one.over }

  put_action_fits : (a b : PlainAction) → b.act ≡ a.act → ArePut ts by a.args b.args → ActionFits g ts xs a → ActionFits g ts ys b
  put_action_fits a b same put k =
      let args = put_terms_fit k.action.key.sorts a.args b.args put (record { terms = k.action.args; over = k.over }) in
      record { action = record { key = k.action.key; stands = ap (λ n. slice_get g.actions n.0) same ∙ k.action.stands; args = args.terms }; over = args.over }

  pub put_label_fits : (m made : List PlainAction) → All (IsActionIn ts) m → All (IsActionIn ts) made → trees_of_label ts made ≡ put_actions (listed ts by) (trees_of_label ts m) → All (ActionFits g ts xs) m → All (ActionFits g ts ys) made
  put_label_fits m [] r w e k = All-nil (ActionFits g ts ys)
  put_label_fits [] (b ∷ made) r w e k = cc
  put_label_fits (a ∷ m) (b ∷ made) r w e k =
      let first : trees_of_action ts b ≡ put_in_action (listed ts by) (trees_of_action ts a) = cc in
      let rest : trees_of_label ts made ≡ put_actions (listed ts by) (trees_of_label ts m) = cc in
      All-cons (ActionFits g ts ys) b made
      (put_action_fits a b (ap (λ (z : TreeAction). z.act) first) (record { read = All-head (IsActionIn ts) a m r; within = All-head (IsActionIn ts) b made w; trees = ap (λ (z : TreeAction). z.args) first }) (All-head (ActionFits g ts xs) a m k))
      (put_label_fits m made (All-tail (IsActionIn ts) a m r) (All-tail (IsActionIn ts) b made w) rest (All-tail (ActionFits g ts xs) a m k))
