-- The walk over the variables of a term.
use Rattle.std.proofs.Common.{◌≡◌, ℕ, ◌<◌, ◌⊎◌, inl, inr, ⊎_elim, List, [], ◌∷◌, ◌++◌, refl, sym, ap, ap₂, ◌∙◌, subst, arith, append_assoc, append-nil}
use Rattle.std.specs.Prelude.{◌↔◌}
use Rattle.std.specs.List.{All, Contains}
use Rattle.std.proofs.lemmas.List.Elements.{All-nil, All-cons, All-head, All-tail, All-append, All-weaker}
use Rattle.data_theory.specs.declared.ids.TermId.{TermId}
use Rattle.data_theory.specs.declared.ids.VarId.{VarId}
use Rattle.data_theory.specs.Terms.{variables_of, variables_of_all}
use Rattle.data_theory.specs.Environments.{AreDistinct}
use Rattle.data_theory.specs.Signature.{Sig}
use Rattle.data_theory.specs.IdTerms.{term_under, terms_under}
use Rattle.data_theory.specs.IdTrees.{Tree, Trees, variable, numeral, function, none, more, trees_of}
use Rattle.data_theory.proofs.EnvironmentLemmas.{contains_first, contains_later, contains_cases, contains_nothing}
use Rattle.term_pool.specs.declared.terms.Head.{Head}
use Rattle.term_pool.specs.declared.terms.Head.TheVariants.{Var, Num as Number, Fun}
use Rattle.term_pool.specs.HeadTrees.{tree_at, trees_at, written_tree, Stands, IsIn}
use Rattle.eqn_check.specs.Linear.{variables_in, variables_in_all, variables_in_terms, IsWalked}
use Rattle.eqn_check.proofs.Elements.{contains_nothing_of}
use Rattle.eqn_check.proofs.Matching.{distinct_parts}

-- the variables of a tree are those of its term
mutual
  pub variables_meant : (sig : Sig) (t : Tree) → variables_of (term_under sig t) ≡ variables_in t
  variables_meant sig (variable v) = refl
  variables_meant sig (numeral s z) = refl
  variables_meant sig (function f ts) = all_variables_meant sig ts

  all_variables_meant : (sig : Sig) (ts : Trees) → variables_of_all (terms_under sig ts) ≡ variables_in_all ts
  all_variables_meant sig none = refl
  all_variables_meant sig (more t ts) = ap₂ (λ (x y : List ℕ). x ++ y) (variables_meant sig t) (all_variables_meant sig ts)

module _ (ts : List Tree) where
  terms_both : (xs ys : List TermId) → variables_in_terms ts (xs ++ ys) ≡ variables_in_terms ts xs ++ variables_in_terms ts ys
  terms_both [] ys = refl
  terms_both (x ∷ xs) ys = ap (λ (l : List ℕ). variables_in (tree_at ts x) ++ l) (terms_both xs ys) ∙ sym (append_assoc (variables_in (tree_at ts x)) (variables_in_terms ts xs) (variables_in_terms ts ys))

  of_arguments : (ids : List TermId) → variables_in_all (trees_of (trees_at ts ids)) ≡ variables_in_terms ts ids
  of_arguments [] = refl
  of_arguments (x ∷ ids) = ap (λ (l : List ℕ). variables_in (tree_at ts x) ++ l) (of_arguments ids)

  -- a term's variables are those of its arguments, unless it is a variable
  of_head : (h : Head) (args : List TermId) → Stands h args → ((v : VarId) → h ≡ Var v → ⊥) → variables_in (written_tree h (trees_at ts args)) ≡ variables_in_terms ts args
  of_head (Var v) args s n = absurd (n v refl)
  of_head (Number a z) args s n = sym (ap (variables_in_terms ts) s.0)
  of_head (Fun f) args s n = of_arguments args

  last_alone : (x : TermId) → variables_in_terms ts (x ∷ []) ≡ variables_in (tree_at ts x)
  last_alone x = append-nil (variables_in (tree_at ts x))

  left_of : (xs ys : List TermId) → All (IsIn ts) (xs ++ ys) → All (IsIn ts) xs
  left_of [] ys h = All-nil (IsIn ts)
  left_of (x ∷ xs) ys h = All-cons (IsIn ts) x xs (All-head (IsIn ts) x (xs ++ ys) h) (left_of xs ys (All-tail (IsIn ts) x (xs ++ ys) h))

  right_of : (xs ys : List TermId) → All (IsIn ts) (xs ++ ys) → All (IsIn ts) ys
  right_of [] ys h = h
  right_of (x ∷ xs) ys h = right_of xs ys (All-tail (IsIn ts) x (xs ++ ys) h)

  module _ (term : TermId) where
    pub first_walk : (waiting : List TermId) (seen : List VarId) → waiting ≡ term ∷ [] → seen ≡ [] → IsIn ts term → IsWalked ts term waiting seen
    first_walk waiting seen e f i = subst (λ (w : List TermId). IsWalked ts term w seen) (sym e) (subst (λ (s : List VarId). IsWalked ts term (term ∷ []) s) (sym f) (record {
      behind = [];
      whole = sym (append-nil (variables_in_terms ts (term ∷ [])) ∙ last_alone term);
      differ = tt;
      seen_are = λ v. ((λ c. absurd (contains_nothing_of v c)), (λ c. absurd (contains_nothing v.0 c)));
      within = All-cons (IsIn ts) term [] i (All-nil (IsIn ts));
    }))

    module _ (waiting rest : List TermId) (next : TermId) (seen : List VarId) (walked : IsWalked ts term waiting seen) (popped : waiting ≡ rest ++ next ∷ []) where
      pub popped_in : IsIn ts next
      popped_in = All-head (IsIn ts) next [] (right_of rest (next ∷ []) (subst (All (IsIn ts)) popped walked.within))

      rest_in : All (IsIn ts) rest
      rest_in = left_of rest (next ∷ []) (subst (All (IsIn ts)) popped walked.within)

      whole_now : variables_in (tree_at ts term) ≡ variables_in_terms ts rest ++ (variables_in (tree_at ts next) ++ walked.behind)
      whole_now = walked.whole ∙ (ap (λ (w : List TermId). variables_in_terms ts w ++ walked.behind) popped ∙ (ap (λ (l : List ℕ). l ++ walked.behind) (terms_both rest (next ∷ []) ∙ ap (λ (l : List ℕ). variables_in_terms ts rest ++ l) (last_alone next)) ∙ append_assoc (variables_in_terms ts rest) (variables_in (tree_at ts next)) walked.behind))

      -- its arguments wait then
      pub arguments_wait : (h : Head) (args now : List TermId) → tree_at ts next ≡ written_tree h (trees_at ts args) → Stands h args → ((v : VarId) → h ≡ Var v → ⊥) → All (λ (arg : TermId). arg.0 < next.0) args → now ≡ rest ++ args → IsWalked ts term now seen
      arguments_wait h args now is stands n below e = subst (λ (w : List TermId). IsWalked ts term w seen) (sym e) (record {
        behind = walked.behind;
        whole = whole_now ∙ (ap (λ (l : List ℕ). variables_in_terms ts rest ++ (l ++ walked.behind)) (ap variables_in is ∙ of_head h args stands n) ∙ (sym (append_assoc (variables_in_terms ts rest) (variables_in_terms ts args) walked.behind) ∙ ap (λ (l : List ℕ). l ++ walked.behind) (sym (terms_both rest args))));
        differ = walked.differ;
        seen_are = walked.seen_are;
        within = All-append (IsIn ts) rest args rest_in (All-weaker (λ (arg : TermId). arg.0 < next.0) (IsIn ts) (λ arg l. omega (arith, l, popped_in)) args below);
      })

      module _ (v : VarId) (args : List Tree) (is : tree_at ts next ≡ written_tree (Var v) args) where
        one_variable : variables_in (tree_at ts term) ≡ variables_in_terms ts rest ++ (v.0 ∷ walked.behind)
        one_variable = whole_now ∙ ap (λ (t : Tree). variables_in_terms ts rest ++ (variables_in t ++ walked.behind)) is

        pub stands_twice : Contains seen v → AreDistinct (variables_in (tree_at ts term)) → ⊥
        stands_twice c d = (distinct_parts (variables_in_terms ts rest) (v.0 ∷ walked.behind) (subst AreDistinct one_variable d)).1.0 ((walked.seen_are v).0 c)

        pub one_more_seen : (Contains seen v → ⊥) → (now : List VarId) → ((w : VarId) → Contains now w ↔ (Contains seen w ⊎ (v ≡ w))) → IsWalked ts term rest now
        one_more_seen n now has = record {
          behind = v.0 ∷ walked.behind;
          whole = one_variable;
          differ = ((λ c. n ((walked.seen_are v).1 c)), walked.differ);
          seen_are = λ w. (
            (λ c. ⊎_elim (λ i. contains_later v.0 w.0 walked.behind ((walked.seen_are w).0 i)) (λ s. subst (λ (z : VarId). Contains (v.0 ∷ walked.behind) z.0) s (contains_first v.0 walked.behind)) ((has w).0 c)),
            (λ c. (has w).1 (⊎_elim (λ s. inr (λ i. record { 0 = s i })) (λ i. inl ((walked.seen_are w).1 i)) (contains_cases v.0 w.0 walked.behind c))),
          );
          within = rest_in;
        }

    pub walked_whole : (waiting : List TermId) (seen : List VarId) → IsWalked ts term waiting seen → waiting ≡ [] → AreDistinct (variables_in (tree_at ts term))
    walked_whole waiting seen w e = subst AreDistinct (sym (w.whole ∙ ap (λ (l : List TermId). variables_in_terms ts l ++ w.behind) e)) w.differ
