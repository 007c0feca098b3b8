-- A form of one equation keeps its parameters, its initial terms and its summands.
use Rattle.std.proofs.Common.{◌≡◌, ◌-◌, ◌<◌, ◌⊎◌, inl, inr, ⊎_elim, ℕ, cond, List, [], ◌∷◌, ◌++◌, map, length, refl, sym, ap, ap₂, ◌∙◌, subst, arith, None, Some}
use Rattle.std.specs.Prelude.{slice_get, option_to_list}
use Rattle.std.specs.List.{All, AllZip, Contains}
use Rattle.std.proofs.lemmas.Bool.Decides.{eqb_tells}
use Rattle.std.proofs.lemmas.List.{append-nil, length-map, map-append}
use Rattle.std.proofs.lemmas.Option.{slice_get_within}
use Rattle.std.proofs.lemmas.List.Elements.{All-nil, All-head, All-tail, All-push, All-weaker, All-contains, Contains-append_left, Contains-append_right}
use Rattle.data_theory.specs.declared.ids.NameId.{NameId}
use Rattle.data_theory.specs.declared.ids.SortId.{SortId}
use Rattle.data_theory.specs.declared.ids.VarId.{VarId}
use Rattle.data_theory.specs.declared.ids.TermId.{TermId}
use Rattle.data_theory.specs.declared.signature.Variable.{Variable}
use Rattle.data_theory.specs.Environments.{AreDistinct}
use Rattle.data_theory.specs.Signature.{Sig, with_variable}
use Rattle.data_theory.specs.IdTrees.{Tree, variable, put_tree}
use Rattle.data_theory.specs.IdTerms.{IsGrown}
use Rattle.data_theory.specs.WholeSignatures.{IsSignature}
use Rattle.data_theory.proofs.IdGrowthLemmas.{growth_after_growth_is_growth}
use Rattle.data_theory.proofs.EnvironmentLemmas.{contains_first as number_first, contains_later as number_later}
use Rattle.term_pool.specs.HeadTrees.{tree_at, trees_at}
use Rattle.term_pool.specs.Pools.{PoolContents}
use Rattle.bisim_laws.proofs.Firing.{contains_cases, contains_none}
use Rattle.lps_core.specs.Fitting.{AreTermsOf, sort_of_variable}
use Rattle.lps_core.specs.Naming.{name_of, names_of, function_names}
use Rattle.lps_core.specs.PlainLinears.{PlainLinear}
use Rattle.lps_core.specs.TreeConditions.{conjunction_tree, tree_parts, trees_without_true}
use Rattle.lps_core.specs.TreeSummands.{numbers_of, bound_tree, trees_of_label, put_actions, renaming_tree}
use Rattle.lps_core.proofs.FunctionNames.{functions_taken}
use Rattle.lps_core.proofs.Members.{contains_map, all_at}
use Rattle.lps_core.proofs.NamedSums.{last_variable, names_kept, all_front, all_last, zip_push}
use Rattle.lps_core.proofs.PoolTrees.{extends_on, trees_kept}
use Rattle.greibach.specs.PlainForms.{PlainFormSummand, PlainEquation, PlainForm}
use Rattle.greibach.specs.FittingForms.{CallFits, FormSummandFits, EquationFits, FormFits}
use Rattle.regular_encoder.specs.TreeEncoding.{PlainLayout, place_at, tree_control_of, tree_control_parts, tree_encoded, tree_encoded_next}
use Rattle.regular_encoder.specs.WholeEncoding.{equation_encoded, trees_encoded_from}
use Rattle.regular_encoder.specs.FormColumns.{kind_of, column_kinds, IsOwnName, the_name, a_new_name, IsColumn, a_column, AreColumns, no_column, one_more_column}
use Rattle.regular_encoder.specs.EncodedForms.{IsEncodedForm, called_with, kept_summand, KeepsItsName, OneEquationIsKept}
use Rattle.regular_encoder.proofs.NewColumns.{fresh_stands, KindsStand, columns_stand, column_stands}
use Rattle.regular_encoder.proofs.FirstTerms.{some_is}
use Rattle.regular_encoder.proofs.FormsInPlace.{terms_long}
use Rattle.regular_encoder.proofs.LaidOutForms as laid_out
use Rattle.regular_encoder.proofs.LaidOutForms.{kinds_stand}
use Rattle.regular_encoder.proofs.OneEquation.{kind_names, names_of_kinds, one_equation_keeps_its_parameters}

-- ---- columns read their own arguments
skipped : (c : VarId) (u : Tree) (cs : List VarId) (us : List Tree) (xs : List VarId) → (Contains (numbers_of xs) c.0 → ⊥) → map (bound_tree (c ∷ cs) (u ∷ us)) xs ≡ map (bound_tree cs us) xs
skipped c u cs us [] n = refl
skipped c u cs us (x ∷ xs) n = ⊎_elim
    (λ q. absurd (n (subst (λ z. Contains (numbers_of (x ∷ xs)) z) (sym q.1) (number_first x.0 (numbers_of xs)))))
    (λ q. ap₂ (λ y ys. y ∷ ys) (ap (λ b. cond b u (bound_tree cs us x)) q.0) (skipped c u cs us xs (λ i. n (number_later x.0 c.0 (numbers_of xs) i))))
    (eqb_tells c.0 x.0)

columns_read : (cs : List VarId) (us : List Tree) → length cs ≡ length us → AreDistinct (numbers_of cs) → map (bound_tree cs us) cs ≡ us
columns_read [] [] l d = refl
columns_read [] (u ∷ us) l d = absurd (omega (arith, l))
columns_read (c ∷ cs) [] l d = absurd (omega (arith, l))
columns_read (c ∷ cs) (u ∷ us) l d = ap₂ (λ y ys. y ∷ ys)
    (⊎_elim (λ q. ap (λ b. cond b u (bound_tree cs us c)) q.0) (λ q. absurd (q.1 refl)) (eqb_tells c.0 c.0))
    (skipped c u cs us cs d.0 ∙ columns_read cs us (omega (arith, l)) d.1)

-- ---- the summands
module _ (g : Sig) (ts : List Tree) (f : PlainForm) (e : PlainEquation) (l : PlainLayout) (one : f.equations ≡ e ∷ []) (alone : l.control ≡ None) (place : place_at l 1 ≡ l.columns) (distinct : AreDistinct (numbers_of l.columns)) (long : length l.columns ≡ length e.params) where
  abbrev moves : VarId → Tree
  moves = renaming_tree e.params l.columns

  only_call : (c : ℕ × List TermId) → CallFits g ts f c → (c.0 ≡ 1) × (length c.1 ≡ length e.params)
  only_call c k =
      let at : slice_get (e ∷ []) (c.0 - 1) ≡ Some k.equation = subst (λ qs. slice_get qs (c.0 - 1) ≡ Some k.equation) one k.stands in
      let within = slice_get_within (e ∷ []) (c.0 - 1) k.equation at in
      let from_one = k.from_one in
      let first : c.0 ≡ 1 = omega (arith, within, from_one) in
      let is : e ≡ k.equation = some_is (subst (λ n. slice_get (e ∷ []) (n - 1) ≡ Some k.equation) first at) in
      (first, terms_long g ts e.params c.1 (subst (λ (q : PlainEquation). AreTermsOf g ts (map (sort_of_variable g) q.params) c.1) (sym is) k.args))

  next_kept : (cs : List (ℕ × List TermId)) → All (CallFits g ts f) cs → tree_encoded_next l moves ts cs ≡ called_with moves ts cs
  next_kept [] k = refl
  next_kept (c ∷ cs) k =
      let own = only_call c (All-head (CallFits g ts f) c cs k) in
      let us = map (put_tree moves) (trees_at ts c.1) in
      let at : place_at l c.0 ≡ l.columns = ap (place_at l) own.0 ∙ place in
      let many : length l.columns ≡ length us = long ∙ sym own.1 ∙ sym (length-map c.1 (tree_at ts)) ∙ sym (length-map (trees_at ts c.1) (put_tree moves)) in
      ap Some (ap₂ (λ o p. tree_control_of o c.0 ++ map (bound_tree p us) l.columns) alone at ∙ columns_read l.columns us many distinct)

  summand_kept : (s : PlainFormSummand) → FormSummandFits g ts f s → tree_encoded l 1 moves ts s ≡ kept_summand moves ts s
  summand_kept s k =
      ap₂ (λ o n. record { sums = s.sums; condition = conjunction_tree (tree_control_parts o 1 ++ trees_without_true (tree_parts (put_tree moves (tree_at ts s.condition)))); label = put_actions moves (trees_of_label ts s.label); next = n })
      alone (next_kept s.next k.next)

  summands_kept : (ss : List PlainFormSummand) → All (FormSummandFits g ts f) ss → map (tree_encoded l 1 moves ts) ss ≡ map (kept_summand moves ts) ss
  summands_kept [] k = refl
  summands_kept (s ∷ ss) k = ap₂ (λ y ys. y ∷ ys) (summand_kept s (All-head (FormSummandFits g ts f) s ss k)) (summands_kept ss (All-tail (FormSummandFits g ts f) s ss k))

  equation_kept : EquationFits g ts f e → trees_encoded_from l 1 ts f.equations ≡ map (kept_summand moves ts) e.summands
  equation_kept k =
      ap (trees_encoded_from l 1 ts) one
      ∙ append-nil (equation_encoded l 1 ts e)
      ∙ ap (λ p. map (tree_encoded l 1 (bound_tree e.params (map variable p)) ts) e.summands) place
      ∙ summands_kept e.summands k.summands

-- ---- the names
pub distinct_front : (xs ys : List ℕ) → AreDistinct (xs ++ ys) → AreDistinct xs
distinct_front [] ys d = tt
distinct_front (x ∷ xs) ys d = (λ i. d.0 (Contains-append_left xs ys x i), distinct_front xs ys d.1)

pub distinct_last : (xs : List ℕ) (x : ℕ) → AreDistinct (xs ++ x ∷ []) → Contains xs x → ⊥
distinct_last [] x d i = contains_none x i
distinct_last (y ∷ xs) x d i = ⊎_elim
    (λ q. d.0 (subst (λ z. Contains (xs ++ x ∷ []) z) (sym q) (Contains-append_right xs (x ∷ []) x (number_first x []))))
    (λ j. distinct_last xs x d.1 j)
    (contains_cases y x xs i)

-- the columns so far have their names, or others that weren't taken
abbrev HasItsName : Sig → NameId × SortId → NameId → Type 0
HasItsName g k n = ¬ (Contains (function_names g) k.0) → n ≡ k.0

abbrev IsKnownOrNew : Sig → List (NameId × SortId) → NameId → Type 0
IsKnownOrNew g ks n = Contains (kind_names ks) n.0 ⊎ ¬ (Contains g.taken n)

pub record KeepNames (g : Sig) (ks : List (NameId × SortId)) (ns : List NameId) : Type 0 where
  pub own : AllZip (HasItsName g) ks ns
  pub others : All (IsKnownOrNew g ks) ns

one_name : (g h i : Sig) (P : NameId → Type 0) (ks : List (NameId × SortId)) (ns : List NameId) (k : NameId × SortId) (c : VarId) → IsSignature h → ((n : NameId) → Contains g.taken n → Contains h.taken n) → Contains g.taken k.0
    → (¬ (Contains (kind_names ks) k.0.0)) → (P k.0 → Contains (function_names g) k.0 ⊎ Contains ns k.0) → KeepNames g ks ns → IsColumn P h k i c → HasItsName g k (name_of i c) × IsKnownOrNew g (ks ++ k ∷ []) (name_of i c)
one_name g h _ P ks ns k _ s more taken apart used old (a_column {h = j} {name = name} own) =
    let v : Variable = record { name = name; sort = k.1 } in
    let named : name_of (with_variable j v) (record { 0 = length j.variables }) ≡ name = ap (λ (y : Variable). y.name) (last_variable j v (record { name = record { 0 = 0 }; sort = record { 0 = 0 } })) in
    subst (λ n. HasItsName g k n × IsKnownOrNew g (ks ++ k ∷ []) n) (sym named) (by_name j name own)
  where
    by_name : (j : Sig) (name : NameId) → IsOwnName P h k.0 j name → HasItsName g k name × IsKnownOrNew g (ks ++ k ∷ []) name
    by_name _ _ (the_name u) =
        (λ f. refl, inl (subst (λ ms. Contains ms k.0.0) (sym (map-append (λ (m : NameId × SortId). m.0.0) ks (k ∷ []))) (Contains-append_right (kind_names ks) (k.0.0 ∷ []) k.0.0 (number_first k.0.0 []))))
    by_name _ _ (a_new_name {h = j} {base = base} {name = name} i at fresh) =
        (λ f. ⊎_elim (λ x. absurd (f x)) (λ x. ⊎_elim (λ y. absurd (apart y)) (λ y. absurd (y taken)) (All-contains (IsKnownOrNew g ks) ns k.0 old.others x)) (used i), inr (λ t. (fresh_stands h j (λ z. Contains h.taken z) base name s (λ z x. x) fresh).unused (more name t)))

names_kept_from : (g : Sig) → IsSignature g → (ks : List (NameId × SortId)) (h : Sig) (cs : List VarId) → AreColumns g ks h cs → KindsStand g ks → AreDistinct (kind_names ks) → KeepNames g ks (names_of h cs)
names_kept_from g s _ _ _ no_column w d = record { own = tt; others = All-nil (IsKnownOrNew g []) }
names_kept_from g s _ i _ (one_more_column {ks = ks} {cs = cs} {h = h} {k = k} {c = c} a n) w d =
    let front : KindsStand g ks = record { taken = all_front (λ (k : NameId × SortId). Contains g.taken k.0) ks k w.taken; sorts = all_front (λ (k : NameId × SortId). k.1.0 < length g.sorts) ks k w.sorts } in
    let taken = all_last (λ (k : NameId × SortId). Contains g.taken k.0) ks k w.taken in
    let sort = all_last (λ (k : NameId × SortId). k.1.0 < length g.sorts) ks k w.sorts in
    let split : kind_names (ks ++ k ∷ []) ≡ kind_names ks ++ k.0.0 ∷ [] = map-append (λ (m : NameId × SortId). m.0.0) ks (k ∷ []) in
    let different : AreDistinct (kind_names ks ++ k.0.0 ∷ []) = subst AreDistinct split d in
    let r = columns_stand g s (functions_taken g s) ks h cs a front in
    let P : NameId → Type 0 = λ n. Contains (function_names g) n ⊎ Contains (names_of h cs) n in
    let m = column_stands P h k i c r.0.stands
    (λ z u. ⊎_elim (λ j. r.0.taken z (functions_taken g s z j)) (λ j. let p = contains_map (name_of h) cs z j in subst (λ y. Contains h.taken y) (sym p.1.1) (All-contains (λ c. Contains h.taken (name_of h c)) cs p.0 r.1.taken p.1.0)) u)
    (r.0.taken k.0 taken) (subst (λ ss. k.1.0 < length ss) (sym r.0.sorts) sort) n in
    let old = names_kept_from g s ks h cs a front (distinct_front (kind_names ks) (k.0.0 ∷ []) different) in
    let new = one_name g h i P ks (names_of h cs) k c r.0.stands r.0.taken taken (distinct_last (kind_names ks) k.0.0 different) (λ u. u) old n in
    let names : names_of i (cs ++ c ∷ []) ≡ names_of h cs ++ name_of i c ∷ [] = map-append (name_of i) cs (c ∷ []) ∙ ap (λ ns. ns ++ name_of i c ∷ []) (names_kept h i cs m.on.grown r.1.variables) in
    subst (λ ns. KeepNames g (ks ++ k ∷ []) ns) (sym names) (record {
      own = zip_push (HasItsName g) ks (names_of h cs) k (name_of i c) old.own new.0;
      others = All-push (IsKnownOrNew g (ks ++ k ∷ [])) (names_of h cs) (name_of i c)
          (All-weaker (IsKnownOrNew g ks) (IsKnownOrNew g (ks ++ k ∷ [])) (λ n o. ⊎_elim (λ j. inl (subst (λ ms. Contains ms n.0) (sym split) (Contains-append_left (kind_names ks) (k.0.0 ∷ []) n.0 j))) (λ j. inr j) o) (names_of h cs) old.others) new.1;
    })

zip_unmapped : {A B C D : Type 0} (R : C → D → Type 0) (f : A → C) (k : B → D) (xs : List A) (ys : List B) → AllZip R (map f xs) (map k ys) → AllZip (λ x y. R (f x) (k y)) xs ys
zip_unmapped R f k [] [] z = tt
zip_unmapped R f k [] (y ∷ ys) z = absurd z
zip_unmapped R f k (x ∷ xs) [] z = absurd z
zip_unmapped R f k (x ∷ xs) (y ∷ ys) z = (z.0, zip_unmapped R f k xs ys z.1)

mapped_twice : {A B C : Type 0} (f : A → B) (k : B → C) (xs : List A) → map k (map f xs) ≡ map (λ x. k (f x)) xs
mapped_twice f k [] = refl
mapped_twice f k (x ∷ xs) = ap (λ ys. k (f x) ∷ ys) (mapped_twice f k xs)

-- ---- the law
pub one_equation_is_kept : (g h : Sig) (p q : PoolContents) (f : PlainForm) (made : PlainLinear) → IsSignature g → IsSignature h → FormFits g p.trees f → IsEncodedForm g p h q f made → OneEquationIsKept g p.trees h q.trees f made
one_equation_is_kept g h p q f made old new fits is e one =
    let l = is.layout in
    let w = is.columns in
    let k = one_equation_keeps_its_parameters g h p is.between f l is.firsts e old new fits one w in
    let own : EquationFits g p.trees f e = all_at (EquationFits g p.trees f) f.equations 0 e fits.equations (ap (λ qs. slice_get qs 0) one) in
    let params : made.params ≡ l.columns = is.params ∙ ap (λ o. option_to_list o ++ l.columns) k.0 in
    let stand = laid_out.columns g h p is.between f l is.firsts old new fits w in
    let named = laid_out.named g h p is.between f l is.firsts old new fits w in
    let controlled = laid_out.controlled g h p is.between f l is.firsts old new fits w in
    let later = laid_out.values g h p is.between f l is.firsts old new fits w in
    let grown : IsGrown w.with_columns h = growth_after_growth_is_growth w.with_columns w.with_control h controlled.0.grown later.0.signature in
    let kinds = k.1 in
    let names : KeepNames g (column_kinds g f) (names_of w.with_columns l.columns) =
    names_kept_from g old (column_kinds g f) w.with_columns l.columns w.columns (kinds_stand g p.trees f old fits)
    (subst (λ ks. AreDistinct (kind_names ks)) (sym kinds) (subst AreDistinct (sym (names_of_kinds g e.params)) own.named)) in
    let kept = names_kept w.with_columns h l.columns grown named.1.variables in
    let sorts : map (sort_of_variable h) l.columns ≡ map (sort_of_variable g) e.params = stand.sorts ∙ ap (map (λ (m : NameId × SortId). m.1)) kinds ∙ mapped_twice (kind_of g) (λ (m : NameId × SortId). m.1) e.params in
    let long : length l.columns ≡ length e.params = sym (length-map l.columns (sort_of_variable h)) ∙ ap length sorts ∙ length-map e.params (sort_of_variable g) in
    record {
      names = subst (λ cs. AllZip (KeepsItsName g h) e.params cs) (sym params)
          (zip_unmapped (HasItsName g) (kind_of g) (name_of h) e.params l.columns (subst (λ ks. AllZip (HasItsName g) ks (names_of h l.columns)) kinds (subst (λ ns. AllZip (HasItsName g) (column_kinds g f) ns) (sym kept) names.own)));
      sorts = ap (map (sort_of_variable h)) params ∙ sorts;
      starts =
          is.init ∙ ap (λ o. tree_control_of o 1 ++ trees_at q.trees is.firsts) k.0 ∙ ap (trees_at q.trees) k.3
          ∙ trees_kept p.trees q.trees f.init (extends_on p.trees is.between.trees q.trees later.0.pool is.kept) fits.init.within;
      summands =
          is.summands ∙ equation_kept g p.trees f e l one k.0 k.2 stand.distinct long own
          ∙ ap (λ cs. map (kept_summand (renaming_tree e.params cs) p.trees) e.summands) (sym params);
    }
