-- The names that trees use, one after the other.
use Rattle.std.proofs.Common.{◌≡◌, ◌<◌, ℕ, Bool, cond, List, [], ◌∷◌, ◌++◌, map, length, refl, ap, sym, ◌∙◌, arith}
use Rattle.std.specs.Prelude.{Option, Some, None, is_some, not, option_map}
use Rattle.std.specs.Option.{option_or}
use Rattle.std.specs.List.{find}
use Rattle.std.specs.Global.{Box, Vec}
use Rattle.std.proofs.lemmas.Grind.{flat_map-append}
use Rattle.std.proofs.lemmas.List.{append-nil}
use Rattle.std.proofs.lemmas.List.Folds.{find-append}
use Rattle.std.proofs.lemmas.Option.{none-some, same_Some}
use denote.Ref.{Bor}
use Rattle.mcrl2_syntax.specs.declared.word.Span.{Span}
use Rattle.mcrl2_syntax.specs.declared.word.Word.{Word}
use Rattle.mcrl2_syntax.specs.Words.{PlainWord, word_of}
use Rattle.mcrl2_syntax.specs.declared.sort_tree.SortTree.{SortTree}
use Rattle.mcrl2_syntax.specs.declared.data_tree.DataTree.{DataTree}
use Rattle.mcrl2_syntax.specs.declared.declaration.Field.{Field}
use Rattle.mcrl2_syntax.specs.declared.process_tree.VarGroup.{VarGroup}
use Rattle.mcrl2_syntax.specs.declared.process_tree.ProcTree.{ProcTree}
use Rattle.mcrl2_syntax.specs.declared.process_tree.ProcTree.TheVariants.{Sum, Either, LeftMerge, rolls-Sum, rolls-Either, rolls-LeftMerge}
use Rattle.mcrl2_syntax.specs.declared.process_tree.ProcTree.TheFolds.{fold-roll-ProcTree}
use Rattle.mcrl2_syntax.specs.SortTrees.{plain_sort}
use Rattle.mcrl2_syntax.specs.ProcessParts.{var_group_of}
use Rattle.mcrl2_syntax.specs.ProcessTrees.{PlainProcess, plain_process, plain_process_step, processes_of}
use Rattle.sort_table.specs.Expressions.{Name}
use Rattle.sort_table.specs.NamedLists.{first_named}
use Rattle.sort_table.specs.BareSorts.{SortExpression, truth_values, positives, naturals, integers, lists_of, a_name, bare_sort}
use Rattle.sort_table.specs.BareProcesses.{bare_group, bare_variables, bare_process, sums_in}
use Rattle.sort_table.specs.SortMeanings.{Kind}
use Rattle.sort_table.specs.SortIndexes.{first_place}
use Rattle.sort_table.specs.UnknownSorts.{name_in, names_of_variables}
use Rattle.sort_table.specs.UsedNames.{unknown_among, leaf_of, names_of_trees, names_of_field_trees, names_of_constructor, names_of_constructors, names_of_group, names_of_groups, names_of_sums, names_of_all_sums}
use Rattle.sort_table.proofs.IndexPlaces.{placed}
use Rattle.sort_table.proofs.Searches.{IsListed}

-- ---- one name
cond_of : (b c : Bool) (n : Name) → b ≡ c → cond (not b) (Some n) None ≡ cond (not c) (Some n) None
cond_of b c n h = ap (λ (d : Bool). cond (not d) (Some n) None) h

told : (ks : List (Name × Kind)) (n : Name) (o : Option ℕ) → first_place n ks ≡ o → unknown_among ks (n ∷ []) ≡ cond (not (is_some o)) (Some n) None
told ks n o h = cond_of (is_some (first_named n ks)) (is_some o) n (sym (placed n ks) ∙ ap is_some h)

pub declared_name : (ks : List (Name × Kind)) (n : Name) (i : ℕ) → first_place n ks ≡ Some i → None ≡ unknown_among ks (n ∷ [])
declared_name ks n i h = sym (told ks n (Some i) h)

pub undeclared_name : (ks : List (Name × Kind)) (n : Name) → first_place n ks ≡ None → Some n ≡ unknown_among ks (n ∷ [])
undeclared_name ks n h = sym (told ks n None h)

-- ---- the name in a sort expression
pub no_leaf : (e : SortExpression) → leaf_of e ≡ None → name_in e ≡ []
no_leaf truth_values h = refl
no_leaf positives h = refl
no_leaf naturals h = refl
no_leaf integers h = refl
no_leaf (lists_of e) h = no_leaf e h
no_leaf (a_name n) h = absurd (none-some n (sym h))

pub its_leaf : (e : SortExpression) (n : Name) → leaf_of e ≡ Some n → name_in e ≡ n ∷ []
its_leaf truth_values n h = absurd (none-some n h)
its_leaf positives n h = absurd (none-some n h)
its_leaf naturals n h = absurd (none-some n h)
its_leaf integers n h = absurd (none-some n h)
its_leaf (lists_of e) n h = its_leaf e n h
its_leaf (a_name m) n h = ap (λ (k : Name). k ∷ []) (same_Some m n h)

-- ---- lists of trees
pub trees_listed : IsListed names_of_trees (λ (t : SortTree). name_in (bare_sort (plain_sort t)))
trees_listed = record { of_none = refl; of_more = λ t ts. refl }

pub fields_listed : IsListed names_of_field_trees (λ (f : Field). name_in (bare_sort (plain_sort f.sort)))
fields_listed = record { of_none = refl; of_more = λ f fs. refl }

pub constructors_listed : IsListed names_of_constructors names_of_constructor
constructors_listed = record { of_none = refl; of_more = λ c cs. refl }

pub groups_listed : IsListed names_of_groups names_of_group
groups_listed = record { of_none = refl; of_more = λ g gs. flat_map-append (λ (v : Name × SortExpression). name_in v.1) (bare_group (var_group_of g)) (bare_variables (map var_group_of gs)) }

abbrev pub sums_of_all : List ProcTree → List Name
sums_of_all ps = names_of_all_sums (processes_of (map plain_process ps))

abbrev pub sums_of_one : ProcTree → List Name
sums_of_one p = names_of_sums (plain_process p)

pub processes_listed : IsListed sums_of_all sums_of_one
processes_listed = record { of_none = refl; of_more = λ p ps. flat_map-append names_of_variables (sums_in (bare_process (plain_process p))) _ }

-- ---- process terms
pub sum_names : (span : Span) (groups : Vec VarGroup) (inner : Box ProcTree) → sums_of_one (Sum span groups inner) ≡ names_of_groups groups.items ++ sums_of_one inner.value
sum_names span groups inner = ap names_of_sums (ap plain_process (sym (rolls-Sum span groups inner)) ∙ fold-roll-ProcTree PlainProcess plain_process_step _)

pub either_names : (span : Span) (d : Box DataTree) (then other : Box ProcTree) → sums_of_one (Either span d then other) ≡ sums_of_one then.value ++ sums_of_one other.value
either_names span d then other =
    ap names_of_sums (ap plain_process (sym (rolls-Either span d then other)) ∙ fold-roll-ProcTree PlainProcess plain_process_step _)
    ∙ flat_map-append names_of_variables (sums_in (bare_process (plain_process then.value))) (sums_in (bare_process (plain_process other.value)))

pub left_merge_names : (span : Span) (first second : Box ProcTree) → sums_of_one (LeftMerge span first second) ≡ sums_of_one first.value ++ sums_of_one second.value
left_merge_names span first second =
    ap names_of_sums (ap plain_process (sym (rolls-LeftMerge span first second)) ∙ fold-roll-ProcTree PlainProcess plain_process_step _)
    ∙ flat_map-append names_of_variables (sums_in (bare_process (plain_process first.value))) (sums_in (bare_process (plain_process second.value)))

-- ---- in one list or behind it
pub in_front : (ks : List (Name × Kind)) (ns xs ys : List Name) (o : Option (Bor Name)) (b : Bor Name) → ns ≡ xs ++ ys → option_map (λ (n : Bor Name). n.now) o ≡ unknown_among ks xs → o ≡ Some b → Some b.now ≡ unknown_among ks ns
in_front ks ns xs ys o b is told it =
    let p : Name → Bool = λ n. not (is_some (first_named n ks)) in
    let front : find p xs ≡ Some b.now = sym told ∙ ap (option_map (λ (n : Bor Name). n.now)) it in
    sym (ap (find p) is ∙ (find-append p xs ys ∙ ap (λ (q : Option Name). option_or q (find p ys)) front))

pub in_back : (ks : List (Name × Kind)) (ns xs ys : List Name) (o q : Option (Bor Name)) → ns ≡ xs ++ ys → option_map (λ (n : Bor Name). n.now) o ≡ unknown_among ks xs → o ≡ None
    → option_map (λ (n : Bor Name). n.now) q ≡ unknown_among ks ys → option_map (λ (n : Bor Name). n.now) q ≡ unknown_among ks ns
in_back ks ns xs ys o q is told none then =
    let p : Name → Bool = λ n. not (is_some (first_named n ks)) in
    let front : find p xs ≡ None = sym told ∙ ap (option_map (λ (n : Bor Name). n.now)) none in
    then ∙ sym (ap (find p) is ∙ (find-append p xs ys ∙ ap (λ (r : Option Name). option_or r (find p ys)) front))

-- ---- variables of one sort
twice_same : (o : Option Name) → option_or o o ≡ o
twice_same None = refl
twice_same (Some n) = refl

abbrev of_words : SortExpression → List Word → List Name
of_words e ws = names_of_variables (map (λ (w : PlainWord). (w.bytes, e)) (map word_of ws))

words_find : (p : Name → Bool) (e : SortExpression) (w : Word) (ws : List Word) → find p (of_words e (w ∷ ws)) ≡ find p (name_in e)
words_find p e w [] = ap (find p) (append-nil (name_in e))
words_find p e w (v ∷ ws) =
    find-append p (name_in e) (of_words e (v ∷ ws)) ∙ (ap (λ (o : Option Name). option_or (find p (name_in e)) o) (words_find p e v ws) ∙ twice_same (find p (name_in e)))

pub group_names : (ks : List (Name × Kind)) (g : VarGroup) → 0 < length g.names.items → unknown_among ks (name_in (bare_sort (plain_sort g.sort))) ≡ unknown_among ks (names_of_group g)
group_names ks g some = of_list g.names.items some
  where
    of_list : (ws : List Word) → 0 < length ws → unknown_among ks (name_in (bare_sort (plain_sort g.sort))) ≡ unknown_among ks (of_words (bare_sort (plain_sort g.sort)) ws)
    of_list [] l = let never : ⊥ = omega (arith, l) in absurd never
    of_list (w ∷ ws) l = sym (words_find (λ n. not (is_some (first_named n ks))) (bare_sort (plain_sort g.sort)) w ws)
