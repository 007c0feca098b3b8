-- What holds of all identifiers of a text holds of the names in its bare declarations.
use Rattle.std.proofs.Common.{◌≡◌, ℕ, zero, suc, Bool, true, false, cond, List, [], ◌∷◌, ◌++◌, map, arith, refl, sym, subst}
use Rattle.std.specs.Prelude.{Some, not}
use Rattle.std.specs.List.{AllByRecursion, Contains, find, flat_map}
use Rattle.std.proofs.lemmas.Option.{none-some, same_Some}
use Rattle.mcrl2_syntax.specs.Words.{PlainWord}
use Rattle.mcrl2_syntax.specs.SortTrees as sorts
use Rattle.mcrl2_syntax.specs.SortTrees.{PlainSort}
use Rattle.mcrl2_syntax.specs.ProcessParts.{PlainVarGroup}
use Rattle.mcrl2_syntax.specs.ProcessTrees as processes
use Rattle.mcrl2_syntax.specs.ProcessTrees.{PlainProcess, PlainProcesses, no_processes, more_processes}
use Rattle.mcrl2_syntax.specs.Declarations as trees
use Rattle.mcrl2_syntax.specs.Declarations.{PlainField, PlainConstructor, PlainDecl, PlainSection}
use Rattle.mcrl2_syntax.proofs.Lists.{all_front, all_back, all_both}
use Rattle.sort_table.specs.Expressions.{Name}
use Rattle.sort_table.specs.BareSorts.{SortExpression, bare_sort}
use Rattle.sort_table.specs.BareProcesses.{Variables, bare_names, bare_group, bare_variables, bare_process, bare_processes, sums_in, sums_in_all}
use Rattle.sort_table.specs.BareDeclarations.{Declaration, alias, Field, bare_field, bare_constructor, bare_declaration, bare_section, declarations_in}
use Rattle.sort_table.specs.SortMeanings.{Kind, kinds_by}
use Rattle.sort_table.specs.UnknownSorts.{name_in, names_in, names_of_variables, names_of_fields, sorts_used, is_declared, UsesUnknownSort}
use Rattle.sort_table.specs.SortCycles.{ReferOn, IsCycle}
use Rattle.sort_table.specs.Identifiers.{name_where, in_sort, in_sorts, in_group, in_process, in_processes, in_field, in_constructor, in_declaration, in_section}

module _ {A : Type 0} (P : A → Type 0) where
  pub found_holds : (p : A → Bool) (xs : List A) (x : A) → AllByRecursion P xs → find p xs ≡ Some x → P x
  found_holds p [] x all e = absurd (none-some x e)
  found_holds p (y ∷ xs) x all e = by_test (p y) (found_holds p xs x all.1) e
    where
      by_test : (b : Bool) → (find p xs ≡ Some x → P x) → cond b (Some y) (find p xs) ≡ Some x → P x
      by_test true later h = subst P (same_Some y x h) all.0
      by_test false later h = later h

module _ (P : Name → Type 0) where
  abbrev Holds : List Name → Type 0
  Holds = AllByRecursion P

  same_names : (s : PlainSort) → name_in (bare_sort s) ≡ in_sort s
  same_names (sorts.bool_sort span) = refl
  same_names (sorts.pos_sort span) = refl
  same_names (sorts.nat_sort span) = refl
  same_names (sorts.int_sort span) = refl
  same_names (sorts.list_sort span s) = same_names s
  same_names (sorts.named_sort w) = refl
  same_names (sorts.brackets_sort span s) = same_names s

  of_sort : (s : PlainSort) → Holds (in_sort s) → Holds (name_in (bare_sort s))
  of_sort s all = subst Holds (sym (same_names s)) all

  of_sorts : (ss : List PlainSort) → Holds (in_sorts ss) → Holds (names_in (map bare_sort ss))
  of_sorts [] all = tt
  of_sorts (s ∷ ss) all = all_both P (name_in (bare_sort s)) (names_in (map bare_sort ss)) (of_sort s (all_front P (in_sort s) (in_sorts ss) all)) (of_sorts ss (all_back P (in_sort s) (in_sorts ss) all))

  -- ---- variables
  of_words : (ws : List PlainWord) (e : SortExpression) → Holds (name_in e) → Holds (names_of_variables (map (λ (w : PlainWord). (w.bytes, e)) ws))
  of_words [] e all = tt
  of_words (w ∷ ws) e all = all_both P (name_in e) (names_of_variables (map (λ (v : PlainWord). (v.bytes, e)) ws)) all (of_words ws e all)

  variables_both : (xs ys : Variables) → Holds (names_of_variables xs) → Holds (names_of_variables ys) → Holds (names_of_variables (xs ++ ys))
  variables_both [] ys front back = back
  variables_both (x ∷ xs) ys front back =
      all_both P (name_in x.1) (names_of_variables (xs ++ ys)) (all_front P (name_in x.1) (names_of_variables xs) front) (variables_both xs ys (all_back P (name_in x.1) (names_of_variables xs) front) back)

  of_groups : (gs : List PlainVarGroup) → Holds (flat_map in_group gs) → Holds (names_of_variables (bare_variables gs))
  of_groups [] all = tt
  of_groups (g ∷ gs) all =
      let here = all_front P (in_group g) (flat_map in_group gs) all in
      variables_both (bare_group g) (bare_variables gs) (of_words g.names (bare_sort g.sort) (of_sort g.sort (all_back P (bare_names g.names) (in_sort g.sort) here))) (of_groups gs (all_back P (in_group g) (flat_map in_group gs) all))

  -- ---- sums
  abbrev OfSums : List Variables → Type 0
  OfSums vss = Holds (flat_map names_of_variables vss)

  sums_both : (xs ys : List Variables) → OfSums xs → OfSums ys → OfSums (xs ++ ys)
  sums_both [] ys front back = back
  sums_both (x ∷ xs) ys front back =
      all_both P (names_of_variables x) (flat_map names_of_variables (xs ++ ys)) (all_front P (names_of_variables x) (flat_map names_of_variables xs) front)
      (sums_both xs ys (all_back P (names_of_variables x) (flat_map names_of_variables xs) front) back)

  mutual
    of_process : (p : PlainProcess) → Holds (in_process p) → OfSums (sums_in (bare_process p))
    of_process (processes.delta span) all = tt
    of_process (processes.acts a) all = tt
    of_process (processes.multi span as_) all = tt
    of_process (processes.sync span ps) all = of_processes ps all
    of_process (processes.call span f xs) all = tt
    of_process (processes.within span p) all = of_process p all
    of_process (processes.allow span sets p) all = of_process p (all_back P _ (in_process p) all)
    of_process (processes.block span ns p) all = of_process p (all_back P _ (in_process p) all)
    of_process (processes.hide span ns p) all = of_process p (all_back P _ (in_process p) all)
    of_process (processes.rename span rs p) all = of_process p (all_back P _ (in_process p) all)
    of_process (processes.comm span rs p) all = of_process p (all_back P _ (in_process p) all)
    of_process (processes.sequence span ps) all = of_processes ps all
    of_process (processes.sum span gs p) all =
        all_both P (names_of_variables (bare_variables gs)) (flat_map names_of_variables (sums_in (bare_process p))) (of_groups gs (all_front P _ (in_process p) all)) (of_process p (all_back P _ (in_process p) all))
    of_process (processes.when span d p) all = of_process p (all_back P _ (in_process p) all)
    of_process (processes.either span d p q) all =
        let both = all_back P _ (in_process p ++ in_process q) all in
        sums_both (sums_in (bare_process p)) (sums_in (bare_process q)) (of_process p (all_front P _ (in_process q) both)) (of_process q (all_back P (in_process p) _ both))
    of_process (processes.left_merge span p q) all = sums_both (sums_in (bare_process p)) (sums_in (bare_process q)) (of_process p (all_front P _ (in_process q) all)) (of_process q (all_back P (in_process p) _ all))
    of_process (processes.parallel span ps) all = of_processes ps all
    of_process (processes.choice span ps) all = of_processes ps all

    of_processes : (ps : PlainProcesses) → Holds (in_processes ps) → OfSums (sums_in_all (bare_processes ps))
    of_processes no_processes all = tt
    of_processes (more_processes p ps) all =
        sums_both (sums_in (bare_process p)) (sums_in_all (bare_processes ps)) (of_process p (all_front P _ (in_processes ps) all)) (of_processes ps (all_back P (in_process p) _ all))

  -- ---- declarations
  of_fields : (fs : List PlainField) → Holds (flat_map in_field fs) → Holds (flat_map (λ (f : Field). name_in f.sort) (map bare_field fs))
  of_fields [] all = tt
  of_fields (f ∷ fs) all =
      let here = all_front P (in_field f) (flat_map in_field fs) all in
      all_both P (name_in (bare_sort f.sort)) _ (of_sort f.sort (all_back P (name_where f.name) (in_sort f.sort) here)) (of_fields fs (all_back P (in_field f) (flat_map in_field fs) all))

  of_constructors : (cs : List PlainConstructor) → Holds (flat_map in_constructor cs) → Holds (flat_map names_of_fields (map bare_constructor cs))
  of_constructors [] all = tt
  of_constructors (c ∷ cs) all =
      let here = all_front P (in_constructor c) (flat_map in_constructor cs) all in
      all_both P (names_of_fields (bare_constructor c)) _ (of_fields c.fields (all_front P (flat_map in_field c.fields) (name_where c.recogniser) here.1)) (of_constructors cs (all_back P (in_constructor c) (flat_map in_constructor cs) all))

  of_function : (ns : List Name) (ss : List PlainSort) (s : PlainSort) → Holds (ns ++ (in_sorts ss ++ in_sort s)) → Holds (names_in (map bare_sort ss) ++ name_in (bare_sort s))
  of_function ns ss s all =
      let both = all_back P ns (in_sorts ss ++ in_sort s) all in
      all_both P (names_in (map bare_sort ss)) (name_in (bare_sort s)) (of_sorts ss (all_front P (in_sorts ss) (in_sort s) both)) (of_sort s (all_back P (in_sorts ss) (in_sort s) both))

  used_hold : (d : PlainDecl) → Holds (in_declaration d) → Holds (sorts_used (bare_declaration d))
  used_hold (trees.sorts_decl span ns) all = tt
  used_hold (trees.alias_decl span n s) all = of_sort s all.1
  used_hold (trees.struct_decl span n cs) all = of_constructors cs all.1
  used_hold (trees.cons_decl span ns ss to) all = of_function (bare_names ns) ss to all
  used_hold (trees.map_decl span ns ss to) all = of_function (bare_names ns) ss to all
  used_hold (trees.vars_decl span gs) all = of_groups gs all
  used_hold (trees.equation_decl span c l r) all = tt
  used_hold (trees.act_decl span ns ss) all = of_sorts ss (all_back P (bare_names ns) (in_sorts ss) all)
  used_hold (trees.proc_decl span p gs body) all =
      all_both P (names_of_variables (bare_variables gs)) (flat_map names_of_variables (sums_in (bare_process body))) (of_groups gs (all_front P (flat_map in_group gs) (in_process body) all.1)) (of_process body (all_back P (flat_map in_group gs) (in_process body) all.1))
  used_hold (trees.init_decl span body) all = of_process body all

  abbrev pub OfKinds : List (Name × Kind) → Type 0
  OfKinds ks = AllByRecursion (λ (r : Name × Kind). P r.0) ks

  of_alone : (ns : List Name) (k : Kind) → Holds ns → OfKinds (map (λ n. (n, k)) ns)
  of_alone [] k all = tt
  of_alone (n ∷ ns) k all = (all.0, of_alone ns k all.1)

  kinds_hold : (d : PlainDecl) → Holds (in_declaration d) → OfKinds (kinds_by (bare_declaration d))
  kinds_hold (trees.sorts_decl span ns) all = of_alone (bare_names ns) _ all
  kinds_hold (trees.alias_decl span n s) all = (all.0, tt)
  kinds_hold (trees.struct_decl span n cs) all = (all.0, tt)
  kinds_hold (trees.cons_decl span ns ss to) all = tt
  kinds_hold (trees.map_decl span ns ss to) all = tt
  kinds_hold (trees.vars_decl span gs) all = tt
  kinds_hold (trees.equation_decl span c l r) all = tt
  kinds_hold (trees.act_decl span ns ss) all = tt
  kinds_hold (trees.proc_decl span p gs body) all = tt
  kinds_hold (trees.init_decl span body) all = tt

  -- it holds of the sort names that a declaration uses and declares
  abbrev HoldsOf : Declaration → Type 0
  HoldsOf d = Holds (sorts_used d) × OfKinds (kinds_by d)

  of_declarations : (ds : List PlainDecl) → Holds (flat_map in_declaration ds) → AllByRecursion HoldsOf (map bare_declaration ds)
  of_declarations [] all = tt
  of_declarations (d ∷ ds) all =
      let here = all_front P (in_declaration d) (flat_map in_declaration ds) all in
      ((used_hold d here, kinds_hold d here), of_declarations ds (all_back P (in_declaration d) (flat_map in_declaration ds) all))

  of_sections : (ss : List PlainSection) → Holds (flat_map in_section ss) → AllByRecursion HoldsOf (declarations_in (map bare_section ss))
  of_sections [] all = tt
  of_sections (s ∷ ss) all =
      all_both HoldsOf (map bare_declaration s.declarations) (declarations_in (map bare_section ss)) (of_declarations s.declarations (all_front P (in_section s) (flat_map in_section ss) all))
      (of_sections ss (all_back P (in_section s) (flat_map in_section ss) all))

  -- ---- what is asked
  all_kinds : (ds : List Declaration) → AllByRecursion HoldsOf ds → OfKinds (flat_map kinds_by ds)
  all_kinds [] all = tt
  all_kinds (d ∷ ds) all = all_both (λ (r : Name × Kind). P r.0) (kinds_by d) (flat_map kinds_by ds) all.0.1 (all_kinds ds all.1)

  pub declared_hold : (ss : List PlainSection) → Holds (flat_map in_section ss) → OfKinds (flat_map kinds_by (declarations_in (map bare_section ss)))
  declared_hold ss all = all_kinds (declarations_in (map bare_section ss)) (of_sections ss all)

  pub unknown_holds : (ss : List PlainSection) (number : ℕ) (name : Name) → Holds (flat_map in_section ss) → UsesUnknownSort (declarations_in (map bare_section ss)) number name → P name
  unknown_holds ss number name all uses =
      let each = subst (AllByRecursion HoldsOf) uses.text (of_sections ss all) in
      let here = (all_back HoldsOf uses.front (uses.declaration ∷ uses.behind) each).0 in
      found_holds P (λ n. not (is_declared (declarations_in (map bare_section ss)) n)) (sorts_used uses.declaration) name here.0 uses.unknown

  alias_holds : (ds : List Declaration) (n : Name) (e : SortExpression) → AllByRecursion HoldsOf ds → Contains ds (alias n e) → P n
  alias_holds [] n e all (k, l, is) = let never : ⊥ = omega (arith, l) in absurd never
  alias_holds (d ∷ ds) n e all (zero, l, is) = (subst HoldsOf is all.0).1.0
  alias_holds (d ∷ ds) n e all (suc k, l, is) = alias_holds ds n e all.1 (k, omega (arith, l), is)

  refer_holds : (ds : List Declaration) (first n : Name) (ns : List Name) → AllByRecursion HoldsOf ds → ReferOn ds first n ns → Holds (n ∷ ns)
  refer_holds ds first n [] all (e, there, uses) = (alias_holds ds n e all there, tt)
  refer_holds ds first n (m ∷ ns) all ((e, there, uses), on) = (alias_holds ds n e all there, refer_holds ds first m ns all on)

  pub cycle_holds : (ss : List PlainSection) (ns : List Name) → Holds (flat_map in_section ss) → IsCycle (declarations_in (map bare_section ss)) ns → Holds ns
  cycle_holds ss [] all is = tt
  cycle_holds ss (n ∷ ns) all is = refer_holds (declarations_in (map bare_section ss)) n n ns (of_sections ss all) is
