-- What is made of words, with all identifiers among the texts, is ready to be read.
use Rattle.std.proofs.Common.{◌≡◌, ◌<◌, ◌+◌, ℕ, zero, suc, List, [], ◌∷◌, ◌++◌, length, map, take, get_or, refl, sym, ap, ◌∙◌, subst, arith, length-append}
use Rattle.std.specs.List.{All, AllByRecursion, Contains, flat_map}
use Rattle.std.proofs.lemmas.List.{length-map}
use Rattle.mcrl2_syntax.specs.declared.word.Word.{Word}
use Rattle.mcrl2_syntax.specs.declared.declaration.Decl.{Decl}
use Rattle.mcrl2_syntax.specs.declared.declaration.Section.{Section}
use Rattle.mcrl2_syntax.specs.declared.declaration.Spec.{Spec}
use Rattle.mcrl2_syntax.specs.declared.process_tree.VarGroup.{VarGroup}
use Rattle.mcrl2_syntax.specs.SortTrees.{plain_sort}
use Rattle.mcrl2_syntax.specs.Words.{PlainWord, word_of}
use Rattle.mcrl2_syntax.specs.DataTrees.{PlainData}
use Rattle.mcrl2_lexer.specs.declared.kind.Kind.TheVariants.{Identifier}
use Rattle.mcrl2_lexer.specs.Tokens.{IsToken}
use Rattle.mcrl2_syntax.specs.Declarations as trees
use Rattle.mcrl2_syntax.specs.Declarations.{PlainDecl, PlainSection, plain_decl, section_of, spec_of}
use Rattle.mcrl2_syntax.specs.ProcessParts.{PlainAction, tau_action, named_action, PlainAssignment, PlainVarGroup, var_group_of}
use Rattle.mcrl2_syntax.specs.ProcessTrees as processes
use Rattle.mcrl2_syntax.specs.ProcessTrees.{PlainProcess, PlainProcesses, no_processes, more_processes}
use Rattle.mcrl2_syntax.specs.TreeWords.{IsName, IsDataOfWords, IsActionOfWords, IsAssignmentOfWords, IsGroupOfWords, IsProcessOfWords, AreProcessesOfWords, IsDeclarationOfWords, IsSectionOfWords, IsSpecOfWords}
use Rattle.mcrl2_syntax.proofs.Lists.{all_front, all_back, all_both}
use Rattle.sort_table.specs.Expressions.{Name}
use Rattle.sort_table.specs.BareProcesses.{Variables, bare_names, bare_group, bare_variables}
use Rattle.sort_table.specs.BareSorts.{SortExpression, bare_sort}
use Rattle.sort_table.proofs.Searches.{IsListed, listed_more}
use Rattle.sort_table.specs.Identifiers.{in_sort, in_data, in_group, in_set, in_renaming, in_rule, in_process, in_processes, in_declaration, in_section, identifiers_in}
use Rattle.sort_table.specs.BareDeclarations.{bare_declaration}
use Rattle.sort_table.specs.DeclarationTrees.{declaration_of}
use Rattle.sort_checker.specs.FreeTrees.{AreVariableNames}
use Rattle.sort_checker.specs.Parts.{variables_by}
use Rattle.sort_checker.specs.ScopedTrees.{variables_under}
use Rattle.sort_checker.specs.ReadyTrees.{some_variables, an_expression, leaves_of_data, leaves_of_action, leaves_of_values, leaves_in, leaves_in_all, IsReadyGroup, IsReadyLeaf, AreReadyGroups, AreReadyLeaves, IsReadyDeclaration, AreReadyDeclarations, AreReadySections}
use Rattle.sort_checker.proofs.NumberedActions.{all_by}

-- ---- elements of lists
pub holds_at : {A B : Type 0} (f : A → B) (P : B → Type 0) (xs : List A) → AllByRecursion P (map f xs) → (i : ℕ) (x : A) → i < length xs → x ≡ get_or xs i x → P (f x)
holds_at f P [] all i x l e = let never : ⊥ = omega (arith, l) in absurd never
holds_at f P (y ∷ xs) all zero x l e = subst (λ z. P (f z)) (sym e) all.0
holds_at f P (y ∷ xs) all (suc i) x l e = holds_at f P xs all.1 i x (omega (arith, l)) e

-- the same without a function
pub holds_in : {A : Type 0} (P : A → Type 0) (xs : List A) → AllByRecursion P xs → (i : ℕ) (x : A) → i < length xs → x ≡ get_or xs i x → P x
holds_in P [] all i x l e = let never : ⊥ = omega (arith, l) in absurd never
holds_in P (y ∷ xs) all zero x l e = subst P (sym e) all.0
holds_in P (y ∷ xs) all (suc i) x l e = holds_in P xs all.1 i x (omega (arith, l)) e

-- in a list that elements give, one after the other
pub holds_along : {A B : Type 0} (f : A → List B) (P : B → Type 0) (xs : List A) → AllByRecursion P (flat_map f xs) → (i : ℕ) (x : A) → i < length xs → x ≡ get_or xs i x → AllByRecursion P (f x)
holds_along f P [] all i x l e = let never : ⊥ = omega (arith, l) in absurd never
holds_along f P (y ∷ xs) all zero x l e = subst (λ z. AllByRecursion P (f z)) (sym e) (all_front P (f y) (flat_map f xs) all)
holds_along f P (y ∷ xs) all (suc i) x l e = holds_along f P xs (all_back P (f y) (flat_map f xs) all) i x (omega (arith, l)) e

-- and through a function
pub holds_along_mapped : {A B C : Type 0} (g : A → B) (f : B → List C) (P : C → Type 0) (xs : List A) → AllByRecursion P (flat_map f (map g xs)) → (i : ℕ) (x : A) → i < length xs → x ≡ get_or xs i x → AllByRecursion P (f (g x))
holds_along_mapped g f P [] all i x l e = let never : ⊥ = omega (arith, l) in absurd never
holds_along_mapped g f P (y ∷ xs) all zero x l e = subst (λ z. AllByRecursion P (f (g z))) (sym e) (all_front P (f (g y)) (flat_map f (map g xs)) all)
holds_along_mapped g f P (y ∷ xs) all (suc i) x l e = holds_along_mapped g f P xs (all_back P (f (g y)) (flat_map f (map g xs)) all) i x (omega (arith, l)) e

pub mapped_all : {A B : Type 0} (f : A → B) (P : B → Type 0) (xs : List A) → AllByRecursion P (map f xs) → AllByRecursion (λ x. P (f x)) xs
mapped_all f P [] all = tt
mapped_all f P (x ∷ xs) all = (all.0, mapped_all f P xs all.1)

pub all_mapped : {A B : Type 0} (f : A → B) (P : B → Type 0) (xs : List A) → AllByRecursion (λ x. P (f x)) xs → AllByRecursion P (map f xs)
all_mapped f P [] all = tt
all_mapped f P (x ∷ xs) all = (all.0, all_mapped f P xs all.1)

-- ---- lists of variables
abbrev pub of_words : SortExpression → List Word → Variables
of_words e ws = map (λ (w : PlainWord). (w.bytes, e)) (map word_of ws)

pub words_listed : (e : SortExpression) → IsListed (of_words e) (λ (w : Word). (w.bytes.items, e) ∷ [])
words_listed e = record { of_none = refl; of_more = λ w ws. refl }

abbrev pub of_groups : List VarGroup → Variables
of_groups gs = bare_variables (map var_group_of gs)

abbrev pub of_group : VarGroup → Variables
of_group g = bare_group (var_group_of g)

pub groups_listed : IsListed of_groups of_group
groups_listed = record { of_none = refl; of_more = λ g gs. refl }

pub group_length : (gs : List VarGroup) (i : ℕ) (g : VarGroup) → i < length gs → g ≡ get_or gs i g → length (of_groups (take (i + 1) gs)) ≡ length (of_groups (take i gs)) + length g.names.items
group_length gs i g l e =
    let long = length-append (of_groups (take i gs)) (of_group g) in
    let words = length-map g.names.items word_of in
    let variables : length (of_group g) ≡ length (map word_of g.names.items) = length-map (map word_of g.names.items) (λ (w : PlainWord). (w.bytes, bare_sort (plain_sort g.sort))) in
    ap length (listed_more of_groups of_group groups_listed gs i g l e) ∙ omega (arith, long, words, variables)

-- ---- leaves
module _ (texts : List Name) where
  abbrev Among : Name → Type 0
  Among = Contains texts

  datas_ready : (ds : List PlainData) → AllByRecursion IsDataOfWords ds → AreReadyLeaves texts (leaves_of_data ds)
  datas_ready ds all = all_mapped an_expression (IsReadyLeaf texts) ds all

  pub action_ready : (a : PlainAction) → IsActionOfWords a → AreReadyLeaves texts (leaves_of_action a)
  action_ready (tau_action span) is = tt
  action_ready (named_action span a ds) is = datas_ready ds is.1

  pub actions_ready : (as_ : List PlainAction) → AllByRecursion IsActionOfWords as_ → AreReadyLeaves texts (flat_map leaves_of_action as_)
  actions_ready [] all = tt
  actions_ready (a ∷ as_) all = all_both (IsReadyLeaf texts) (leaves_of_action a) (flat_map leaves_of_action as_) (action_ready a all.0) (actions_ready as_ all.1)

  values_ready : (xs : List PlainAssignment) → AllByRecursion IsAssignmentOfWords xs → AreReadyLeaves texts (leaves_of_values xs)
  values_ready [] all = tt
  values_ready (x ∷ xs) all = (all.0.1, values_ready xs all.1)

  group_ready : (g : PlainVarGroup) → IsGroupOfWords g → AllByRecursion Among (in_group g) → IsReadyGroup texts g
  group_ready g is among = (is, mapped_all (λ (w : PlainWord). w.bytes) Among g.names (all_front Among (bare_names g.names) (in_sort g.sort) among))

  pub groups_ready : (gs : List PlainVarGroup) → AllByRecursion IsGroupOfWords gs → AllByRecursion Among (flat_map in_group gs) → AreReadyGroups texts gs
  groups_ready [] all among = tt
  groups_ready (g ∷ gs) all among = (group_ready g all.0 (all_front Among (in_group g) (flat_map in_group gs) among), groups_ready gs all.1 (all_back Among (in_group g) (flat_map in_group gs) among))

  pub variables_ready : (gs : List PlainVarGroup) → AreReadyGroups texts gs → AreReadyLeaves texts (map some_variables gs)
  variables_ready gs all = all_mapped some_variables (IsReadyLeaf texts) gs all

  pub groups_of_leaves : (gs : List PlainVarGroup) → AreReadyLeaves texts (map some_variables gs) → AreReadyGroups texts gs
  groups_of_leaves gs all = mapped_all some_variables (IsReadyLeaf texts) gs all

  mutual
    pub process_ready : (p : PlainProcess) → IsProcessOfWords p → AllByRecursion Among (in_process p) → AreReadyLeaves texts (leaves_in p)
    process_ready (processes.delta span) is among = tt
    process_ready (processes.acts a) is among = action_ready a is
    process_ready (processes.multi span as_) is among = actions_ready as_ is
    process_ready (processes.sync span ps) is among = all_ready ps is among
    process_ready (processes.call span p xs) is among = values_ready xs is.1
    process_ready (processes.within span p) is among = process_ready p is among
    process_ready (processes.allow span sets p) is among = process_ready p is.1 (all_back Among (flat_map in_set sets) (in_process p) among)
    process_ready (processes.block span ns p) is among = process_ready p is.1 (all_back Among (bare_names ns) (in_process p) among)
    process_ready (processes.hide span ns p) is among = process_ready p is.1 (all_back Among (bare_names ns) (in_process p) among)
    process_ready (processes.rename span rs p) is among = process_ready p is.1 (all_back Among (flat_map in_renaming rs) (in_process p) among)
    process_ready (processes.comm span rs p) is among = process_ready p is.1 (all_back Among (flat_map in_rule rs) (in_process p) among)
    process_ready (processes.sequence span ps) is among = all_ready ps is among
    process_ready (processes.sum span gs p) is among =
        all_both (IsReadyLeaf texts) (map some_variables gs) (leaves_in p) (variables_ready gs (groups_ready gs is.0 (all_front Among (flat_map in_group gs) (in_process p) among))) (process_ready p is.1 (all_back Among (flat_map in_group gs) (in_process p) among))
    process_ready (processes.when span d p) is among = (is.0, process_ready p is.1 (all_back Among (in_data d) (in_process p) among))
    process_ready (processes.either span d p q) is among =
        let rest = all_back Among (in_data d) (in_process p ++ in_process q) among in
        (is.0, all_both (IsReadyLeaf texts) (leaves_in p) (leaves_in q) (process_ready p is.1 (all_front Among (in_process p) (in_process q) rest)) (process_ready q is.2 (all_back Among (in_process p) (in_process q) rest)))
    process_ready (processes.left_merge span p q) is among =
        all_both (IsReadyLeaf texts) (leaves_in p) (leaves_in q) (process_ready p is.0 (all_front Among (in_process p) (in_process q) among)) (process_ready q is.1 (all_back Among (in_process p) (in_process q) among))
    process_ready (processes.parallel span ps) is among = all_ready ps is among
    process_ready (processes.choice span ps) is among = all_ready ps is among

    all_ready : (ps : PlainProcesses) → AreProcessesOfWords ps → AllByRecursion Among (in_processes ps) → AreReadyLeaves texts (leaves_in_all ps)
    all_ready no_processes is among = tt
    all_ready (more_processes p ps) is among =
        all_both (IsReadyLeaf texts) (leaves_in p) (leaves_in_all ps) (process_ready p is.0 (all_front Among (in_process p) (in_processes ps) among)) (all_ready ps is.1 (all_back Among (in_process p) (in_processes ps) among))

  -- ---- declarations
  declarations_ready : (ds : List PlainDecl) → AllByRecursion IsDeclarationOfWords ds → AllByRecursion Among (flat_map in_declaration ds) → AllByRecursion (IsReadyDeclaration texts) ds
  declarations_ready [] all among = tt
  declarations_ready (d ∷ ds) all among =
      ((all.0, all_front Among (in_declaration d) (flat_map in_declaration ds) among), declarations_ready ds all.1 (all_back Among (in_declaration d) (flat_map in_declaration ds) among))

  sections_are_ready : (ss : List Section) → AllByRecursion IsSectionOfWords (map section_of ss) → AllByRecursion Among (flat_map in_section (map section_of ss)) → AreReadySections texts ss
  sections_are_ready [] all among = tt
  sections_are_ready (s ∷ ss) all among = (
    declarations_ready (map plain_decl s.declarations.items) all.0 (all_front Among (in_section (section_of s)) (flat_map in_section (map section_of ss)) among),
    sections_are_ready ss all.1 (all_back Among (in_section (section_of s)) (flat_map in_section (map section_of ss)) among),
  )

  pub sections_ready : (spec : Spec) → IsSpecOfWords (spec_of spec) → All Among (identifiers_in (spec_of spec)) → AreReadySections texts spec.sections.items
  sections_ready spec is among = sections_are_ready spec.sections.items is (all_by Among (identifiers_in (spec_of spec)) among)

-- ---- the names of a section's variables
words_are_names : (e : SortExpression) (ws : List PlainWord) → AllByRecursion IsName ws → AllByRecursion (λ (x : Name × SortExpression). IsToken x.0 Identifier) (map (λ (w : PlainWord). (w.bytes, e)) ws)
words_are_names e [] all = tt
words_are_names e (w ∷ ws) all = (all.0, words_are_names e ws all.1)

group_names : (gs : List PlainVarGroup) → AllByRecursion IsGroupOfWords gs → AreVariableNames (bare_variables gs)
group_names [] all = tt
group_names (g ∷ gs) all = all_both (λ (x : Name × SortExpression). IsToken x.0 Identifier) (bare_group g) (bare_variables gs) (words_are_names (bare_sort g.sort) g.names all.0.0) (group_names gs all.1)

declared_names : (d : PlainDecl) → IsDeclarationOfWords d → AreVariableNames (variables_by (bare_declaration d))
declared_names (trees.sorts_decl span ns) is = tt
declared_names (trees.alias_decl span n s) is = tt
declared_names (trees.struct_decl span n cs) is = tt
declared_names (trees.cons_decl span ns ss to) is = tt
declared_names (trees.map_decl span ns ss to) is = tt
declared_names (trees.vars_decl span gs) is = group_names gs is
declared_names (trees.equation_decl span c l r) is = tt
declared_names (trees.act_decl span ns ss) is = tt
declared_names (trees.proc_decl span p gs body) is = tt
declared_names (trees.init_decl span body) is = tt

pub section_names_are : (texts : List Name) (ds : List Decl) → AreReadyDeclarations texts ds → AreVariableNames (variables_under ds)
section_names_are texts [] all = tt
section_names_are texts (d ∷ ds) all =
    all_both (λ (x : Name × SortExpression). IsToken x.0 Identifier) (variables_by (declaration_of d)) (variables_under ds) (declared_names (plain_decl d) all.0.0) (section_names_are texts ds all.1)
