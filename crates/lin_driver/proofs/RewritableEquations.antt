-- Terms can be rewritten by the written equations of what was made of a text.
use Rattle.std.proofs.Common.{◌≡◌, ◌<◌, ℕ, List, [], ◌∷◌, ◌++◌, map, length, get_or, refl, sym, ap, ◌∙◌, subst, Option, Some, None, append_assoc}
use Rattle.std.specs.List.{All, AllByRecursion, Contains, flat_map}
use Rattle.std.proofs.lemmas.List.{length-map}
use Rattle.std.proofs.lemmas.List.Elements.{All-nil, All-cons, All-head, All-tail, All-contains, Contains-append_left, Contains-append_right}
use Rattle.data_theory.specs.declared.ids.TermId.{TermId}
use Rattle.data_theory.specs.Complete.{BeginsWith}
use Rattle.data_theory.specs.declared.ids.VarId.{VarId}
use Rattle.data_theory.specs.declared.ids.NameId.{NameId}
use Rattle.data_theory.specs.Declarations.{Data, HasSort}
use Rattle.data_theory.specs.EqualityLaws.{Grows}
use Rattle.data_theory.specs.Provable.{Equation}
use Rattle.data_theory.specs.Rewriting.{IsNoVariable, IsCovered, IsWellFormed}
use Rattle.data_theory.specs.Signature.{Sig}
use Rattle.data_theory.specs.Terms.{Sort, Term, boolean, variable, numeral, unknown, application, variables_of}
use Rattle.data_theory.specs.IdData.{data_meant}
use Rattle.data_theory.specs.IdTerms.{IsTreeWithin, term_under}
use Rattle.data_theory.specs.IdTrees.{Tree}
use Rattle.data_theory.specs.IdTrees as trees
use Rattle.data_theory.proofs.GrowthLemmas.{growth_keeps_sorts}
use Rattle.data_theory.proofs.IdDataLemmas.{growth_keeps_meant_data}
use Rattle.data_theory.proofs.IdGrowthLemmas.{growth_after_growth_is_growth}
use Rattle.mcrl2_syntax.specs.DataTrees.{PlainData}
use Rattle.mcrl2_syntax.specs.Declarations as decls
use Rattle.mcrl2_syntax.specs.Declarations.{PlainDecl, PlainSection, PlainSpec}
use Rattle.mcrl2_syntax.specs.ProcessTrees as processes
use Rattle.mcrl2_syntax.proofs.WordsOfTokens.{specs_are_of_words}
use Rattle.mcrl2_syntax.specs.TreeWords.{IsDataOfWords, IsConditionOfWords, IsDeclarationOfWords, IsSectionOfWords, IsSpecOfWords}
use Rattle.term_pool.specs.declared.terms.Equation.{Equation as Written}
use Rattle.term_pool.specs.declared.terms.Theory.{Theory}
use Rattle.term_pool.specs.HeadTrees.{no_tree, tree_at, IsIn}
use Rattle.term_pool.specs.Pools.{PoolContents}
use Rattle.process_terms.specs.Meanings.{Grows as EntriesGrow, HasEquation, HasTerm, HasModel, equation_of, term_at as entry_at, theory_of, process_of}
use Rattle.process_terms.specs.PlainProcesses.{PlainEquation, PlainModel, plain_equation}
use Rattle.process_terms.specs.SignatureEntries.{entries_of, BothGrow}
use Rattle.process_terms.specs.Theories as theories
use Rattle.process_terms.proofs.EntryLemmas.{signatures_add_entries}
use Rattle.process_terms.proofs.MeaningLemmas.{models_are_settled}
use Rattle.data_theory.specs.WholeSignatures.{IsSignature}
use Rattle.lps_core.specs.PlainLinears.{PlainLinear}
use Rattle.lps_core.proofs.Staying.{term_is, tree_stays}
use Rattle.data_rewriter.specs.Standing.{IsTerm}
use Rattle.data_rewriter.specs.Simplifying.{AreWellFormed}
use Rattle.data_rewriter.specs.Written.{IsLeft, IsRule, IsEquationOf, AreEquationsOf, rule_of, rules_of}
use Rattle.sort_table.specs.BareData.{bare_data}
use Rattle.sort_table.specs.BareDeclarations.{Declaration, Section, bare_condition, bare_declaration, bare_section, bare_sections}
use Rattle.sort_table.specs.BareProcesses.{Variables}
use Rattle.sort_table.specs.Vocabularies.{Vocabulary, EachPair}
use Rattle.data_typing.specs.TypingLaws.{HasSmallNumerals}
use Rattle.data_typing.proofs.TreesWithin.{kept_over_growth}
use Rattle.sort_checker.specs.Elaborations.{WrittenEquation, ElaboratesEquation}
use Rattle.sort_checker.specs.FittingBodies.{EachOption, IsOverSorts}
use Rattle.sort_checker.specs.FullVocabularies.{FullVocabulary}
use Rattle.sort_checker.specs.Parts.{ScopedDeclaration, scoped_behind, variables_by}
use Rattle.sort_checker.specs.Systems.{equation_under, equations_in}
use Rattle.sort_checker.specs.TextModels.{IsModelOf}
use Rattle.sort_checker.proofs.EquationsHere.{over_its_own}
use Rattle.sort_checker.proofs.FittingEquations.{equations_fit}
use Rattle.sort_checker.proofs.SignatureSorts.{over_sorts}
use Rattle.sort_checker.proofs.SmallNumerals.{small_starts}
use Rattle.lin_driver.specs.Eliminations.{equations_at, CanRewrite}
use Rattle.lin_driver.specs.Linearised.{IsMadeOf}
use Rattle.lin_driver.specs.declared.ending.Ending.{Ending}
use Rattle.lin_driver.proofs.EndedTexts.{ended_as}

-- ---- the numerals of written equations are small
-- an expression of a text is the condition of some `init`
small_datum : (s : PlainSection) (d : PlainData) → IsDataOfWords d → HasSmallNumerals (bare_data d)
small_datum s d h =
    (small_starts (record { sections = record s { declarations = decls.init_decl s.span (processes.when s.span d (processes.delta s.span)) ∷ [] } ∷ [] }) (((h, tt), tt), tt)).0.0

small_condition : (s : PlainSection) (c : Option PlainData) → IsConditionOfWords c → EachOption HasSmallNumerals (bare_condition c)
small_condition s None h = tt
small_condition s (Some d) h = small_datum s d h

pub record IsSmall (e : WrittenEquation) : Type 0 where
  pub condition : EachOption HasSmallNumerals e.condition
  pub left : HasSmallNumerals e.left
  pub right : HasSmallNumerals e.right

small_declaration : (s : PlainSection) (xs : Variables) (d : PlainDecl) → IsDeclarationOfWords d → AllByRecursion IsSmall (equation_under xs (bare_declaration d))
small_declaration s xs (decls.sorts_decl span ns) h = tt
small_declaration s xs (decls.alias_decl span n t) h = tt
small_declaration s xs (decls.struct_decl span n cs) h = tt
small_declaration s xs (decls.cons_decl span ns ss to) h = tt
small_declaration s xs (decls.map_decl span ns ss to) h = tt
small_declaration s xs (decls.vars_decl span gs) h = tt
small_declaration s xs (decls.equation_decl span c l r) h = (record { condition = small_condition s c h.0; left = small_datum s l h.1; right = small_datum s r h.2 }, tt)
small_declaration s xs (decls.act_decl span ns ss) h = tt
small_declaration s xs (decls.proc_decl span p gs body) h = tt
small_declaration s xs (decls.init_decl span body) h = tt

both_all : {A : Type 0} (P : A → Type 0) (xs ys : List A) → AllByRecursion P xs → AllByRecursion P ys → AllByRecursion P (xs ++ ys)
both_all P [] ys h k = k
both_all P (x ∷ xs) ys h k = (h.0, both_all P xs ys h.1 k)

abbrev in_scope : ScopedDeclaration → List WrittenEquation
in_scope d = equation_under d.variables d.declaration

small_declarations : (s : PlainSection) (xs : Variables) (ds : List PlainDecl) (rest : List ScopedDeclaration) → AllByRecursion IsDeclarationOfWords ds → AllByRecursion IsSmall (flat_map in_scope rest)
    → AllByRecursion IsSmall (flat_map in_scope (map (λ (d : Declaration). record { variables = xs; declaration = d }) (map bare_declaration ds) ++ rest))
small_declarations s xs [] rest h k = k
small_declarations s xs (d ∷ ds) rest h k =
    both_all IsSmall (equation_under xs (bare_declaration d)) (flat_map in_scope (map (λ (e : Declaration). record { variables = xs; declaration = e }) (map bare_declaration ds) ++ rest)) (small_declaration s xs d h.0) (small_declarations s xs ds rest h.1 k)

small_sections : (xs : Variables) (ss : List PlainSection) → AllByRecursion IsSectionOfWords ss → AllByRecursion IsSmall (flat_map in_scope (scoped_behind xs (map bare_section ss)))
small_sections xs [] h = tt
small_sections xs (s ∷ ss) h =
    let ys = flat_map variables_by (map bare_declaration s.declarations) in
    small_declarations s xs s.declarations (scoped_behind ys (map bare_section ss)) h.0 (small_sections ys ss h.1)

pub small_equations : (spec : PlainSpec) → IsSpecOfWords spec → AllByRecursion IsSmall (equations_in (bare_sections spec))
small_equations spec h = small_sections [] spec.sections h

-- ---- left sides
no_variable_is : (t : Term) → ((n : ℕ) → ¬ (t ≡ variable n)) → IsNoVariable t
no_variable_is (variable v) h = h v refl
no_variable_is (numeral a z) h = tt
no_variable_is (unknown d k) h = tt
no_variable_is (application f ts) h = tt

is_left : (g : Sig) (t : Tree) → IsNoVariable (term_under g t) → IsLeft t
is_left g (trees.variable v) h = h
is_left g (trees.numeral a z) h = tt
is_left g (trees.function f ts) h = tt

-- ---- an equation that elaborates is well formed
pub elaborated_is_well_formed : (v : FullVocabulary) → IsOverSorts v → (e : WrittenEquation) (q : Equation) → IsSmall e → ElaboratesEquation v e q → IsWellFormed v.declared.tables q
elaborated_is_well_formed v over e q small elaborates =
    let fit = equations_fit v over e q small.condition small.left small.right elaborates in
    record {
      covered = record {
        condition = over_its_own (variables_of q.left) q.condition (λ n i. elaborates.no_other n (Contains-append_left (variables_of q.condition) (variables_of q.right) n i));
        right = over_its_own (variables_of q.left) q.right (λ n i. elaborates.no_other n (Contains-append_right (variables_of q.condition) (variables_of q.right) n i));
      };
      no_variable = no_variable_is q.left elaborates.no_variable;
      sort = fit.0;
      condition = fit.3;
      left = fit.1;
      right = fit.2;
    }

-- ---- what was made of a text
-- the specification has a model with these equations, over a signature and a pool from which these have grown
pub record HasModelBelow (spec : PlainSpec) (h : Sig) (us : List Tree) (equations : List PlainEquation) : Type 0 where
  pub signature : Sig
  pub pool : PoolContents
  pub model : PlainModel
  pub stands : IsSignature signature
  pub is_model : IsModelOf spec signature pool model
  pub its_equations : model.equations ≡ equations
  pub grow : BothGrow signature h pool.trees us
  pub later : IsSignature h
  pub words : IsSpecOfWords spec

-- there is that of the text
pub model_below : (ending : Ending) (text : List ℕ) (spec : PlainSpec) (h : Sig) (us : List Tree) (equations : List PlainEquation) (x : NameId) (l : PlainLinear) → IsMadeOf ending text spec h us equations x l → HasModelBelow spec h us equations
model_below ending text spec h us equations x l made =
    let m = made.made in
    let ended = ended_as spec made.signature made.trees equations x made.linear m ending h us l made.ended in
    record {
      signature = m.signature;
      pool = m.pool;
      model = m.model;
      stands = m.stands;
      is_model = m.is_model;
      its_equations = m.its_equations;
      grow = record { signature = growth_after_growth_is_growth m.signature made.signature h m.grow.signature ended.grow.signature; pool = begins_then m.pool.trees made.trees us m.grow.pool ended.grow.pool };
      later = ended.stands;
      words = specs_are_of_words text spec made.tokens made.cut made.spelled;
    }
  where
    begins_then : (xs ys zs : List Tree) → BeginsWith xs ys → BeginsWith ys zs → BeginsWith xs zs
    begins_then xs ys zs (m, e) (n, f) = (m ++ n, f ∙ ap (λ (ts : List Tree). ts ++ n) e ∙ append_assoc xs m n)

module _ (spec : PlainSpec) (h : Sig) (us : List Tree) (equations : List PlainEquation) (made : HasModelBelow spec h us equations) where
  abbrev g : Sig
  g = made.signature

  abbrev ts : List Tree
  ts = made.pool.trees

  abbrev v : FullVocabulary
  v = made.is_model.vocabulary

  new : IsSignature h
  new = made.later

  grows : EntriesGrow (entries_of g ts) (entries_of h us)
  grows = signatures_add_entries g h ts us made.stands.table made.stands.complete made.is_model.trees made.grow

  settled : ((d : Data) → theory_of d (entries_of h us) made.model ≡ theory_of d (entries_of g ts) made.model) × (process_of (entries_of h us) made.model ≡ process_of (entries_of g ts) made.model) × HasModel (entries_of h us) made.model
  settled = models_are_settled (entries_of g ts) (entries_of h us) grows made.model made.is_model.there

  -- the equations mean what they meant to the text
  pub equations_are : equations_at h us equations ≡ equations_at g ts made.model.equations
  equations_are = ap (equations_at h us) (sym made.its_equations) ∙ ap (λ (th : theories.Theory). th.equations) (settled.0 (data_meant g))

  -- ---- they are well formed
  data_grow : Grows (data_meant g) (data_meant h)
  data_grow = growth_keeps_meant_data g h made.stands.table made.stands.roles new.roles made.grow.signature

  data_are : v.declared.tables ≡ data_meant g
  data_are = ap (λ (w : Vocabulary). w.tables) made.is_model.over.declared

  sorted_later : (q : Equation) (t : Term) (s : Sort) → HasSort v.declared.tables q.sorts t s → HasSort (data_meant h) q.sorts t s
  sorted_later q t s i = growth_keeps_sorts (data_meant g) (data_meant h) data_grow q.sorts t s (subst (λ (d : Data). HasSort d q.sorts t s) data_are i)

  well_formed : (e : WrittenEquation) (q : Equation) → IsSmall e → ElaboratesEquation v e q → IsWellFormed (data_meant h) q
  well_formed e q small elaborates =
      let well = elaborated_is_well_formed v (over_sorts g made.stands (bare_sections spec) v made.is_model.over) e q small elaborates in
      record { covered = well.covered; no_variable = well.no_variable; sort = well.sort; condition = sorted_later q q.condition boolean well.condition; left = sorted_later q q.left well.sort well.left; right = sorted_later q q.right well.sort well.right }

  all_well_formed : (es : List WrittenEquation) (qs : List Equation) → AllByRecursion IsSmall es → EachPair (ElaboratesEquation v) es qs → All (IsWellFormed (data_meant h)) qs
  all_well_formed [] [] small pairs = All-nil (IsWellFormed (data_meant h))
  all_well_formed [] (q ∷ qs) small pairs = absurd pairs
  all_well_formed (e ∷ es) [] small pairs = absurd pairs
  all_well_formed (e ∷ es) (q ∷ qs) small pairs = All-cons (IsWellFormed (data_meant h)) q qs (well_formed e q small.0 pairs.0) (all_well_formed es qs small.1 pairs.1)

  are_well_formed : All (IsWellFormed (data_meant h)) (equations_at h us equations)
  are_well_formed =
      subst (All (IsWellFormed (data_meant h))) (sym equations_are)
      (all_well_formed (equations_in (bare_sections spec)) (equations_at g ts made.model.equations) (small_equations spec made.words) made.is_model.system.equations)

  -- ---- they are rules
  within_later : All (IsTreeWithin h) ts
  within_later = kept_over_growth g h made.grow.signature ts made.is_model.trees

  is_term : (id : TermId) → HasTerm (entries_of g ts) id → IsTerm h us id
  is_term id there =
      let inside : IsIn ts id = subst (λ n. id.0 < n) (length-map ts (term_under g)) there in
      let stays = tree_stays g h ts us made.stands.table made.stands.complete made.grow id inside in
      record { inside = stays.1; within = subst (IsTreeWithin h) (sym stays.0) (within_later id.0 no_tree inside) }

  -- over the signature, the term is the one that the pool has
  means : (id : TermId) → IsTerm h us id → entry_at (entries_of h us) id ≡ term_under h (tree_at us id)
  means id there = term_is h us id there.inside

  its_terms : (q : PlainEquation) → HasEquation (entries_of g ts) q → IsTerm h us q.condition × IsTerm h us q.left × IsTerm h us q.right
  its_terms q there = (is_term q.condition there.1, is_term q.left there.2, is_term q.right there.3)

  is_rule : (q : Written) → HasEquation (entries_of g ts) (plain_equation q) → IsWellFormed (data_meant h) (equation_of (entries_of h us) (plain_equation q)) → IsRule h us (rule_of q) × IsEquationOf h us (rule_of q) (equation_of (entries_of h us) (plain_equation q))
  is_rule q there well =
      let terms = its_terms (plain_equation q) there in (
        record { condition = terms.0; left = terms.1; right = terms.2; no_variable = is_left h (tree_at us q.left) (subst IsNoVariable (means q.left terms.1) well.no_variable) },
        record { condition = means q.cond terms.0; left = means q.left terms.1; right = means q.right terms.2 },
      )

  are_rules : (qs : List Written) → All (HasEquation (entries_of g ts)) (map plain_equation qs) → All (IsWellFormed (data_meant h)) (equations_at h us (map plain_equation qs))
      → All (IsRule h us) (map rule_of qs) × AreEquationsOf h us (map rule_of qs) (equations_at h us (map plain_equation qs))
  are_rules [] there well = (All-nil (IsRule h us), tt)
  are_rules (q ∷ qs) there well =
      let P = HasEquation (entries_of g ts) in
      let W = IsWellFormed (data_meant h) in
      let first = is_rule q (All-head P (plain_equation q) (map plain_equation qs) there) (All-head W (equation_of (entries_of h us) (plain_equation q)) (equations_at h us (map plain_equation qs)) well) in
      let rest = are_rules qs (All-tail P (plain_equation q) (map plain_equation qs) there) (All-tail W (equation_of (entries_of h us) (plain_equation q)) (equations_at h us (map plain_equation qs)) well) in
      (All-cons (IsRule h us) (rule_of q) (map rule_of qs) first.0 rest.0, (first.1, rest.1))

pub can_rewrite : (spec : PlainSpec) (h : Sig) (us : List Tree) (theory : Theory) → HasModelBelow spec h us (map plain_equation theory.equations.items) → CanRewrite h us theory
can_rewrite spec h us theory made =
    let equations = map plain_equation theory.equations.items in
    let well = are_well_formed spec h us equations made in
    let there = subst (All (HasEquation (entries_of made.signature made.pool.trees))) made.its_equations made.is_model.there.0 in
    let both = are_rules spec h us equations made theory.equations.items there well in
    record { rules = both.0; equations = both.1; well_formed = λ q i. All-contains (IsWellFormed (data_meant h)) (equations_at h us equations) q well i }

-- the equations of what was made of a text mean what they meant to it
pub made_equations_are : (ending : Ending) (text : List ℕ) (spec : PlainSpec) (h : Sig) (us : List Tree) (equations : List PlainEquation) (x : NameId) (l : PlainLinear) (made : IsMadeOf ending text spec h us equations x l)
    → equations_at h us equations ≡ equations_at made.made.signature made.made.pool.trees made.made.model.equations
unfolding model_below
made_equations_are ending text spec h us equations x l made = equations_are spec h us equations (model_below ending text spec h us equations x l made)
