-- The numerals of a specification that tokens spell are small.
use Rattle.std.proofs.Common.{◌<◌, ◌^◌, List, [], ◌∷◌, ◌++◌, map}
use Rattle.std.specs.Prelude.{codes}
use Rattle.std.specs.List.{AllByRecursion, flat_map}
use Rattle.mcrl2_syntax.specs.DataTrees as datas
use Rattle.mcrl2_syntax.specs.DataTrees.{PlainData, PlainDatas, PlainOperands, no_datas, more_datas, no_operands, more_operands}
use Rattle.mcrl2_syntax.specs.ProcessParts.{PlainAction, tau_action, named_action, PlainAssignment}
use Rattle.mcrl2_syntax.specs.ProcessTrees as processes
use Rattle.mcrl2_syntax.specs.ProcessTrees.{PlainProcess, PlainProcesses, no_processes, more_processes}
use Rattle.mcrl2_syntax.specs.Declarations as trees
use Rattle.mcrl2_syntax.specs.Declarations.{PlainDecl, PlainSection, PlainSpec}
use Rattle.mcrl2_syntax.specs.TreeWords.{IsDataOfWords, AreDatasOfWords, AreOperandsOfWords, IsActionOfWords, IsAssignmentOfWords, IsProcessOfWords, AreProcessesOfWords, IsDeclarationOfWords, IsSpecOfWords}
use Rattle.sort_table.specs.Expressions.{Name, Expression, two}
use Rattle.sort_table.specs.BareData.{infix_text, bare_data, bare_datas, to_the_left, to_the_right, behind}
use Rattle.sort_table.specs.BareProcesses.{bare_action, bare_process, bare_processes}
use Rattle.sort_table.specs.BareDeclarations.{Declaration, bare_declaration, bare_section, bare_sections, declarations_in}
use Rattle.data_typing.specs.TypingLaws.{HasSmallNumerals, EachPartOf}
use Rattle.sort_checker.specs.FullVocabularies.{Written, process_by, processes_in}
use Rattle.sort_checker.specs.Systems.{initial_by}
use Rattle.sort_checker.specs.FittingBodies.{EachExpression, EachExpressionOf, EachArgument, EachValue}

mutual
  pub small_data : (d : PlainData) → IsDataOfWords d → HasSmallNumerals (bare_data d)
  small_data (datas.named w) h = (tt, tt)
  small_data (datas.numeral w) h = h.fits
  small_data (datas.true_data span) h = (tt, tt)
  small_data (datas.false_data span) h = (tt, tt)
  small_data (datas.listed span ds) h = small_datas ds h
  small_data (datas.applied span f ds) h = (tt, small_datas ds h.1)
  small_data (datas.brackets span d) h = small_data d h
  small_data (datas.prefix span sign d) h = (tt, (small_data d h, tt))
  small_data (datas.binary span sign d e) h = (tt, (small_data d h.0, (small_data e h.1, tt)))
  small_data (datas.sum_chain span d os) h = small_left (bare_data d) (small_data d h.0) os h.1
  small_data (datas.product_chain span d os) h = small_left (bare_data d) (small_data d h.0) os h.1
  small_data (datas.and_chain span ds) h = small_right (codes "&&") ds h
  small_data (datas.or_chain span ds) h = small_right (codes "||") ds h

  small_datas : (ds : PlainDatas) → AreDatasOfWords ds → EachPartOf (λ f. Unit {0}) (λ n. n < 2 ^ 128) (bare_datas ds)
  small_datas no_datas h = tt
  small_datas (more_datas d ds) h = (small_data d h.0, small_datas ds h.1)

  small_left : (e : Expression) → HasSmallNumerals e → (os : PlainOperands) → AreOperandsOfWords os → HasSmallNumerals (to_the_left e os)
  small_left e k no_operands h = k
  small_left e k (more_operands sign d os) h = small_left (two (infix_text sign) e (bare_data d)) (tt, (k, (small_data d h.0, tt))) os h.1

  small_right : (f : Name) (ds : PlainDatas) → AreDatasOfWords ds → HasSmallNumerals (to_the_right f ds)
  small_right f no_datas h = (tt, tt)
  small_right f (more_datas d ds) h = small_behind f (bare_data d) (small_data d h.0) ds h.1

  small_behind : (f : Name) (e : Expression) → HasSmallNumerals e → (ds : PlainDatas) → AreDatasOfWords ds → HasSmallNumerals (behind f e ds)
  small_behind f e k no_datas h = k
  small_behind f e k (more_datas d ds) h = (tt, (k, (small_behind f (bare_data d) (small_data d h.0) ds h.1, tt)))

each_small : (ds : List PlainData) → AllByRecursion IsDataOfWords ds → AllByRecursion HasSmallNumerals (map bare_data ds)
each_small [] h = tt
each_small (d ∷ ds) h = (small_data d h.0, each_small ds h.1)

small_action : (a : PlainAction) → IsActionOfWords a → EachArgument HasSmallNumerals (bare_action a)
small_action (tau_action span) h = tt
small_action (named_action span f ds) h = each_small ds h.1

pub small_actions : (as_ : List PlainAction) → AllByRecursion IsActionOfWords as_ → AllByRecursion (EachArgument HasSmallNumerals) (map bare_action as_)
small_actions [] h = tt
small_actions (a ∷ as_) h = (small_action a h.0, small_actions as_ h.1)

small_values : (ds : List PlainAssignment) → AllByRecursion IsAssignmentOfWords ds → EachValue HasSmallNumerals (map (λ (d : PlainAssignment). (d.name.bytes, bare_data d.value)) ds)
small_values [] h = tt
small_values (d ∷ ds) h = (small_data d.value h.0.1, small_values ds h.1)

mutual
  small_process : (p : PlainProcess) → IsProcessOfWords p → EachExpression HasSmallNumerals (bare_process p)
  small_process (processes.delta span) h = tt
  small_process (processes.acts a) h = (small_action a h, tt)
  small_process (processes.multi span as_) h = small_actions as_ h
  small_process (processes.sync span ps) h = small_processes ps h
  small_process (processes.call span p ds) h = small_values ds h.1
  small_process (processes.within span p) h = small_process p h
  small_process (processes.allow span sets p) h = small_process p h.1
  small_process (processes.block span ns p) h = small_process p h.1
  small_process (processes.hide span ns p) h = small_process p h.1
  small_process (processes.rename span rs p) h = small_process p h.1
  small_process (processes.comm span cs p) h = small_process p h.1
  small_process (processes.sequence span ps) h = small_processes ps h
  small_process (processes.sum span gs p) h = small_process p h.1
  small_process (processes.when span d p) h = (small_data d h.0, small_process p h.1)
  small_process (processes.either span d p q) h = (small_data d h.0, small_process p h.1, small_process q h.2)
  small_process (processes.left_merge span p q) h = (small_process p h.0, small_process q h.1)
  small_process (processes.parallel span ps) h = small_processes ps h
  small_process (processes.choice span ps) h = small_processes ps h

  small_processes : (ps : PlainProcesses) → AreProcessesOfWords ps → EachExpressionOf HasSmallNumerals (bare_processes ps)
  small_processes no_processes h = tt
  small_processes (more_processes p ps) h = (small_process p h.0, small_processes ps h.1)

-- ---- the definitions and `init` of a specification
abbrev IsSmall : Written → Type 0
IsSmall w = EachExpression HasSmallNumerals w.body

both_all : {A : Type 0} (P : A → Type 0) (xs ys : List A) → AllByRecursion P xs → AllByRecursion P ys → AllByRecursion P (xs ++ ys)
both_all P [] ys h k = k
both_all P (x ∷ xs) ys h k = (h.0, both_all P xs ys h.1 k)

small_definition : (d : PlainDecl) → IsDeclarationOfWords d → AllByRecursion IsSmall (process_by (bare_declaration d))
small_definition (trees.sorts_decl span ns) h = tt
small_definition (trees.alias_decl span n s) h = tt
small_definition (trees.struct_decl span n cs) h = tt
small_definition (trees.cons_decl span ns ss to) h = tt
small_definition (trees.map_decl span ns ss to) h = tt
small_definition (trees.vars_decl span gs) h = tt
small_definition (trees.equation_decl span c l r) h = tt
small_definition (trees.act_decl span ns ss) h = tt
small_definition (trees.proc_decl span p gs body) h = (small_process body h.2, tt)
small_definition (trees.init_decl span body) h = tt

small_start : (d : PlainDecl) → IsDeclarationOfWords d → AllByRecursion (EachExpression HasSmallNumerals) (initial_by (bare_declaration d))
small_start (trees.sorts_decl span ns) h = tt
small_start (trees.alias_decl span n s) h = tt
small_start (trees.struct_decl span n cs) h = tt
small_start (trees.cons_decl span ns ss to) h = tt
small_start (trees.map_decl span ns ss to) h = tt
small_start (trees.vars_decl span gs) h = tt
small_start (trees.equation_decl span c l r) h = tt
small_start (trees.act_decl span ns ss) h = tt
small_start (trees.proc_decl span p gs body) h = tt
small_start (trees.init_decl span body) h = (small_process body h, tt)

module _ {A : Type 0} (P : A → Type 0) (f : Declaration → List A) (each : (d : PlainDecl) → IsDeclarationOfWords d → AllByRecursion P (f (bare_declaration d))) where
  of_declarations : (ds : List PlainDecl) (rest : List Declaration) → AllByRecursion IsDeclarationOfWords ds → AllByRecursion P (flat_map f rest) → AllByRecursion P (flat_map f (map bare_declaration ds ++ rest))
  of_declarations [] rest h k = k
  of_declarations (d ∷ ds) rest h k = both_all P (f (bare_declaration d)) (flat_map f (map bare_declaration ds ++ rest)) (each d h.0) (of_declarations ds rest h.1 k)

  of_sections : (ss : List PlainSection) → AllByRecursion (λ (s : PlainSection). AllByRecursion IsDeclarationOfWords s.declarations) ss → AllByRecursion P (flat_map f (declarations_in (map bare_section ss)))
  of_sections [] h = tt
  of_sections (s ∷ ss) h = of_declarations s.declarations (declarations_in (map bare_section ss)) h.0 (of_sections ss h.1)

pub small_definitions : (spec : PlainSpec) → IsSpecOfWords spec → AllByRecursion (λ (w : Written). EachExpression HasSmallNumerals w.body) (processes_in (declarations_in (bare_sections spec)))
small_definitions spec h = of_sections IsSmall process_by small_definition spec.sections h

pub small_starts : (spec : PlainSpec) → IsSpecOfWords spec → AllByRecursion (EachExpression HasSmallNumerals) (flat_map initial_by (declarations_in (bare_sections spec)))
small_starts spec h = of_sections (EachExpression HasSmallNumerals) initial_by small_start spec.sections h
