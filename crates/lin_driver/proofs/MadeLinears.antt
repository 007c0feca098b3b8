-- The model that elaboration makes over the signature of a text can be linearised.
use Rattle.std.proofs.Common.{◌≡◌, [], sym, ap, subst, ◌∙◌}
use Rattle.std.specs.Prelude.{◌↔◌, ◌⊎◌}
use Rattle.std.specs.List.{Contains}
use Rattle.std.proofs.lemmas.List.Elements.{All-nil}
use Rattle.std.proofs.lemmas.Option.{none-some}
use Rattle.data_theory.specs.Declarations.{NoSortIsEmpty}
use Rattle.data_theory.specs.FirstNames.{first_names}
use Rattle.data_theory.specs.Signature.{Sig, IsTaken}
use Rattle.data_theory.specs.WholeSignatures.{IsSignature}
use Rattle.data_theory.specs.IdData.{data_meant}
use Rattle.mcrl2_syntax.specs.Declarations.{PlainSpec}
use Rattle.mcrl2_syntax.specs.TreeWords.{IsSpecOfWords}
use Rattle.term_pool.specs.Pools.{PoolContents}
use Rattle.term_pool.specs.Constants.{AreConstants, IsConstantOf}
use Rattle.process_terms.specs.PlainProcesses.{PlainModel}
use Rattle.sort_table.specs.Built.{IsBuilt}
use Rattle.sort_table.specs.Expressions.{Name}
use Rattle.sort_table.specs.Identifiers.{copied_identifiers}
use Rattle.sort_table.specs.Vocabularies.{Vocabulary}
use Rattle.sort_checker.specs.Additions.{AddsVariables, GoesOn, nothing, one_list, one_variable}
use Rattle.sort_checker.specs.TextModels.{IsModelOf}
use Rattle.sort_checker.proofs.Adding.{signature_stays, vocabulary_stays}
use Rattle.lin_driver.specs.ModelLinears.{CanBeLinear}
use Rattle.lin_driver.proofs.ModelsOfTexts.{models_of_texts_can_be_linear}
use Rattle.lin_driver.proofs.NamedVariables.{none_named, added_named}

no_constants : (g : Sig) → AreConstants g []
no_constants g = record { each = All-nil (λ c. IsConstantOf g c.0 c.1); once = λ i j x a b. absurd (none-some x a) }

pub model_can_be_linear : (spec : PlainSpec) (g h : Sig) (p q : PoolContents) (m : PlainModel) → IsSpecOfWords spec → IsSignature g → IsBuilt spec g → p.constants ≡ [] → GoesOn g p h q → IsModelOf spec h q m → CanBeLinear h q m
model_can_be_linear spec g h p q m words stands built none on is =
    let same : data_meant h ≡ data_meant g = ap (λ (v : Vocabulary). v.tables) (vocabulary_stays g h stands on.added) in
    models_of_texts_can_be_linear spec h q m words (signature_stays g h stands on.added) (subst NoSortIsEmpty (sym same) built.inhabited) (subst (AreConstants h) (sym (on.constants ∙ none)) (no_constants h)) (added_named g h on.added (none_named g built.declared.no_variables)) is

-- ---- names
-- no name is taken as list sorts and variables are added
taken_before : (g h : Sig) (t : Name) → AddsVariables g h → IsTaken h t → IsTaken g t
taken_before g _ t nothing is = is
taken_before g _ t (one_list h e l absent a) is = taken_before g h t a is
taken_before g _ t (one_variable h x n i s a) is = taken_before g h t a is

taken_since : (g h : Sig) (t : Name) → AddsVariables g h → IsTaken g t → IsTaken h t
taken_since g _ t nothing is = is
taken_since g _ t (one_list h e l absent a) is = taken_since g h t a is
taken_since g _ t (one_variable h x n i s a) is = taken_since g h t a is

pub taken_in_the_model : (spec : PlainSpec) (g h : Sig) → IsBuilt spec g → AddsVariables g h → (t : Name) → IsTaken h t ↔ (Contains first_names t ⊎ Contains (copied_identifiers spec) t)
taken_in_the_model spec g h built a t = (λ is. (built.declared.taken t).0 (taken_before g h t a is), λ its. taken_since g h t a ((built.declared.taken t).1 its))
