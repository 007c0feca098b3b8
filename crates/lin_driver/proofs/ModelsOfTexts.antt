-- The model of a text is one for which a well-typed text stands.
use Rattle.std.proofs.Common.{◌≡◌, ℕ, List, [], ◌∷◌, map, sym, ap, subst, ◌∙◌}
use Rattle.std.proofs.lemmas.Option.{same_Some}
use Rattle.data_theory.specs.Signature.{Sig}
use Rattle.mcrl2_syntax.specs.Declarations.{PlainSpec}
use Rattle.term_pool.specs.Pools.{PoolContents}
use Rattle.process_terms.specs.Processes.{Definition}
use Rattle.process_terms.specs.PlainProcesses.{PlainDefinition, PlainModel}
use Rattle.process_terms.specs.Meanings.{bound_at, definition_of, body_of}
use Rattle.process_terms.specs.SignatureEntries.{entries_of}
use Rattle.sort_table.specs.BareProcesses.{Process}
use Rattle.sort_table.specs.BareDeclarations.{bare_sections, declarations_in}
use Rattle.sort_table.specs.Vocabularies.{EachPair}
use Rattle.sort_checker.specs.FullVocabularies.{FullVocabulary, Written}
use Rattle.sort_checker.specs.Elaborations.{Elaborates, ElaboratesDefinition}
use Rattle.sort_checker.specs.ElaboratedTexts.{numbered_processes, IsElaboratedDefinition, AreElaboratedDefinitions}
use Rattle.sort_checker.specs.TextModels.{IsModelOf}
use Rattle.sort_checker.proofs.Adding.{goes_nowhere}
use Rattle.sort_checker.proofs.ListedDeclarations.{one_is_first, without_numbers}
use Rattle.lin_driver.specs.ElaboratedModels.{IsDefinitionOf, IsElaborated}
use Rattle.lin_driver.specs.ModelsOfTexts.{ModelsOfTextsCanBeLinear}
use Rattle.lin_driver.proofs.ElaboratedModels.{what_elaborates_can_be_linear}

module _ (v : FullVocabulary) (g : Sig) (p : PoolContents) where
  -- a definition, and its parameters with their sorts
  abbrev BoundAs : Written → PlainDefinition → Definition → Type 0
  BoundAs w x d = (e : ElaboratesDefinition v w d) × (map (bound_at (entries_of g p.trees)) x.params ≡ e.bounds)

  definition_is : (w : ℕ × Written) (x : PlainDefinition) → IsElaboratedDefinition v g p w x → IsDefinitionOf v g p w.1 x
  definition_is w x one =
      let here = goes_nowhere g p in
      let made : BoundAs w.1 x (definition_of (entries_of g p.trees) x) = subst (BoundAs w.1 x) (sym (one.stands.means g p here)) (one.elaborates, one.bounds g p here) in
      record { elaborates = made.0; bounds = made.1 }

  definitions_are : (ws : List (ℕ × Written)) (xs : List PlainDefinition) → AreElaboratedDefinitions v g p ws xs → EachPair (IsDefinitionOf v g p) (map (λ (w : ℕ × Written). w.1) ws) xs
  definitions_are [] [] all = tt
  definitions_are [] (x ∷ xs) all = absurd all
  definitions_are (w ∷ ws) [] all = absurd all
  definitions_are (w ∷ ws) (x ∷ xs) all = (definition_is w x all.0, definitions_are ws xs all.1)

pub model_elaborates : (spec : PlainSpec) (g : Sig) (p : PoolContents) (m : PlainModel) → (is : IsModelOf spec g p m) → IsElaborated is.vocabulary g p spec m
model_elaborates spec g p m is =
    let v : FullVocabulary = is.vocabulary in
    let ds = declarations_in (bare_sections spec) in
    let init = is.text.start in
    let first = one_is_first 1 ds is.system.initial_term is.system.one_init in
    let same : init.term ≡ is.system.initial_term = ap (λ (r : ℕ × Process). r.1) (same_Some (m.init_declaration, init.term) (first.0, is.system.initial_term) (sym init.first ∙ first.1)) in
    let starts : Elaborates v [] init.term (body_of (entries_of g p.trees) m.init) = subst (Elaborates v [] init.term) (sym (init.elaborated.stands.means g p (goes_nowhere g p))) init.elaborated.elaborates in
    record {
      over = is.over;
      definitions = subst (λ (ws : List Written). EachPair (IsDefinitionOf v g p) ws m.definitions) (without_numbers 1 ds) (definitions_are v g p (numbered_processes 1 ds) m.definitions is.text.definitions);
      init = is.system.initial_term;
      one_init = is.system.one_init;
      start = subst (λ (q : Process). Elaborates v [] q (body_of (entries_of g p.trees) m.init)) same starts;
      there = is.there;
      trees = is.trees;
    }

pub models_of_texts_can_be_linear : ModelsOfTextsCanBeLinear
models_of_texts_can_be_linear spec g p m words signature inhabited constants names is = what_elaborates_can_be_linear is.vocabulary g p spec m words signature inhabited constants names (model_elaborates spec g p m is)
