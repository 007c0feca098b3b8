-- What making a text's parts in code stands on, and the parts together.
use Rattle.std.proofs.Common.{◌≡◌, ℕ, List, [], ◌∷◌, map, refl, sym, ap, ◌∙◌, subst}
use Rattle.std.specs.List.{All, AllByRecursion, flat_map}
use Rattle.std.proofs.lemmas.List.Elements.{All-nil}
use Rattle.data_theory.specs.Provable.{Equation}
use Rattle.data_theory.specs.Signature.{Sig}
use Rattle.data_theory.specs.WholeSignatures.{IsSignature}
use Rattle.data_theory.specs.IdTerms.{IsTreeWithin}
use Rattle.term_pool.specs.Pools.{PoolContents}
use Rattle.process_terms.specs.Processes.{Body, Definition}
use Rattle.process_terms.specs.PlainProcesses.{PlainModel}
use Rattle.sort_table.specs.BareDeclarations.{Declaration, Section, declarations_in}
use Rattle.sort_table.specs.BareProcesses.{Process}
use Rattle.sort_table.specs.Vocabularies.{EachPair}
use Rattle.data_typing.specs.declared.scope.Bound.{Bound}
use Rattle.data_typing.specs.declared.sort_tables.SortTables.{SortTables}
use Rattle.data_typing.specs.Contexts.{AreTablesOf, IsBoundOver}
use Rattle.sort_checker.specs.declared.process_tables.ProcessTable.{ProcessTable}
use Rattle.sort_checker.specs.declared.scoped_declarations.ScopedDecl.{ScopedDecl}
use Rattle.sort_checker.specs.Additions.{GoesOn}
use Rattle.sort_checker.specs.FullVocabularies.{FullVocabulary, Written, processes_in, IsEntry, IsOver}
use Rattle.sort_checker.specs.Parts.{ScopedDeclaration, scoped_declarations}
use Rattle.sort_checker.specs.Elaborations.{Elaborates, ElaboratesDefinition, WrittenEquation, ElaboratesEquation}
use Rattle.sort_checker.specs.ScopedTrees.{scoped_items}
use Rattle.sort_checker.specs.CodeContexts.{IsReady, IsNumbered, Sees}
use Rattle.sort_checker.specs.ElaboratedTexts.{equations_by, declarations_listed, numbered_processes, initial_in, CanElaborateEquations, AreElaboratedEquations, CanElaborateDefinitions, AreElaboratedDefinitions, CanElaborateStart, IsElaboratedStart}
use Rattle.sort_checker.specs.TextModels.{IsTypedOver, IsElaboratedText}
use Rattle.sort_checker.specs.TextProcesses.{ListsProcesses}
use Rattle.sort_checker.proofs.ListedDeclarations.{all_declarations, one_is_first, first_holds}
use Rattle.sort_checker.proofs.ListedProcesses.{table_tells}
use Rattle.sort_checker.proofs.MadeDefinitions.{definitions_on}
use Rattle.sort_checker.proofs.MadeEquations.{equations_on}
use Rattle.sort_checker.proofs.WellTypedTexts.{well_typed_texts_elaborate}
use Rattle.sort_checker.proofs.WhatStays.{sees_after}

-- no variables in scope
pub ready_first : (g : Sig) → IsSignature g → (p : PoolContents) (t : SortTables) → AreTablesOf g t → All (IsTreeWithin g) p.trees → IsReady g p t []
ready_first g signature p t tables trees = record { signature = signature; tables = tables; trees = trees; scope = All-nil (IsBoundOver g); numbers = All-nil (IsNumbered g) }

module _ (g : Sig) (ss : List Section) (list : List ScopedDecl) (items : scoped_items list ≡ scoped_declarations ss) where
  listed : declarations_listed list ≡ declarations_in ss
  listed = ap (map (λ (d : ScopedDeclaration). d.declaration)) items ∙ all_declarations ss

  pub equations_can : IsTypedOver g ss → CanElaborateEquations g (flat_map equations_by (scoped_items list))
  equations_can typed =
      let v : FullVocabulary = typed.vocabulary in
      record {
        vocabulary = v;
        over = typed.over.declared;
        elaborate = subst (λ (ds : List ScopedDeclaration). AllByRecursion (λ (e : WrittenEquation). (q : Equation) × ElaboratesEquation v e q) (flat_map equations_by ds)) (sym items) (well_typed_texts_elaborate v ss typed.well_typed).equations;
      }

  module _ (t : ProcessTable) (lists : ListsProcesses g (processes_in (declarations_listed list)) t) where
    pub sees_text : (v : FullVocabulary) → IsOver g ss v → Sees g t [] v []
    sees_text v over = record {
      sees_data = record { vocabulary = over.declared; variables = refl };
      processes = table_tells g (processes_in (declarations_listed list)) t lists v over.declared (subst (λ (ds : List Declaration). EachPair (IsEntry v.declared) (processes_in ds) v.processes) (sym listed) over.processes);
    }

    module _ (signature : IsSignature g) (p : PoolContents) (h : Sig) (q : PoolContents) (on : GoesOn g p h q) (typed : IsTypedOver g ss) where
      pub definitions_can_all : CanElaborateDefinitions h t (processes_in (declarations_listed list))
      definitions_can_all =
          let v : FullVocabulary = typed.vocabulary in
          record {
            vocabulary = v;
            sees = sees_after g p h q signature on t [] v [] (sees_text v typed.over);
            elaborate = subst (λ (ds : List Declaration). AllByRecursion (λ (w : Written). (d : Definition) × ElaboratesDefinition v w d) (processes_in ds)) (sym listed) (well_typed_texts_elaborate v ss typed.well_typed).definitions;
          }

      pub start_can : CanElaborateStart h t (declarations_listed list)
      start_can =
          let v : FullVocabulary = typed.vocabulary in
          let first = one_is_first 1 (declarations_in ss) typed.start.0 typed.start.1 in
          let body = first_holds (λ (r : Process). (b : Body) × Elaborates v [] r b) 1 (declarations_in ss) (well_typed_texts_elaborate v ss typed.well_typed).initial first.0 typed.start.0 first.1 in
          subst (CanElaborateStart h t) (sym listed)
          (record { vocabulary = v; sees = sees_after g p h q signature on t [] v [] (sees_text v typed.over); number = first.0; term = typed.start.0; first = first.1; body = body.0; elaborates = body.1 })

  -- the parts were made one after the other
  pub text_made : (v : FullVocabulary) (a : Sig) (o : PoolContents) (b : Sig) (q : PoolContents) → IsSignature b → (k : Sig) (r : PoolContents) → GoesOn b q k r → (m : PlainModel)
      → AreElaboratedEquations v a o (flat_map equations_by (scoped_items list)) m.equations → AreElaboratedDefinitions v b q (numbered_processes 1 (declarations_listed list)) m.definitions
      → IsElaboratedStart v k r (declarations_listed list) m.init_declaration m.init → GoesOn a o k r → IsElaboratedText v k r ss m
  text_made v a o b q signature k r other m equations definitions start both = record {
    equations = subst (λ (ds : List ScopedDeclaration). AreElaboratedEquations v k r (flat_map equations_by ds) m.equations) items (equations_on v a o k r both (flat_map equations_by (scoped_items list)) m.equations equations);
    definitions =
        subst (λ (ds : List Declaration). AreElaboratedDefinitions v k r (numbered_processes 1 ds) m.definitions) listed
        (definitions_on v b signature q k r other (numbered_processes 1 (declarations_listed list)) m.definitions definitions);
    start = subst (λ (ds : List Declaration). IsElaboratedStart v k r ds m.init_declaration m.init) listed start;
  }
