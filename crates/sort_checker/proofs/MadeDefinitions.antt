-- Definitions in code, from their parts.
use Rattle.std.proofs.Common.{◌≡◌, ◌<◌, length, get_or, ℕ, List, [], ◌∷◌, ◌++◌, map, refl, sym, ap, ◌∙◌, subst}
use Rattle.std.specs.Prelude.{Some, slice_get}
use Rattle.std.specs.List.{All, AllByRecursion, Contains}
use Rattle.data_theory.specs.declared.ids.NameId.{NameId}
use Rattle.data_theory.specs.declared.ids.VarId.{VarId}
use Rattle.data_theory.specs.Signature.{Sig}
use Rattle.data_theory.specs.WholeSignatures.{IsSignature}
use Rattle.data_theory.specs.IdTerms.{IsTreeWithin}
use Rattle.mcrl2_syntax.specs.Words.{PlainWord}
use Rattle.mcrl2_syntax.specs.ProcessParts.{PlainVarGroup}
use Rattle.mcrl2_syntax.specs.ProcessTrees as trees
use Rattle.mcrl2_syntax.specs.ProcessTrees.{no_processes, more_processes}
use Rattle.mcrl2_syntax.specs.TreeWords.{IsGroupOfWords}
use Rattle.mcrl2_syntax.proofs.Lists.{all_front, all_back, all_both}
use Rattle.std.proofs.lemmas.List.{map-append}
use Rattle.sort_table.proofs.KeptFunctions.{pairs_pushed}
use Rattle.term_pool.specs.Pools.{PoolContents}
use Rattle.process_terms.specs.Processes as processes
use Rattle.process_terms.specs.Processes.{Body}
use Rattle.process_terms.specs.declared.definitions.ProcDef.{ProcDef}
use Rattle.process_terms.specs.PlainProcesses.{PlainProcess, PlainDefinition, plain_definition}
use Rattle.process_terms.specs.Meanings.{Entries, bound_at, body_of, definition_of, HasVariable}
use Rattle.process_terms.specs.SignatureEntries.{entries_of}
use Rattle.sort_table.specs.DeclarationTrees.{declaration_of}
use Rattle.sort_table.specs.Expressions.{Name}
use Rattle.sort_table.specs.BareSorts.{SortExpression, bare_sort}
use Rattle.sort_table.specs.BareProcesses.{Variables, bare_group, bare_variables, bare_process, bare_processes}
use Rattle.sort_table.specs.SignatureVocabularies.{vocabulary_of}
use Rattle.data_typing.specs.declared.scope.Bound as code
use Rattle.data_typing.specs.CodeWords.{scope_of}
use Rattle.data_typing.specs.Meanings.{Scope}
use Rattle.sort_checker.specs.declared.process_tables.ProcessTable.{ProcessTable}
use Rattle.sort_checker.specs.Additions.{GoesOn}
use Rattle.sort_checker.specs.FullVocabularies.{FullVocabulary, Written, process_by, processes_in}
use Rattle.sort_checker.specs.Elaborations.{Elaborates, ElaboratesDefinition}
use Rattle.sort_checker.specs.ElaboratedParts.{AreBinders}
use Rattle.sort_checker.specs.ReadyTrees.{some_variables, leaves_in, leaves_in_all, IsReadyGroup, IsReadyLeaf, AreReadyGroups, AreReadyLeaves}
use Rattle.sort_checker.specs.ScopeLaws.{SameNames, same_none}
use Rattle.sort_checker.specs.NumberedWords.{IsNumberOf}
use Rattle.sort_checker.specs.CodeContexts.{SeesData, Sees, AreBound, CanElaborate, IsElaborated, VariablesStand, SumNamesStand, AllSumNamesStand}
use Rattle.sort_checker.specs.declared.scoped_declarations.ScopedDecl.{ScopedDecl}
use Rattle.sort_checker.specs.ElaboratedTexts.{declarations_listed, CanElaborateDefinitions, IsElaboratedDefinition, AreElaboratedDefinitions}
use Rattle.sort_checker.proofs.Adding.{goes_nowhere, goes_then, vocabulary_stays, texts_stay}
use Rattle.sort_checker.proofs.ListedDeclarations.{processes_part}
use Rattle.sort_checker.proofs.MadeEquations.{binders_on}
use Rattle.sort_checker.proofs.WhatStays.{sees_after}
use Rattle.sort_checker.proofs.OtherNumbers.{anew, bound_alike}
use Rattle.sort_checker.proofs.ReadyLeaves.{groups_of_leaves}
use Rattle.sort_checker.proofs.SettledParts.{definition_settled, definition_on}

-- ---- names of variables
module _ (g : Sig) where
  words_stand : (e : SortExpression) (ws : List PlainWord) → AllByRecursion (λ (w : PlainWord). Contains g.texts w.bytes) ws → VariablesStand g (map (λ (w : PlainWord). (w.bytes, e)) ws)
  words_stand e [] all = tt
  words_stand e (w ∷ ws) all = (all.0, words_stand e ws all.1)

  pub groups_stand : (gs : List PlainVarGroup) → AreReadyGroups g.texts gs → VariablesStand g (bare_variables gs)
  groups_stand [] all = tt
  groups_stand (x ∷ gs) all = all_both (λ (r : Name × SortExpression). Contains g.texts r.0) (bare_group x) (bare_variables gs) (words_stand (bare_sort x.sort) x.names all.0.1) (groups_stand gs all.1)

  pub groups_are_words : (gs : List PlainVarGroup) → AreReadyGroups g.texts gs → AllByRecursion IsGroupOfWords gs
  groups_are_words [] all = tt
  groups_are_words (x ∷ gs) all = (all.0.0, groups_are_words gs all.1)

  -- what is ready has the names of its sums among the texts
  mutual
    pub sums_stand : (p : trees.PlainProcess) → AreReadyLeaves g.texts (leaves_in p) → SumNamesStand g (bare_process p)
    sums_stand (trees.delta span) all = tt
    sums_stand (trees.acts a) all = tt
    sums_stand (trees.multi span as_) all = tt
    sums_stand (trees.sync span ps) all = all_sums_stand ps all
    sums_stand (trees.call span p xs) all = tt
    sums_stand (trees.within span p) all = sums_stand p all
    sums_stand (trees.allow span sets p) all = sums_stand p all
    sums_stand (trees.block span ns p) all = sums_stand p all
    sums_stand (trees.hide span ns p) all = sums_stand p all
    sums_stand (trees.rename span rs p) all = sums_stand p all
    sums_stand (trees.comm span rs p) all = sums_stand p all
    sums_stand (trees.sequence span ps) all = all_sums_stand ps all
    sums_stand (trees.sum span gs p) all = (
      groups_stand gs (groups_of_leaves g.texts gs (all_front (IsReadyLeaf g.texts) (map some_variables gs) (leaves_in p) all)),
      sums_stand p (all_back (IsReadyLeaf g.texts) (map some_variables gs) (leaves_in p) all),
    )
    sums_stand (trees.when span d p) all = sums_stand p all.1
    sums_stand (trees.either span d p q) all = (sums_stand p (all_front (IsReadyLeaf g.texts) (leaves_in p) (leaves_in q) all.1), sums_stand q (all_back (IsReadyLeaf g.texts) (leaves_in p) (leaves_in q) all.1))
    sums_stand (trees.left_merge span p q) all = (sums_stand p (all_front (IsReadyLeaf g.texts) (leaves_in p) (leaves_in q) all), sums_stand q (all_back (IsReadyLeaf g.texts) (leaves_in p) (leaves_in q) all))
    sums_stand (trees.parallel span ps) all = all_sums_stand ps all
    sums_stand (trees.choice span ps) all = all_sums_stand ps all

    all_sums_stand : (ps : trees.PlainProcesses) → AreReadyLeaves g.texts (leaves_in_all ps) → AllSumNamesStand g (bare_processes ps)
    all_sums_stand no_processes all = tt
    all_sums_stand (more_processes p ps) all = (sums_stand p (all_front (IsReadyLeaf g.texts) (leaves_in p) (leaves_in_all ps) all), all_sums_stand ps (all_back (IsReadyLeaf g.texts) (leaves_in p) (leaves_in_all ps) all))

-- ---- the body
-- what elaborates does so behind variables that came into scope in code
pub body_can : (g : Sig) → IsSignature g → (t : ProcessTable) (w : Written) → CanElaborateDefinitions g t (w ∷ []) → (o : PoolContents) (h : Sig) → GoesOn g o h o → (bs cs : List code.Bound) (ids : List VarId) → bs ≡ [] → AreBound g bs w.parameters h cs ids
    → CanElaborate h t cs w.body
body_can g signature t w can o h on bs cs ids empty entered =
    let v : FullVocabulary = can.vocabulary in
    let definition = can.elaborate.0.1 in
    let sees : SeesData g bs v.declared [] = record { vocabulary = can.sees.sees_data.vocabulary; variables = ap (scope_of g.texts) (sym empty) } in
    let bound = entered.bind v.declared [] sees in
    let same : SameNames definition.scope (scope_of h.texts cs) = bound_alike same_none definition.binds bound.1 in
    let body = anew same definition.body in
    record {
      vocabulary = v;
      scope = scope_of h.texts cs;
      sees = record {
        sees_data = record { vocabulary = can.sees.sees_data.vocabulary ∙ sym (vocabulary_stays g h signature on.added); variables = refl };
        processes = can.sees.processes;
      };
      body = body.0;
      elaborates = body.1;
    }

-- ---- a definition
numbers_are : (e : Entries) (ids : List VarId) → map (λ (x : VarId). x.0) ids ≡ map (λ (b : processes.Bound). b.var) (map (bound_at e) ids)
numbers_are e [] = refl
numbers_are e (x ∷ ids) = ap (λ (ns : List ℕ). x.0 ∷ ns) (numbers_are e ids)

pub definition_made : (v : FullVocabulary) (w : Written) (n : ℕ) (g : Sig) → IsSignature g → (t : ProcessTable) → Sees g t [] v [] → (o : PoolContents) (h : Sig) → GoesOn g o h o → (bs cs : List code.Bound) (ids : List VarId) → bs ≡ []
    → AreBound g bs w.parameters h cs ids → (k : Sig) (q : PoolContents) → GoesOn h o k q → IsSignature k → All (IsTreeWithin k) q.trees → (body : PlainProcess)
    → ((u : FullVocabulary) (variables : Scope) → Sees h t cs u variables → IsElaborated u variables w.body k q body) → (name : NameId) → IsNumberOf k w.name name
    → IsElaboratedDefinition v k q (n, w) (record { name = name; params = ids; body = body; declaration = n })
definition_made v w n g signature t sees o h on bs cs ids empty entered k q on2 signature_then all_within body is name named =
    let scope : Scope = scope_of h.texts cs in
    let bound = entered.bind v.declared [] (record { vocabulary = sees.sees_data.vocabulary; variables = ap (scope_of g.texts) (sym empty) }) in
    let there : Sees h t cs v scope = record {
      sees_data = record { vocabulary = sees.sees_data.vocabulary ∙ sym (vocabulary_stays g h signature on.added); variables = refl };
      processes = sees.processes;
    } in
    let made = is v scope there in
    let binders : AreBinders k ids bound.0 = binders_on h k on2.added ids bound.0 bound.2 in
    let entries : Entries = entries_of k q.trees in
    let x : PlainDefinition = record { name = name; params = ids; body = body; declaration = n } in
    record {
      definition = definition_of entries x;
      elaborates = record {
        scope = scope;
        bounds = bound.0;
        binds = bound.1;
        params = numbers_are entries ids ∙ ap (map (λ (b : processes.Bound). b.var)) (binders.means k q q (goes_nowhere k q));
        body = subst (Elaborates v scope w.body) (sym (made.stands.means k q (goes_nowhere k q))) made.elaborates;
      };
      stands = definition_settled k q signature_then all_within x (binders.there k q q (goes_nowhere k q), made.stands.there k q (goes_nowhere k q));
      bounds = λ l r goes. binders.means l q r goes;
      name = named;
      number = refl;
    }

-- what was made before stays
pub definitions_on : (v : FullVocabulary) (g : Sig) → IsSignature g → (p : PoolContents) (h : Sig) (q : PoolContents) → GoesOn g p h q → (ws : List (ℕ × Written)) (xs : List PlainDefinition) → AreElaboratedDefinitions v g p ws xs → AreElaboratedDefinitions v h q ws xs
definitions_on v g signature p h q on [] [] all = tt
definitions_on v g signature p h q on [] (x ∷ xs) all = absurd all
definitions_on v g signature p h q on (w ∷ ws) [] all = absurd all
definitions_on v g signature p h q on (w ∷ ws) (x ∷ xs) all = (
  record {
    definition = all.0.definition;
    elaborates = all.0.elaborates;
    stands = definition_on g p h q on x all.0.definition all.0.stands;
    bounds = λ l r goes. all.0.bounds l r (goes_then g p h q l r on goes);
    name = subst (λ (ts : List Name). slice_get ts x.name.0 ≡ Some w.1.name) (sym (texts_stay g h signature on.added)) all.0.name;
    number = all.0.number;
  },
  definitions_on v g signature p h q on ws xs all.1,
)

pub definition_added : (v : FullVocabulary) (g : Sig) (p : PoolContents) (ws : List (ℕ × Written)) (w : ℕ × Written) (xs ys : List ProcDef) (x : ProcDef) → AreElaboratedDefinitions v g p ws (map plain_definition xs) → IsElaboratedDefinition v g p w (plain_definition x)
    → ys ≡ xs ++ x ∷ [] → AreElaboratedDefinitions v g p (ws ++ w ∷ []) (map plain_definition ys)
definition_added v g p ws w xs ys x all one pushed =
    subst (AreElaboratedDefinitions v g p (ws ++ w ∷ [])) (sym (ap (map plain_definition) pushed ∙ map-append plain_definition xs (x ∷ []))) (pairs_pushed (IsElaboratedDefinition v g p) ws (map plain_definition xs) w (plain_definition x) all one)

-- those of one declaration
pub definitions_can : (g : Sig) → IsSignature g → (p : PoolContents) (h : Sig) (q : PoolContents) → GoesOn g p h q → (t : ProcessTable) (ds : List ScopedDecl) (i : ℕ) (d : ScopedDecl) → i < length ds → d ≡ get_or ds i d → CanElaborateDefinitions g t (processes_in (declarations_listed ds))
    → CanElaborateDefinitions h t (process_by (declaration_of d.declaration.now))
definitions_can g signature p h q on t ds i d l is can = record {
  vocabulary = can.vocabulary;
  sees = sees_after g p h q signature on t [] can.vocabulary [] can.sees;
  elaborate = processes_part (λ (w : Written). (r : processes.Definition) × ElaboratesDefinition can.vocabulary w r) ds i d l is can.elaborate;
}
