-- A text can be linearised exactly where it has no fault up to its recursion.
use Rattle.std.proofs.Common.{◌≡◌, ◌≢◌, ◌⊎◌, inl, inr, ℕ, List, [], ◌∷◌, map, refl, sym, ap, subst, ◌∙◌, Result, Ok, Err}
use Rattle.std.specs.Prelude.{Option, Some, None, option_map, IfErr}
use Rattle.std.specs.List.{flat_map}
use Rattle.std.proofs.lemmas.Option.{none-some, slice_get-map}
use Rattle.mcrl2_lexer.specs.declared.token.Token.{Token}
use Rattle.mcrl2_lexer.specs.Lexing.{HasTokens}
use Rattle.mcrl2_lexer.proofs.Single.{tokens_once}
use Rattle.mcrl2_lexer.proofs.Faulty.{fault_no_tokens}
use Rattle.mcrl2_syntax.specs.Declarations.{PlainSpec}
use Rattle.mcrl2_syntax.specs.SpelledDeclarations.{SpellsSpec}
use Rattle.mcrl2_syntax.proofs.SpecsOnce.{spec_once}
use Rattle.mcrl2_parser.specs.Faults as parsing
use Rattle.mcrl2_parser.proofs.SingleFaults.{no_fault}
use Rattle.data_theory.specs.IdData.{data_meant}
use Rattle.data_theory.specs.Signature.{Sig}
use Rattle.term_pool.specs.Pools.{PoolContents}
use Rattle.process_terms.specs.Processes.{Definition, Table, Body}
use Rattle.process_terms.specs.PlainProcesses.{PlainDefinition, PlainModel}
use Rattle.process_terms.specs.Meanings.{theory_of, process_of, definition_of, table_of, body_of}
use Rattle.process_terms.specs.SignatureEntries.{entries_of}
use Rattle.graphs.specs.Graphs.{IsPath}
use Rattle.graphs.specs.Cycles.{IsFirstCycle}
use Rattle.guard_check.specs.declared.calls.Extent.TheVariants.{Everywhere}
use Rattle.guard_check.specs.Calls.{Calls, Leads, By, Reaches, FromReached}
use Rattle.guard_check.specs.Guards.{IsGuarded, IsGuardedModel, AreOfFirstCycle}
use Rattle.guard_check.specs.declared.checking.GuardFault.{GuardFault}
use Rattle.guard_check.specs.declared.checking.GuardFault.TheVariants as guard
use Rattle.guard_check.specs.Faults.{IsGuardFaultOf}
use Rattle.proc_unfold.specs.Parallel.{IsParallelName, ParallelCalls, IsOutsideRecursion}
use Rattle.proc_unfold.specs.Parallelism.{StandsWithin, StandsOutsideRecursion, IsNetFaultOf}
use Rattle.proc_unfold.specs.declared.faults.NetFault.{NetFault}
use Rattle.proc_unfold.specs.declared.faults.NetFault.TheVariants as net
use Rattle.sort_table.specs.BareProcesses.{Process}
use Rattle.sort_table.specs.BareDeclarations.{Section, bare_sections, declarations_in}
use Rattle.sort_table.specs.Built.{IsFaultOf}
use Rattle.sort_table.specs.Refusals.{unknown_sort, sort_cycle, duplicate, empty_sort, IsSoundlyDeclared}
use Rattle.sort_table.specs.Vocabularies.{EachPair}
use Rattle.sort_table.proofs.SingleRefusals.{sound_declarations_are_not_refused}
use Rattle.sort_table.specs.declared.building.SortFault.{SortFault}
use Rattle.sort_table.specs.declared.building.SortFault.TheVariants as sort
use Rattle.sort_checker.specs.FullVocabularies.{Parameters, FullVocabulary, Written, process_named, processes_in, IsFullVocabularyOf}
use Rattle.sort_checker.specs.Elaborations.{Elaborates, ElaboratesDefinition}
use Rattle.sort_checker.specs.Refusals as typing
use Rattle.sort_checker.specs.Refusals.{type_fault, IsWellTyped}
use Rattle.sort_checker.specs.Systems.{initial_by, IsSystem}
use Rattle.sort_checker.specs.TextModels.{IsModelOf, IsRefusedOver, IsTypeFaultOf}
use Rattle.sort_checker.specs.declared.elaborating.TypeFault.{TypeFault}
use Rattle.sort_checker.specs.declared.elaborating.TypeFault.TheVariants as type
use Rattle.lin_driver.specs.Accepted.{IsGuardedSystem, CanBeLinearised, IsOfTheText, FaultyTextsCannotBeLinearised}
use Rattle.lin_driver.specs.ElaboratedModels.{IsDefinitionOf, IsElaborated}
use Rattle.lin_driver.specs.Numberings.{RecursionNeedsNoNumbering}
use Rattle.lin_driver.specs.Refusals.{IsParsedAs, IsSpecFault, HasSpecFault, IsRefusedWith}
use Rattle.lin_driver.specs.declared.fault.LinFault.{LinFault}
use Rattle.lin_driver.specs.declared.fault.LinFault.TheVariants.{Lex, Parse, Sort, «Type», Net, Guard, NoMemory}
use Rattle.lin_driver.proofs.AlikeTypings.{EachWith, each_none, each_more}
use Rattle.lin_driver.proofs.AlikeFaults.{place_both, faults_same}
use Rattle.lin_driver.proofs.ApartNames.{no_action}
use Rattle.lin_driver.proofs.SameSorts.{met}
use Rattle.lin_driver.proofs.ModelsOfTexts.{model_elaborates}
use Rattle.lin_driver.proofs.SameShapes.{SameShape, SameBodies, SameProcesses, path_on, same_shape, guarded_on, outside_recursion_on}

-- ---- what is accepted
-- the reading of a text that is its model
record IsReadAs (spec : PlainSpec) (g : Sig) (p : PoolContents) (m : PlainModel) (v : FullVocabulary) : Type 0 where
  system : IsSystem (bare_sections spec) v (theory_of (data_meant g) (entries_of g p.trees) m) (process_of (entries_of g p.trees) m)
  table : system.table ≡ table_of (entries_of g p.trees) m.definitions
  start : system.start ≡ body_of (entries_of g p.trees) m.init

read_as : (spec : PlainSpec) (g : Sig) (p : PoolContents) (m : PlainModel) → (is : IsModelOf spec g p m) → IsReadAs spec g p m is.vocabulary
read_as spec g p m is =
    let e = entries_of g p.trees in
    let made = model_elaborates spec g p m is in
    record {
      system = record {
        well_typed = is.system.well_typed;
        data_of = is.system.data_of;
        equations = is.system.equations;
        table = table_of e m.definitions;
        definitions = tables (processes_in (declarations_in (bare_sections spec))) m.definitions made.definitions;
        initial_term = made.init;
        one_init = made.one_init;
        start = body_of e m.init;
        starts = made.start;
        is = refl;
      };
      table = refl;
      start = refl;
    }
  where
    tables : (ws : List Written) (ds : List PlainDefinition) → EachPair (IsDefinitionOf is.vocabulary g p) ws ds → EachPair (ElaboratesDefinition is.vocabulary) ws (map (definition_of (entries_of g p.trees)) ds)
    tables [] [] all = tt
    tables [] (d ∷ ds) all = absurd all
    tables (w ∷ ws) [] all = absurd all
    tables (w ∷ ws) (d ∷ ds) all = (all.0.elaborates, tables ws ds all.1)

pub accepted_model : (spec : PlainSpec) (g : Sig) (p : PoolContents) (m : PlainModel) → IsModelOf spec g p m → StandsOutsideRecursion m → IsGuardedModel m → (v : FullVocabulary) × IsGuardedSystem (bare_sections spec) v
accepted_model spec g p m is outside guarded =
    let e = entries_of g p.trees in
    let r = read_as spec g p m is in (
      is.vocabulary,
      record {
        theory = theory_of (data_meant g) e m;
        process = process_of e m;
        system = r.system;
        outside = subst (λ (d : Table). IsOutsideRecursion d r.system.start) (sym r.table) (subst (λ (q : Body). IsOutsideRecursion (table_of e m.definitions) q) (sym r.start) (outside e));
        guarded = subst (λ (d : Table). IsGuarded d r.system.start) (sym r.table) (subst (λ (q : Body). IsGuarded (table_of e m.definitions) q) (sym r.start) (guarded e));
      },
    )

-- ---- one text
same_tokens : (text : List ℕ) (ts us : List Token) → HasTokens text ts → HasTokens text us → ts ≡ us
same_tokens text ts us a b = tokens_once text ts us a.lexes b.lexes

same_spec : (text : List ℕ) (one other : PlainSpec) → IsParsedAs text one → IsParsedAs text other → one ≡ other
same_spec text one other a b = spec_once (subst (λ (ts : List Token). SpellsSpec text one ts) (same_tokens text a.tokens b.tokens a.has_tokens b.has_tokens) a.spelled) b.spelled

-- ---- a fault of the declarations, or of typing
not_of_sorts : (spec : PlainSpec) (texts : List (List ℕ)) (fault : SortFault) → IsSoundlyDeclared (bare_sections spec) → IsFaultOf spec texts fault → fault ≢ sort.NoMemory → ⊥
not_of_sorts spec texts (sort.UnknownSort number name) sound has some = sound_declarations_are_not_refused (bare_sections spec) (unknown_sort number has.0) sound has.2
not_of_sorts spec texts (sort.SortCycle names) sound has some = sound_declarations_are_not_refused (bare_sections spec) (sort_cycle has.0) sound has.2
not_of_sorts spec texts (sort.Duplicate first second) sound has some = sound_declarations_are_not_refused (bare_sections spec) (duplicate first second) sound has
not_of_sorts spec texts (sort.EmptySort name) sound has some = sound_declarations_are_not_refused (bare_sections spec) (empty_sort has.0) sound has.2
not_of_sorts spec texts sort.NoMemory sound has some = some refl

not_over : (spec : PlainSpec) (g : Sig) (fault : typing.TypeFault) (v : FullVocabulary) → IsWellTyped v (bare_sections spec) → IsRefusedOver spec g fault → ⊥
not_over spec g fault v typed has =
    let w = has.0 in
    let same : type_fault v (bare_sections spec) ≡ type_fault w (bare_sections spec) = faults_same (bare_sections spec) v w typed.vocabulary has.2.vocabulary in
    none-some fault (sym typed.no_fault ∙ (same ∙ has.2.first))

not_of_types : (spec : PlainSpec) (g : Sig) (fault : TypeFault) (v : FullVocabulary) → IsWellTyped v (bare_sections spec) → IsTypeFaultOf spec g fault → fault ≢ type.NoMemory → ⊥
not_of_types spec g (type.UnknownName d n) v typed has some = not_over spec g (typing.unknown_in d has.0) v typed has.2
not_of_types spec g (type.Untyped d) v typed has some = not_over spec g (typing.untyped d) v typed has
not_of_types spec g (type.FreeVariable d n) v typed has some = not_over spec g (typing.free_in d has.0) v typed has.2
not_of_types spec g (type.VariableLeft d) v typed has some = not_over spec g (typing.variable_left d) v typed has
not_of_types spec g (type.CommShape d) v typed has some = not_over spec g (typing.comm_shape d) v typed has
not_of_types spec g (type.RenameTwice d n) v typed has some = not_over spec g (typing.rename_twice d has.0) v typed has.2
not_of_types spec g type.NoMemory v typed has some = some refl

-- ---- the same recursion in each reading
same_processes : (ss : List Section) (v w : FullVocabulary) → IsWellTyped v ss → IsWellTyped w ss → SameProcesses v w
same_processes ss v w a b = record {
  places = λ x r q f g. (met (place_both ss v w a.vocabulary b.vocabulary x) f g).0;
  first_apart = λ x r f. no_action ss a.sound.once v a.vocabulary w b.vocabulary x r f;
  second_apart = λ x r f. no_action ss a.sound.once w b.vocabulary v a.vocabulary x r f;
}

bodies : (v w : FullVocabulary) → SameProcesses v w → (ws : List Written) (d e : Table) → EachPair (ElaboratesDefinition v) ws d → EachPair (ElaboratesDefinition w) ws e → EachWith SameBodies d e
bodies v w same [] [] [] a b = each_none
bodies v w same [] (f ∷ d) e a b = absurd a
bodies v w same [] [] (h ∷ e) a b = absurd b
bodies v w same (x ∷ ws) [] e a b = absurd a
bodies v w same (x ∷ ws) (f ∷ d) [] a b = absurd b
bodies v w same (x ∷ ws) (f ∷ d) (h ∷ e) a b = each_more (same_shape v w same a.0.body b.0.body) (bodies v w same ws d e a.1 b.1)

one_of_one : (ps : List Process) (x y : Process) → ps ≡ x ∷ [] → ps ≡ y ∷ [] → x ≡ y
one_of_one ps x y f g = cc

pub recursion_needs_no_numbering : RecursionNeedsNoNumbering
recursion_needs_no_numbering ss v w th other_th p q one other =
    let same = same_processes ss v w one.well_typed other.well_typed in
    let table = bodies v w same (processes_in (declarations_in ss)) one.table other.table one.definitions other.definitions in
    let init : one.initial_term ≡ other.initial_term = one_of_one (flat_map initial_by (declarations_in ss)) one.initial_term other.initial_term one.one_init other.one_init in
    let start : SameShape one.start other.start = same_shape v w same (subst (λ (x : Process). Elaborates v [] x one.start) init one.starts) other.starts in
    (λ is. outside_recursion_on table start is, λ is. guarded_on table start is)

-- what is said of one reading is said of the model
record IsOfTheModel (g : Sig) (p : PoolContents) (m : PlainModel) : Type 0 where
  outside : IsOutsideRecursion (table_of (entries_of g p.trees) m.definitions) (body_of (entries_of g p.trees) m.init)
  guarded : IsGuarded (table_of (entries_of g p.trees) m.definitions) (body_of (entries_of g p.trees) m.init)

of_the_model : (spec : PlainSpec) (v : FullVocabulary) → IsGuardedSystem (bare_sections spec) v → (g : Sig) (p : PoolContents) (m : PlainModel) → IsModelOf spec g p m → IsOfTheModel g p m
of_the_model spec v has g p m is =
    let e = entries_of g p.trees in
    let r = read_as spec g p m is in
    let both = recursion_needs_no_numbering (bare_sections spec) v is.vocabulary has.theory (theory_of (data_meant g) e m) has.process (process_of e m) has.system r.system in
    record {
      outside = subst (λ (q : Body). IsOutsideRecursion (table_of e m.definitions) q) r.start (subst (λ (d : Table). IsOutsideRecursion d r.system.start) r.table (both.0 has.outside));
      guarded = subst (λ (q : Body). IsGuarded (table_of e m.definitions) q) r.start (subst (λ (d : Table). IsGuarded d r.system.start) r.table (both.1 has.guarded));
    }

-- ---- a fault of parallelism or of recursion
module _ (d : Table) (q : Body) (Link : ℕ → ℕ → Type 0) where
  first_reached : (a : ℕ) (ys : List ℕ) (b : ℕ) → IsPath (FromReached d q Link) a ys b → Reaches d q a
  first_reached a [] b path = path.0
  first_reached a (y ∷ ys) b path = path.0.0

  no_cycle : (xs : List ℕ) → IsFirstCycle (FromReached d q Link) xs → ((x : ℕ) → Reaches d q x → (ys : List ℕ) → IsPath Link x ys x → ⊥) → ⊥
  no_cycle [] first never = first
  no_cycle (x ∷ xs) first never = never x (first_reached x xs x first.0.path) xs (path_on (FromReached d q Link) Link (λ a b e. e.1) x xs x first.0.path)

first_parallel : (d : Table) (a : ℕ) (ys : List ℕ) (b : ℕ) → IsPath (ParallelCalls d) a ys b → IsParallelName d a
first_parallel d a [] b path = path.1
first_parallel d a (y ∷ ys) b path = path.0.1

not_of_nets : (g : Sig) (p : PoolContents) (m : PlainModel) (fault : NetFault) → IsOfTheModel g p m → IsNetFaultOf m fault → fault ≢ net.NoMemory → ⊥
not_of_nets g p m (net.ParallelRecursion names) of has some =
    let d = table_of (entries_of g p.trees) m.definitions in
    no_cycle d (body_of (entries_of g p.trees) m.init) (ParallelCalls d) has.cycle (has.first (entries_of g p.trees))
    (λ x r ys path. of.outside.no_recursion x r (first_parallel d x ys x path) (ys, path_on (ParallelCalls d) (Calls Everywhere d) (λ a b e. e.0) x ys x path))
not_of_nets g p m (net.ParallelUnderSequential n) of has some = not_within (has.0 (entries_of g p.trees)).stands
  where
    not_within : StandsWithin (entries_of g p.trees) m n → ⊥
    not_within (inl here) = here.1 of.outside.init_outside
    not_within (inr there) = there.5 (of.outside.all_outside there.0 (definition_of (entries_of g p.trees) there.1) there.2 (slice_get-map (definition_of (entries_of g p.trees)) m.definitions there.0 ∙ ap (option_map (definition_of (entries_of g p.trees))) there.3))
not_of_nets g p m net.NoMemory of has some = some refl

not_of_guards : (g : Sig) (p : PoolContents) (m : PlainModel) (fault : GuardFault) → IsOfTheModel g p m → IsGuardFaultOf m fault → fault ≢ guard.NoMemory → ⊥
not_of_guards g p m (guard.Unguarded names) of has some =
    let d = table_of (entries_of g p.trees) m.definitions in
    no_cycle d (body_of (entries_of g p.trees) m.init) (Leads d) has.cycle (has.first (entries_of g p.trees)) (λ x r ys path. of.guarded x r (ys, path))
not_of_guards g p m guard.NoMemory of has some = some refl

-- ---- the law
not_of_spec : (spec : PlainSpec) (texts : List (List ℕ)) (v : FullVocabulary) → IsGuardedSystem (bare_sections spec) v → (fault : LinFault) → IsOfTheText fault → IsSpecFault spec texts fault → ⊥
not_of_spec spec texts v can (Lex fault) of has = has
not_of_spec spec texts v can (Parse fault) of has = has
not_of_spec spec texts v can (Sort fault) of has = not_of_sorts spec texts fault can.system.well_typed.sound has.0 has.1
not_of_spec spec texts v can («Type» fault) of has = not_of_types spec has.0.signature fault v can.system.well_typed has.0.has_fault has.1
not_of_spec spec texts v can (Net fault) of has = not_of_nets has.signature has.pool has.model fault (of_the_model spec v can has.signature has.pool has.model has.is_model) has.has_fault.0 has.has_fault.1
not_of_spec spec texts v can (Guard fault) of has = not_of_guards has.signature has.pool has.model fault (of_the_model spec v can has.signature has.pool has.model has.is_model) has.has_fault.1 has.has_fault.2
not_of_spec spec texts v can _ of has = of

of_the_spec : (text : List ℕ) (texts : List (List ℕ)) (fault : LinFault) → IsOfTheText fault → HasSpecFault text texts fault → CanBeLinearised text → ⊥
of_the_spec text texts fault of has can =
    not_of_spec has.spec texts can.vocabulary (subst (λ (s : PlainSpec). IsGuardedSystem (bare_sections s) can.vocabulary) (same_spec text can.spec has.spec can.parsed has.parsed) can.guarded) fault of has.has_fault

pub faulty_texts_cannot_be_linearised : FaultyTextsCannotBeLinearised
faulty_texts_cannot_be_linearised text texts (Lex fault) of has can = fault_no_tokens text fault can.parsed.tokens has can.parsed.has_tokens
faulty_texts_cannot_be_linearised text texts (Parse fault) of has can =
    no_fault text can.parsed.tokens fault can.parsed.sound can.parsed.one_init (subst (λ (ts : List Token). parsing.HasFault text ts fault) (same_tokens text has.tokens can.parsed.tokens has.has_tokens can.parsed.has_tokens) has.has_fault)
faulty_texts_cannot_be_linearised text texts (Sort fault) of has can = of_the_spec text texts (Sort fault) of has can
faulty_texts_cannot_be_linearised text texts («Type» fault) of has can = of_the_spec text texts («Type» fault) of has can
faulty_texts_cannot_be_linearised text texts (Net fault) of has can = of_the_spec text texts (Net fault) of has can
faulty_texts_cannot_be_linearised text texts (Guard fault) of has can = of_the_spec text texts (Guard fault) of has can
faulty_texts_cannot_be_linearised text texts _ of has can = of

-- want of memory aside, a refused text can't be linearised
pub refused_cannot : {T : Type 0} (r : Result T LinFault) (text : List ℕ) (texts : List (List ℕ)) → IfErr r (λ fault. fault ≢ NoMemory → IsOfTheText fault) → IfErr r (λ fault. fault ≢ NoMemory → IsRefusedWith text texts fault)
    → IfErr r (λ fault. fault ≢ NoMemory → ¬ (CanBeLinearised text))
refused_cannot (Ok x) text texts of has = tt
refused_cannot (Err fault) text texts of has = λ some can. faulty_texts_cannot_be_linearised text texts fault (of some) (has some) can
