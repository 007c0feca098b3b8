-- What elaborates has parts that elaborate, over what the code has there.
use Rattle.std.proofs.Common.{◌≡◌, ◌<◌, true, false, ℕ, zero, suc, List, [], ◌∷◌, map, length, take, get_or, refl, sym, subst, ap, ◌∙◌, arith}
use Rattle.std.specs.Prelude.{Contains}
use Rattle.std.specs.List.{AllByRecursion}
use Rattle.std.proofs.lemmas.List.{take-append-le}
use Rattle.std.proofs.lemmas.List.Elements.{All-take}
use Rattle.std.proofs.Math.Seq.{take-length}
use Rattle.mcrl2_syntax.specs.declared.process_tree.ProcTree.{ProcTree}
use Rattle.mcrl2_syntax.specs.ProcessTrees.{plain_process, processes_of}
use Rattle.mcrl2_syntax.specs.TreeWords.{IsProcessOfWords, AreProcessesOfWords}
use Rattle.data_theory.specs.declared.ids.VarId.{VarId}
use Rattle.data_theory.specs.Terms.{boolean}
use Rattle.data_theory.specs.Signature.{Sig}
use Rattle.data_theory.specs.WholeSignatures.{IsSignature}
use Rattle.term_pool.specs.Pools.{PoolContents}
use Rattle.process_terms.specs.Processes as written
use Rattle.process_terms.specs.Processes.{Around, Body}
use Rattle.sort_table.specs.Expressions.{Name, Expression}
use Rattle.sort_table.specs.BareSorts.{SortExpression}
use Rattle.sort_table.specs.BareProcesses as bare
use Rattle.sort_table.specs.BareProcesses.{Variables, Process, Processes}
use Rattle.sort_table.specs.SignatureVocabularies.{vocabulary_of}
use Rattle.sort_table.specs.Vocabularies.{Vocabulary}
use Rattle.data_typing.specs.declared.scope.Bound.{Bound}
use Rattle.data_typing.specs.declared.sort_tables.SortTables.{SortTables}
use Rattle.data_typing.specs.CodeWords.{scope_of}
use Rattle.data_typing.specs.Contexts.{IsBoundOver}
use Rattle.data_typing.specs.Meanings.{Scope}
use Rattle.sort_checker.specs.declared.process_tables.ProcessTable.{ProcessTable}
use Rattle.sort_checker.specs.FullVocabularies.{FullVocabulary}
use Rattle.sort_checker.specs.Operators.{renaming_of, rule_of, names_of, has_comm_fault}
use Rattle.sort_checker.specs.Faults.{is_action, are_renamings_typed}
use Rattle.sort_checker.specs.SoundTexts.{HaveSorts}
use Rattle.sort_checker.specs.NumberedWords.{StandIn}
use Rattle.sort_checker.specs.Additions.{GoesOn}
use Rattle.sort_checker.specs.Elaborations.{Fits, Elaborates, only_these, none_of_these, unseen, renamed, joined, in_sequence, one_of, at_once, left_first, side_by_side, for_each, where_true, by_truth, AllElaborate, one_and_more}
use Rattle.sort_checker.specs.CodeContexts.{IsNumbered, IsReady, Sees, CanCheck, CanElaborate, AllCanElaborate, AreBound, SumNamesStand, AllSumNamesStand}
use Rattle.sort_checker.proofs.Adding.{vocabulary_stays}
use Rattle.sort_checker.proofs.WhatStays.{sees_after}
use Rattle.sort_checker.proofs.OtherNumbers.{anew, bound_alike}
use Rattle.sort_checker.proofs.ElaboratedSound.{bound_sorts, same_itself}
use Rattle.sort_checker.proofs.OperatorNumbers.{actions_stand}
use Rattle.sort_checker.proofs.ProcessTreeForms.{bare_one, bare_all}

-- ---- names of variables of sums
mutual
  pub names_on : (g h : Sig) → h.texts ≡ g.texts → (p : Process) → SumNamesStand g p → SumNamesStand h p
  names_on g h e bare.delta n = tt
  names_on g h e (bare.acts as_) n = tt
  names_on g h e (bare.call x ds) n = tt
  names_on g h e (bare.allow sets p) n = names_on g h e p n
  names_on g h e (bare.block xs p) n = names_on g h e p n
  names_on g h e (bare.hide xs p) n = names_on g h e p n
  names_on g h e (bare.rename rs p) n = names_on g h e p n
  names_on g h e (bare.comm cs p) n = names_on g h e p n
  names_on g h e (bare.sequence ps) n = all_names_on g h e ps n
  names_on g h e (bare.sum xs p) n = (subst (λ (ts : List Name). AllByRecursion (λ (x : Name × SortExpression). Contains ts x.0) xs) (sym e) n.0, names_on g h e p n.1)
  names_on g h e (bare.when d p) n = names_on g h e p n
  names_on g h e (bare.either d p q) n = (names_on g h e p n.0, names_on g h e q n.1)
  names_on g h e (bare.sync ps) n = all_names_on g h e ps n
  names_on g h e (bare.left_merge p q) n = (names_on g h e p n.0, names_on g h e q n.1)
  names_on g h e (bare.parallel ps) n = all_names_on g h e ps n
  names_on g h e (bare.choice ps) n = all_names_on g h e ps n

  all_names_on : (g h : Sig) → h.texts ≡ g.texts → (ps : Processes) → AllSumNamesStand g ps → AllSumNamesStand h ps
  all_names_on g h e bare.none n = tt
  all_names_on g h e (bare.more p ps) n = (names_on g h e p n.0, all_names_on g h e ps n.1)

-- ---- one of several parts
pub part_names : (g : Sig) (xs : List ProcTree) (i : ℕ) (x : ProcTree) → i < length xs → x ≡ get_or xs i x → AllSumNamesStand g (bare_all xs) → SumNamesStand g (bare_one x)
part_names g [] i x l e n = let never : ⊥ = omega (arith, l) in absurd never
part_names g (y ∷ xs) zero x l e n = subst (λ (z : ProcTree). SumNamesStand g (bare_one z)) (sym e) n.0
part_names g (y ∷ xs) (suc i) x l e n = part_names g xs i x (omega (arith, l)) e n.1

pub part_words : (xs : List ProcTree) (i : ℕ) (x : ProcTree) → i < length xs → x ≡ get_or xs i x → AreProcessesOfWords (processes_of (map plain_process xs)) → IsProcessOfWords (plain_process x)
part_words [] i x l e n = let never : ⊥ = omega (arith, l) in absurd never
part_words (y ∷ xs) zero x l e n = subst (λ (z : ProcTree). IsProcessOfWords (plain_process z)) (sym e) n.0
part_words (y ∷ xs) (suc i) x l e n = part_words xs i x (omega (arith, l)) e n.1

part_elaborates : (v : FullVocabulary) (scope : Scope) (xs : List ProcTree) (i : ℕ) (x : ProcTree) → i < length xs → x ≡ get_or xs i x → (cs : List Body) → AllElaborate v scope (bare_all xs) cs → (b : Body) × Elaborates v scope (bare_one x) b
part_elaborates v scope [] i x l e cs d = let never : ⊥ = omega (arith, l) in absurd never
part_elaborates v scope (y ∷ xs) zero x l e cs (one_and_more {b = b} d ds) = (b, subst (λ (z : ProcTree). Elaborates v scope (bare_one z) b) (sym e) d)
part_elaborates v scope (y ∷ xs) (suc i) x l e cs (one_and_more {bs = rest} d ds) = part_elaborates v scope xs i x (omega (arith, l)) e rest ds

-- ---- operators
fits_alike : (v w : FullVocabulary) (o : Around) → v.declared ≡ w.declared → Fits v o → Fits w o
fits_alike v w o e f = record {
  actions = subst (λ (d : Vocabulary). AllByRecursion (λ x. is_action d x ≡ true) (names_of o)) e f.actions;
  renamings = subst (λ (d : Vocabulary). are_renamings_typed d o ≡ true) e f.renamings;
  rules = subst (λ (d : Vocabulary). has_comm_fault d o ≡ false) e f.rules;
  once = f.once;
}

-- the names of the operator stand among the texts, it fits, and what it is around elaborates
pub record CanOperate (g : Sig) (t : ProcessTable) (bs : List Bound) (o : Around) (p : Process) : Type 0 where
  pub stand : StandIn g (names_of o)
  pub fits : (v : FullVocabulary) (scope : Scope) → Sees g t bs v scope → Fits v o
  pub inside : CanElaborate g t bs p

module _ (g : Sig) (t : ProcessTable) (bs : List Bound) where
  can_here : (v : FullVocabulary) (scope : Scope) → Sees g t bs v scope → (p : Process) (b : Body) → Elaborates v scope p b → CanElaborate g t bs p
  can_here v scope sees p b d = record { vocabulary = v; scope = scope; sees = sees; body = b; elaborates = d }

  module _ (signature : IsSignature g) where
    operates : (v : FullVocabulary) (scope : Scope) → Sees g t bs v scope → (o : Around) (p : Process) (b : Body) → Fits v o → Elaborates v scope p b → CanOperate g t bs o p
    operates v scope sees o p b f d = record {
      stand = actions_stand g signature (names_of o) (subst (λ (w : Vocabulary). AllByRecursion (λ x. is_action w x ≡ true) (names_of o)) sees.sees_data.vocabulary f.actions);
      fits = λ w other seen. fits_alike v w o (sees.sees_data.vocabulary ∙ sym seen.sees_data.vocabulary) f;
      inside = can_here v scope sees p b d;
    }

    pub can_allow : (sets : List (List Name)) (p : Process) → CanElaborate g t bs (bare.allow sets p) → CanOperate g t bs (written.allow sets) p
    can_allow sets p can = by_form can.vocabulary can.scope can.sees can.body can.elaborates
      where
        by_form : (v : FullVocabulary) (scope : Scope) → Sees g t bs v scope → (b : Body) → Elaborates v scope (bare.allow sets p) b → CanOperate g t bs (written.allow sets) p
        by_form v scope sees b (only_these {b = c} f d) = operates v scope sees (written.allow sets) p c f d

    pub can_block : (xs : List Name) (p : Process) → CanElaborate g t bs (bare.block xs p) → CanOperate g t bs (written.block xs) p
    can_block xs p can = by_form can.vocabulary can.scope can.sees can.body can.elaborates
      where
        by_form : (v : FullVocabulary) (scope : Scope) → Sees g t bs v scope → (b : Body) → Elaborates v scope (bare.block xs p) b → CanOperate g t bs (written.block xs) p
        by_form v scope sees b (none_of_these {b = c} f d) = operates v scope sees (written.block xs) p c f d

    pub can_hide : (xs : List Name) (p : Process) → CanElaborate g t bs (bare.hide xs p) → CanOperate g t bs (written.hide xs) p
    can_hide xs p can = by_form can.vocabulary can.scope can.sees can.body can.elaborates
      where
        by_form : (v : FullVocabulary) (scope : Scope) → Sees g t bs v scope → (b : Body) → Elaborates v scope (bare.hide xs p) b → CanOperate g t bs (written.hide xs) p
        by_form v scope sees b (unseen {b = c} f d) = operates v scope sees (written.hide xs) p c f d

    pub can_rename : (rs : List (Name × Name)) (p : Process) → CanElaborate g t bs (bare.rename rs p) → CanOperate g t bs (written.rename (map renaming_of rs)) p
    can_rename rs p can = by_form can.vocabulary can.scope can.sees can.body can.elaborates
      where
        by_form : (v : FullVocabulary) (scope : Scope) → Sees g t bs v scope → (b : Body) → Elaborates v scope (bare.rename rs p) b → CanOperate g t bs (written.rename (map renaming_of rs)) p
        by_form v scope sees b (renamed {b = c} f d) = operates v scope sees (written.rename (map renaming_of rs)) p c f d

    pub can_comm : (cs : List (List Name × Name)) (p : Process) → CanElaborate g t bs (bare.comm cs p) → CanOperate g t bs (written.comm (map rule_of cs)) p
    can_comm cs p can = by_form can.vocabulary can.scope can.sees can.body can.elaborates
      where
        by_form : (v : FullVocabulary) (scope : Scope) → Sees g t bs v scope → (b : Body) → Elaborates v scope (bare.comm cs p) b → CanOperate g t bs (written.comm (map rule_of cs)) p
        by_form v scope sees b (joined {b = c} f d) = operates v scope sees (written.comm (map rule_of cs)) p c f d

  -- ---- conditions
  pub can_when : (e : Expression) (p : Process) → CanElaborate g t bs (bare.when e p) → CanCheck g bs e boolean × CanElaborate g t bs p
  can_when e p can = by_form can.vocabulary can.scope can.sees can.body can.elaborates
    where
      by_form : (v : FullVocabulary) (scope : Scope) → Sees g t bs v scope → (b : Body) → Elaborates v scope (bare.when e p) b → CanCheck g bs e boolean × CanElaborate g t bs p
      by_form v scope sees b (where_true {c = c} {b = q} h d) = (record { vocabulary = v.declared; scope = scope; sees = sees.sees_data; term = c; checks = h }, can_here v scope sees p q d)

  pub can_either : (e : Expression) (p q : Process) → CanElaborate g t bs (bare.either e p q) → CanCheck g bs e boolean × CanElaborate g t bs p × CanElaborate g t bs q
  can_either e p q can = by_form can.vocabulary can.scope can.sees can.body can.elaborates
    where
      by_form : (v : FullVocabulary) (scope : Scope) → Sees g t bs v scope → (b : Body) → Elaborates v scope (bare.either e p q) b → CanCheck g bs e boolean × CanElaborate g t bs p × CanElaborate g t bs q
      by_form v scope sees b (by_truth {c = c} {b = one} {d = other} h d f) = (record { vocabulary = v.declared; scope = scope; sees = sees.sees_data; term = c; checks = h }, can_here v scope sees p one d, can_here v scope sees q other f)

  -- ---- chains
  pub can_sequence : (ps : Processes) → CanElaborate g t bs (bare.sequence ps) → AllCanElaborate g t bs ps
  can_sequence ps can = by_form can.vocabulary can.scope can.sees can.body can.elaborates
    where
      by_form : (v : FullVocabulary) (scope : Scope) → Sees g t bs v scope → (b : Body) → Elaborates v scope (bare.sequence ps) b → AllCanElaborate g t bs ps
      by_form v scope sees b (in_sequence {bs = cs} ds) = record { vocabulary = v; scope = scope; sees = sees; bodies = cs; elaborate = ds }

  pub can_choice : (ps : Processes) → CanElaborate g t bs (bare.choice ps) → AllCanElaborate g t bs ps
  can_choice ps can = by_form can.vocabulary can.scope can.sees can.body can.elaborates
    where
      by_form : (v : FullVocabulary) (scope : Scope) → Sees g t bs v scope → (b : Body) → Elaborates v scope (bare.choice ps) b → AllCanElaborate g t bs ps
      by_form v scope sees b (one_of {bs = cs} ds) = record { vocabulary = v; scope = scope; sees = sees; bodies = cs; elaborate = ds }

  pub can_parallel : (ps : Processes) → CanElaborate g t bs (bare.parallel ps) → AllCanElaborate g t bs ps
  can_parallel ps can = by_form can.vocabulary can.scope can.sees can.body can.elaborates
    where
      by_form : (v : FullVocabulary) (scope : Scope) → Sees g t bs v scope → (b : Body) → Elaborates v scope (bare.parallel ps) b → AllCanElaborate g t bs ps
      by_form v scope sees b (side_by_side {bs = cs} ds) = record { vocabulary = v; scope = scope; sees = sees; bodies = cs; elaborate = ds }

  pub can_sync : (ps : Processes) → CanElaborate g t bs (bare.sync ps) → AllCanElaborate g t bs ps
  can_sync ps can = by_form can.vocabulary can.scope can.sees can.body can.elaborates
    where
      by_form : (v : FullVocabulary) (scope : Scope) → Sees g t bs v scope → (b : Body) → Elaborates v scope (bare.sync ps) b → AllCanElaborate g t bs ps
      by_form v scope sees b (at_once {bs = cs} ds) = record { vocabulary = v; scope = scope; sees = sees; bodies = cs; elaborate = ds }

  pub can_left_merge : (p q : Process) → CanElaborate g t bs (bare.left_merge p q) → CanElaborate g t bs p × CanElaborate g t bs q
  can_left_merge p q can = by_form can.vocabulary can.scope can.sees can.body can.elaborates
    where
      by_form : (v : FullVocabulary) (scope : Scope) → Sees g t bs v scope → (b : Body) → Elaborates v scope (bare.left_merge p q) b → CanElaborate g t bs p × CanElaborate g t bs q
      by_form v scope sees b (left_first {b = one} {d = other} d f) = (can_here v scope sees p one d, can_here v scope sees q other f)

  pub can_part : (xs : List ProcTree) (i : ℕ) (x : ProcTree) → i < length xs → x ≡ get_or xs i x → AllCanElaborate g t bs (bare_all xs) → CanElaborate g t bs (bare_one x)
  can_part xs i x l e can = let one = part_elaborates can.vocabulary can.scope xs i x l e can.bodies can.elaborate in can_here can.vocabulary can.scope can.sees (bare_one x) one.0 one.1

  -- ---- sums
  pub sum_sorts : (xs : Variables) (p : Process) → CanElaborate g t bs (bare.sum xs p) → HaveSorts (vocabulary_of g) xs
  sum_sorts xs p can = by_form can.vocabulary can.scope can.sees can.body can.elaborates
    where
      by_form : (v : FullVocabulary) (scope : Scope) → Sees g t bs v scope → (b : Body) → Elaborates v scope (bare.sum xs p) b → HaveSorts (vocabulary_of g) xs
      by_form v scope sees b (for_each binds d) = subst (λ (w : Vocabulary). HaveSorts w xs) sees.sees_data.vocabulary (bound_sorts binds)

-- where more was added
module _ (g : Sig) (o : PoolContents) (h : Sig) (q : PoolContents) (signature : IsSignature g) (on : GoesOn g o h q) (t : ProcessTable) where
  pub can_after : (bs : List Bound) (p : Process) → CanElaborate g t bs p → CanElaborate h t bs p
  can_after bs p can = record { vocabulary = can.vocabulary; scope = can.scope; sees = sees_after g o h q signature on t bs can.vocabulary can.scope can.sees; body = can.body; elaborates = can.elaborates }

  -- where variables came into scope, under any numbers
  module _ (bs : List Bound) (xs : Variables) (cs : List Bound) (ids : List VarId) (bound : AreBound g bs xs h cs ids) where
    pub sees_inside : (v : FullVocabulary) (scope : Scope) → Sees g t bs v scope → Sees h t cs v (scope_of h.texts cs)
    sees_inside v scope sees = record { sees_data = record { vocabulary = sees.sees_data.vocabulary ∙ sym (vocabulary_stays g h signature on.added); variables = refl }; processes = sees.processes }

    pub can_inside : (p : Process) → CanElaborate g t bs (bare.sum xs p) → CanElaborate h t cs p
    can_inside p can = by_form can.vocabulary can.scope can.sees can.body can.elaborates
      where
        by_form : (v : FullVocabulary) (scope : Scope) → Sees g t bs v scope → (b : Body) → Elaborates v scope (bare.sum xs p) b → CanElaborate h t cs p
        by_form v scope sees b (for_each binds d) =
            let entered = bound.bind v.declared scope sees.sees_data in
            let again = anew (bound_alike (same_itself scope) binds entered.1) d in
            record { vocabulary = v; scope = scope_of h.texts cs; sees = sees_inside v scope sees; body = again.0; elaborates = again.1 }

    -- as many are in scope again behind it
    pub left_again : take (length bs) cs ≡ bs
    left_again = ap (take (length bs)) bound.behind ∙ (take-append-le (length bs) bs bound.entered (omega arith) ∙ take-length bs)

-- the outermost variables
pub ready_front : (g : Sig) (p : PoolContents) (t : SortTables) (bs : List Bound) (n : ℕ) → IsReady g p t bs → IsReady g p t (take n bs)
ready_front g p t bs n ready = record {
  signature = ready.signature;
  tables = ready.tables;
  trees = ready.trees;
  scope = All-take (IsBoundOver g) n bs ready.scope;
  numbers = All-take (IsNumbered g) n bs ready.numbers;
}
