-- Operands of `|` that elaborate one by one, with those that code makes of them.
use Rattle.std.proofs.Common.{◌≡◌, ◌<◌, ◌+◌, ℕ, zero, suc, true, false, List, [], ◌∷◌, ◌++◌, map, length, take, get_or, refl, sym, subst, ap, ◌∙◌, arith}
use Rattle.std.specs.Prelude.{Vec}
use Rattle.std.specs.Global.{Global}
use Rattle.std.proofs.lemmas.List.{map-append}
use Rattle.mcrl2_syntax.specs.declared.process_tree.ActionTree.{ActionTree}
use Rattle.mcrl2_syntax.specs.ProcessParts.{plain_action}
use Rattle.data_theory.specs.Signature.{Sig}
use Rattle.data_theory.specs.WholeSignatures.{IsSignature}
use Rattle.term_pool.specs.Pools.{PoolContents}
use Rattle.process_terms.specs.declared.processes.Proc.{Proc}
use Rattle.process_terms.specs.declared.processes.Proc.TheVariants as procs
use Rattle.process_terms.specs.PlainProcesses.{PlainProcess, plain_process}
use Rattle.process_terms.specs.Processes.{Body, sync_of}
use Rattle.sort_table.specs.BareProcesses as bare
use Rattle.sort_table.specs.BareProcesses.{Action, Process, Processes, bare_action}
use Rattle.sort_table.proofs.KeptFunctions.{one_more_read}
use Rattle.data_typing.specs.declared.scope.Bound.{Bound}
use Rattle.data_typing.specs.Meanings.{Scope}
use Rattle.sort_checker.specs.declared.process_tables.ProcessTable.{ProcessTable}
use Rattle.sort_checker.specs.FullVocabularies.{FullVocabulary}
use Rattle.sort_checker.specs.Additions.{GoesOn}
use Rattle.sort_checker.specs.CodeContexts.{Sees, CanElaborate, AllCanElaborate, IsElaborated, AreElaborated}
use Rattle.sort_checker.specs.Elaborations.{names_process, each_alone, Elaborates, one_by_one, AllElaborate, all_done, one_and_more}
use Rattle.sort_checker.proofs.CodeForms.{sync_step}
use Rattle.sort_checker.proofs.EachAlone.{names_alike}
use Rattle.sort_checker.proofs.LabelParts.{AreOneByOne}
use Rattle.sort_checker.proofs.MadeBodies.{sync_made, more_made}
use Rattle.sort_checker.proofs.WhatStays.{sees_after}

abbrev pub one_alone : ActionTree → Process
one_alone a = bare.acts (bare_action (plain_action a) ∷ [])

abbrev pub all_alone : List ActionTree → Processes
all_alone as_ = each_alone (map bare_action (map plain_action as_))

-- ---- one of them
part_elaborates : (v : FullVocabulary) (scope : Scope) (xs : List ActionTree) (i : ℕ) (x : ActionTree) → i < length xs → x ≡ get_or xs i x → (cs : List Body) → AllElaborate v scope (all_alone xs) cs → (b : Body) × Elaborates v scope (one_alone x) b
part_elaborates v scope [] i x l e cs d = let never : ⊥ = omega (arith, l) in absurd never
part_elaborates v scope (y ∷ xs) zero x l e cs (one_and_more {b = b} d ds) = (b, subst (λ (z : ActionTree). Elaborates v scope (one_alone z) b) (sym e) d)
part_elaborates v scope (y ∷ xs) (suc i) x l e cs (one_and_more {bs = rest} d ds) = part_elaborates v scope xs i x (omega (arith, l)) e rest ds

pub can_alone : (g : Sig) (t : ProcessTable) (bs : List Bound) (xs : List ActionTree) (i : ℕ) (x : ActionTree) → i < length xs → x ≡ get_or xs i x → AllCanElaborate g t bs (all_alone xs) → CanElaborate g t bs (one_alone x)
can_alone g t bs xs i x l e can =
    let one = part_elaborates can.vocabulary can.scope xs i x l e can.bodies can.elaborate in record { vocabulary = can.vocabulary; scope = can.scope; sees = can.sees; body = one.0; elaborates = one.1 }

-- ---- one after the other
module _ (v : FullVocabulary) (scope : Scope) where
  elaborate_behind : (as_ : List Action) (a : Action) (bs : List Body) (b : Body) → AllElaborate v scope (each_alone as_) bs → Elaborates v scope (bare.acts (a ∷ [])) b → AllElaborate v scope (each_alone (as_ ++ a ∷ [])) (bs ++ b ∷ [])
  elaborate_behind [] a bs b all_done d = one_and_more d all_done
  elaborate_behind (c ∷ as_) a bs b (one_and_more e ds) d = one_and_more e (elaborate_behind as_ a _ b ds d)

  pub next_alone : (trees : List ActionTree) (i : ℕ) (tree : ActionTree) → i < length trees → tree ≡ get_or trees i tree → (g : Sig) (o : PoolContents) (h : Sig) (q : PoolContents) → GoesOn g o h q → (made more : List Proc) (one : Proc)
      → AreElaborated v scope (all_alone (take i trees)) g o (map plain_process made) → IsElaborated v scope (one_alone tree) h q (plain_process one) → more ≡ made ++ one ∷ []
      → AreElaborated v scope (all_alone (take (i + 1) trees)) h q (map plain_process more)
  next_alone trees i tree l e g o h q on made more one are is pushed =
      let so_far : List Action = map bare_action (map plain_action (take i trees)) in
      let behind : map plain_process more ≡ map plain_process made ++ plain_process one ∷ [] = ap (map plain_process) pushed ∙ map-append plain_process made (one ∷ []) in
      subst (λ (as_ : List Action). AreElaborated v scope (each_alone as_) h q (map plain_process more)) (sym (one_more_read plain_action bare_action trees i tree l e))
      (subst (AreElaborated v scope (each_alone (so_far ++ bare_action (plain_action tree) ∷ [])) h q) (sym behind)
      (record {
        bodies = are.bodies ++ is.body ∷ [];
        elaborate = elaborate_behind so_far (bare_action (plain_action tree)) are.bodies is.body are.elaborate is.elaborates;
        stand = more_made g o h q on (map plain_process made) are.bodies (plain_process one) is.body are.stand is.stands;
      }))

  -- two or more of them
  pub alone_in_code : (as_ : List Action) → ¬ (length as_ ≡ 1) → names_process v as_ ≡ true → (g : Sig) (o : PoolContents) (made : Vec Proc Global) → AreElaborated v scope (each_alone as_) g o (map plain_process made.items)
      → IsElaborated v scope (bare.acts as_) g o (plain_process (procs.Sync made))
  alone_in_code [] several named g o made are = let never : false ≡ true = named in cc
  alone_in_code (a ∷ []) several named g o made are = absurd (several refl)
  alone_in_code (a ∷ b ∷ as_) several named g o made are =
      subst (IsElaborated v scope (bare.acts (a ∷ b ∷ as_)) g o) (sym (sync_step made)) (record { body = sync_of are.bodies; elaborates = one_by_one named are.elaborate; stands = sync_made g o (map plain_process made.items) are.bodies are.stand })

-- ---- where more was added
module _ (g : Sig) (o : PoolContents) (h : Sig) (q : PoolContents) (signature : IsSignature g) (on : GoesOn g o h q) (t : ProcessTable) (bs : List Bound) where
  pub all_can_after : (v : FullVocabulary) (scope : Scope) → Sees g t bs v scope → (as_ : List Action) → AreOneByOne v scope as_ → AllCanElaborate h t bs (each_alone as_)
  all_can_after v scope sees as_ are = record { vocabulary = v; scope = scope; sees = sees_after g o h q signature on t bs v scope sees; bodies = are.bodies; elaborate = are.elaborate }

-- the names are those of processes for all that see the same
pub named_alike : (g : Sig) (t : ProcessTable) (bs : List Bound) (v w : FullVocabulary) (scope other : Scope) → Sees g t bs v scope → Sees g t bs w other → (as_ : List Action) → names_process v as_ ≡ true → names_process w as_ ≡ true
named_alike g t bs v w scope other sees seen as_ named = names_alike w v (λ x. seen.processes x ∙ sym (sees.processes x)) as_ ∙ named
