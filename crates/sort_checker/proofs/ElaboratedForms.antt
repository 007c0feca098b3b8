-- Process terms of a text by their forms, with the ones in code that stand for them.
use Rattle.std.proofs.Common.{◌≡◌, ◌<◌, ◌+◌, ℕ, List, [], ◌∷◌, ◌++◌, map, length, take, get_or, sym, subst, ap, ◌∙◌}
use Rattle.std.proofs.lemmas.List.{take_more, map-append}
use Rattle.mcrl2_syntax.specs.declared.process_tree.ProcTree.{ProcTree}
use Rattle.process_terms.specs.declared.processes.Proc.{Proc}
use Rattle.data_theory.specs.declared.ids.VarId.{VarId}
use Rattle.data_theory.specs.declared.ids.TermId.{TermId}
use Rattle.data_theory.specs.Terms.{Term, boolean}
use Rattle.data_theory.specs.Signature.{Sig}
use Rattle.term_pool.specs.Pools.{PoolContents}
use Rattle.process_terms.specs.Processes as written
use Rattle.process_terms.specs.Processes.{Around, Bound, Body, written_delta, written_cond, written_starting, written_around, sums_around, seq_of, choice_of, merge_of, sync_of}
use Rattle.process_terms.specs.PlainProcesses as code
use Rattle.process_terms.specs.PlainProcesses.{PlainAround, PlainProcess, processes_of}
use Rattle.sort_table.specs.Expressions.{Expression}
use Rattle.sort_table.specs.BareProcesses as bare
use Rattle.sort_table.specs.BareProcesses.{Variables, Process, Processes}
use Rattle.data_typing.specs.Meanings.{Scope, ChecksAs}
use Rattle.sort_checker.specs.FullVocabularies.{FullVocabulary}
use Rattle.sort_checker.specs.Scopes.{Binds}
use Rattle.sort_checker.specs.Elaborations as forms
use Rattle.sort_checker.specs.Elaborations.{Fits, Elaborates, AllElaborate}
use Rattle.sort_checker.specs.Additions.{GoesOn}
use Rattle.sort_checker.specs.ElaboratedParts.{IsTerm, IsAround, AreBinders}
use Rattle.sort_checker.specs.CodeContexts.{IsElaborated, AreElaborated}
use Rattle.sort_checker.proofs.WhatStays.{term_on, body_on}
use Rattle.sort_checker.proofs.MadeBodies.{delta_made, cond_made, seq_made, choice_made, merge_made, sync_made, left_merge_made, sum_made, around_made, none_made, more_made}
use Rattle.sort_checker.proofs.ProcessTreeForms.{bare_one, bare_all}

module _ (v : FullVocabulary) (scope : Scope) where
  pub delta_elaborated : (g : Sig) (o : PoolContents) → IsElaborated v scope bare.delta g o code.delta
  delta_elaborated g o = record { body = written_delta; elaborates = forms.nothing; stands = delta_made g o }

  -- an operator, whose numbers were found first
  pub around_elaborated : (whole p : Process) (w : Around) → ((b : Body) → Elaborates v scope p b → Elaborates v scope whole (written_around w b)) → (g : Sig) (o : PoolContents) (h : Sig) (q : PoolContents) → GoesOn g o h q
      → (a : PlainAround) (x : PlainProcess) → IsAround g a w → IsElaborated v scope p h q x → IsElaborated v scope whole h q (code.around a x)
  around_elaborated whole p w form g o h q on a x is made = record {
    body = written_around w made.body;
    elaborates = form made.body made.elaborates;
    stands = around_made g o h q on a w x made.body is made.stands;
  }

  -- a condition, whose term was made first
  pub when_elaborated : (e : Expression) (p : Process) (g : Sig) (o : PoolContents) (h : Sig) (q : PoolContents) → GoesOn g o h q → (id : TermId) (x : PlainProcess) → (t : Term) × ChecksAs v.declared scope e boolean t × IsTerm g o id t
      → IsElaborated v scope p h q x → IsElaborated v scope (bare.when e p) h q (code.cond id x code.delta)
  when_elaborated e p g o h q on id x (t, checks, is) made = record {
    body = written_cond t made.body written_delta;
    elaborates = forms.where_true checks made.elaborates;
    stands = cond_made h q id x code.delta t made.body written_delta (term_on g o h q on id t is) made.stands (delta_made h q);
  }

  -- with two branches; the first was made before the second
  pub either_elaborated : (e : Expression) (p r : Process) (g : Sig) (o : PoolContents) (m : Sig) (n : PoolContents) (h : Sig) (q : PoolContents) → GoesOn g o h q → GoesOn m n h q → (id : TermId) (x y : PlainProcess)
      → (t : Term) × ChecksAs v.declared scope e boolean t × IsTerm g o id t → IsElaborated v scope p m n x → IsElaborated v scope r h q y → IsElaborated v scope (bare.either e p r) h q (code.cond id x y)
  either_elaborated e p r g o m n h q on then id x y (t, checks, is) one other = record {
    body = written_cond t one.body other.body;
    elaborates = forms.by_truth checks one.elaborates other.elaborates;
    stands = cond_made h q id x y t one.body other.body (term_on g o h q on id t is) (body_on m n h q then x one.body one.stands) other.stands;
  }

  pub sequence_elaborated : (ps : Processes) (g : Sig) (o : PoolContents) (xs : List PlainProcess) → AreElaborated v scope ps g o xs → IsElaborated v scope (bare.sequence ps) g o (code.seq (processes_of xs))
  sequence_elaborated ps g o xs made = record { body = seq_of made.bodies; elaborates = forms.in_sequence made.elaborate; stands = seq_made g o xs made.bodies made.stand }

  pub choice_elaborated : (ps : Processes) (g : Sig) (o : PoolContents) (xs : List PlainProcess) → AreElaborated v scope ps g o xs → IsElaborated v scope (bare.choice ps) g o (code.choice (processes_of xs))
  choice_elaborated ps g o xs made = record { body = choice_of made.bodies; elaborates = forms.one_of made.elaborate; stands = choice_made g o xs made.bodies made.stand }

  pub parallel_elaborated : (ps : Processes) (g : Sig) (o : PoolContents) (xs : List PlainProcess) → AreElaborated v scope ps g o xs → IsElaborated v scope (bare.parallel ps) g o (code.merge (processes_of xs))
  parallel_elaborated ps g o xs made = record { body = merge_of made.bodies; elaborates = forms.side_by_side made.elaborate; stands = merge_made g o xs made.bodies made.stand }

  pub sync_elaborated : (ps : Processes) (g : Sig) (o : PoolContents) (xs : List PlainProcess) → AreElaborated v scope ps g o xs → IsElaborated v scope (bare.sync ps) g o (code.sync (processes_of xs))
  sync_elaborated ps g o xs made = record { body = sync_of made.bodies; elaborates = forms.at_once made.elaborate; stands = sync_made g o xs made.bodies made.stand }

  -- the first one was made before the second
  pub left_merge_elaborated : (p r : Process) (m : Sig) (n : PoolContents) (h : Sig) (q : PoolContents) → GoesOn m n h q → (x y : PlainProcess) → IsElaborated v scope p m n x → IsElaborated v scope r h q y
      → IsElaborated v scope (bare.left_merge p r) h q (code.left_merge x y)
  left_merge_elaborated p r m n h q then x y one other = record {
    body = written_starting written.left_merge one.body other.body;
    elaborates = forms.left_first one.elaborates other.elaborates;
    stands = left_merge_made h q x y one.body other.body (body_on m n h q then x one.body one.stands) other.stands;
  }

  -- variables that came into scope, with the body in the inner scope
  pub sum_elaborated : (xs : Variables) (p : Process) (inner : Scope) (bounds : List Bound) (g : Sig) (o : PoolContents) (h : Sig) (q : PoolContents) → GoesOn g o h q → (ids : List VarId) (x : PlainProcess) → Binds v.declared scope xs inner bounds
      → AreBinders g ids bounds → IsElaborated v inner p h q x → IsElaborated v scope (bare.sum xs p) h q (code.sum ids x)
  sum_elaborated xs p inner bounds g o h q on ids x binds are made = record {
    body = sums_around bounds made.body;
    elaborates = forms.for_each binds made.elaborates;
    stands = sum_made g o h q on ids bounds x made.body are made.stands;
  }

  -- ---- several, one after the other
  pub none_elaborated : (g : Sig) (o : PoolContents) → AreElaborated v scope bare.none g o []
  none_elaborated g o = record { bodies = []; elaborate = forms.all_done; stand = none_made g o }

  elaborate_behind : (xs : List ProcTree) (x : ProcTree) (bs : List Body) (b : Body) → AllElaborate v scope (bare_all xs) bs → Elaborates v scope (bare_one x) b → AllElaborate v scope (bare_all (xs ++ x ∷ [])) (bs ++ b ∷ [])
  elaborate_behind [] x bs b forms.all_done d = forms.one_and_more d forms.all_done
  elaborate_behind (y ∷ xs) x bs b (forms.one_and_more c cs) d = forms.one_and_more c (elaborate_behind xs x _ b cs d)

  pub more_elaborated : (xs : List ProcTree) (x : ProcTree) (g : Sig) (o : PoolContents) (h : Sig) (q : PoolContents) → GoesOn g o h q → (ys : List PlainProcess) (y : PlainProcess) → AreElaborated v scope (bare_all xs) g o ys → IsElaborated v scope (bare_one x) h q y
      → AreElaborated v scope (bare_all (xs ++ x ∷ [])) h q (ys ++ y ∷ [])
  more_elaborated xs x g o h q on ys y are is = record {
    bodies = are.bodies ++ is.body ∷ [];
    elaborate = elaborate_behind xs x are.bodies is.body are.elaborate is.elaborates;
    stand = more_made g o h q on ys are.bodies y is.body are.stand is.stands;
  }

  -- the next part of a list
  pub next_elaborated : (parts : List ProcTree) (i : ℕ) (part : ProcTree) → i < length parts → part ≡ get_or parts i part → (g : Sig) (o : PoolContents) (h : Sig) (q : PoolContents) → GoesOn g o h q → (made more : List Proc) (one : Proc)
      → AreElaborated v scope (bare_all (take i parts)) g o (map code.plain_process made) → IsElaborated v scope (bare_one part) h q (code.plain_process one) → more ≡ made ++ one ∷ []
      → AreElaborated v scope (bare_all (take (i + 1) parts)) h q (map code.plain_process more)
  next_elaborated parts i part l e g o h q on made more one are is pushed =
      let read : take (i + 1) parts ≡ take i parts ++ part ∷ [] = take_more parts i part l ∙ ap (λ (z : ProcTree). take i parts ++ z ∷ []) (sym e) in
      let behind : map code.plain_process more ≡ map code.plain_process made ++ code.plain_process one ∷ [] = ap (map code.plain_process) pushed ∙ map-append code.plain_process made (one ∷ []) in
      subst (λ (ps : List ProcTree). AreElaborated v scope (bare_all ps) h q (map code.plain_process more)) (sym read)
      (subst (AreElaborated v scope (bare_all (take i parts ++ part ∷ [])) h q) (sym behind) (more_elaborated (take i parts) part g o h q on (map code.plain_process made) (code.plain_process one) are is))
