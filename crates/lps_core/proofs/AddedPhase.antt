-- What the added action and phase are.
use Rattle.std.proofs.Common.{◌≡◌, ℕ, List, [], length, sym, ap, ◌∙◌, subst}
use Rattle.std.specs.Prelude.{codes}
use Rattle.data_theory.specs.declared.ids.ActId.{ActId}
use Rattle.data_theory.specs.declared.ids.NameId.{NameId}
use Rattle.data_theory.specs.declared.ids.SortId.{SortId}
use Rattle.data_theory.specs.declared.ids.VarId.{VarId}
use Rattle.data_theory.specs.Table.{pos_sort}
use Rattle.data_theory.specs.Fresh.{IsFreshIn}
use Rattle.data_theory.specs.Signature.{Sig, with_action, with_variable}
use Rattle.data_theory.specs.IdTerms.{IsGrown}
use Rattle.data_theory.proofs.IdGrowthLemmas.{with_an_action_it_is_grown, growth_after_growth_is_growth}
use Rattle.bisim_laws.specs.Terminations.{terminate_name}
use Rattle.lps_core.specs.SealedTrees.{HasPhase, a_phase}
use Rattle.lps_core.proofs.GrownSignatures.{fresh_grown}

pub action_grown : (g h : Sig) (text : List ℕ) (sorts : List SortId) → h ≡ with_action g text sorts → IsGrown g h
action_grown g h text sorts e = subst (λ k. IsGrown g k) (sym e) (with_an_action_it_is_grown g text sorts)

pub action_and_name : (g h k : Sig) (text base : List ℕ) (sorts : List SortId) (name : NameId) → h ≡ with_action g text sorts → IsFreshIn h base name k → IsGrown g k
action_and_name g h k text base sorts name e f = growth_after_growth_is_growth g h k (action_grown g h text sorts e) (fresh_grown h k base name f)

pub phase_made : (g h k m : Sig) (sorts : List SortId) (name : NameId) (act : ActId) (v : VarId) → h ≡ with_action g terminate_name sorts → sorts ≡ [] → IsFreshIn h (codes "phase") name k → m ≡ with_variable k (record { name = name; sort = pos_sort })
    → act.0 ≡ length g.actions → v.0 ≡ length k.variables → HasPhase g m act v
phase_made g h k m sorts name act v e s f q a w =
    let whole : h ≡ with_action g terminate_name [] = e ∙ ap (with_action g terminate_name) s in
    subst (λ z. HasPhase g z act v) (sym q)
    (subst (λ n. HasPhase g (with_variable k (record { name = name; sort = pos_sort })) (record { 0 = n }) v) (sym a)
    (subst (λ n. HasPhase g (with_variable k (record { name = name; sort = pos_sort })) (record { 0 = length g.actions }) (record { 0 = n })) (sym w)
    (a_phase (subst (λ z. IsFreshIn z (codes "phase") name k) whole f))))
