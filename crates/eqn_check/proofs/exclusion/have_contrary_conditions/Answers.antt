use Rattle.std.proofs.Common.{List, sym, ap, subst, ◌∙◌, map}
use Rattle.std.specs.Bool.{Decides}
use Rattle.std.specs.List.{All}
use Rattle.data_theory.specs.Terms.{Term}
use Rattle.data_theory.specs.IdData.{data_meant}
use Rattle.eqn_check.specs.declared.filled.FilledTerm.{FilledTerm}
use Rattle.eqn_check.specs.declared.filled.Filling.TheVariants.{First}
use Rattle.eqn_check.specs.Conditions.{CantAllHold}
use Rattle.eqn_check.specs.ExcludedPairs.{AddsParts, IsFilledTerm}
use Rattle.eqn_check.specs.Fillings.{filled_at}
use Rattle.eqn_check.proofs.ExcludedPairLemmas.{both_within, both_parts}
use Rattle.eqn_check.proofs.exclusion.have_contrary_conditions.Goals as goal

pub cant_all_hold-requires-clause-parts : goal.cant_all_hold-requires-clause-parts
cant_all_hold-requires-clause-parts c =
    subst (All (IsFilledTerm c.args.sig.now c.args.pool.now.trees)) (sym c.as_slice.ensures.value)
    (both_within c.args.sig.now c.args.pool.now.trees c.args.one.now c.args.other.now c.push_parts.new.found.items c.push_parts-2.new.found.items
    (subst (λ (l : List FilledTerm). AddsParts c.args.sig.now c.args.pool.now.trees c.args.one.now.cond First l c.push_parts.new.found.items) c.new-parts.ensures.items c.in_ok-push_parts.ensures)
    c.in_ok-push_parts-2.ensures)

pub returns : goal.returns
returns c =
    subst (λ (l : List Term). Decides c.in_ok-cant.cant (CantAllHold (data_meant c.args.sig.now) l))
    (ap (map (filled_at c.args.sig.now c.args.pool.now.trees c.args.opposites.now)) c.as_slice.ensures.value
    ∙ both_parts c.args.sig.now c.args.pool.now.trees c.args.one.now c.args.other.now c.push_parts.new.found.items c.push_parts-2.new.found.items
    (subst (λ (l : List FilledTerm). AddsParts c.args.sig.now c.args.pool.now.trees c.args.one.now.cond First l c.push_parts.new.found.items) c.new-parts.ensures.items c.in_ok-push_parts.ensures)
    c.in_ok-push_parts-2.ensures c.args.opposites.now)
    c.in_ok-cant.ensures
