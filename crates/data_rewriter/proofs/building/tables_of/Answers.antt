use Rattle.std.proofs.Common.{◌<◌, ℕ, List, [], map, get_or, sym, ap, ◌∙◌, subst}
use Rattle.data_rewriter.specs.declared.tables.Rule.{Rule}
use Rattle.data_rewriter.specs.States.{AreRulesAt}
use Rattle.data_rewriter.specs.Written.{rule_of, rules_of}
use Rattle.data_rewriter.proofs.HeadNumbers.{items_of, tables_stand}
use Rattle.data_rewriter.proofs.building.tables_of.Goals as goal

pub returns : goal.returns
returns c = tables_stand (record { signs = c.in_ok-signs.signs; places = c.in_ok-places.places; rules = c.in_ok-rules.rules; by_head = c.in_ok-by_head.by_head }) c.args.sig.now c.requires.stands c.args.pool.now.trees (rules_of c.args.theory.now) c.in_ok-signs.ensures c.in_ok-places.ensures
    (c.in_ok-rules.ensures ∙ ap (map rule_of) c.as_slice.ensures.value) c.requires.theory
    (λ f l. subst (λ (rs : List Rule). AreRulesAt c.args.pool.now.trees rs f (get_or (items_of c.in_ok-by_head.by_head.items) f.0 [])) c.as_slice-2.ensures.value
    (c.in_ok-by_head.ensures f (subst (λ (n : ℕ). f.0 < n) (sym c.fun_count.ensures) l)))
