use Rattle.std.proofs.Common.{sym, subst, ◌∙◌, ◌++◌, ◌∷◌, []}
use Rattle.indexmap.proofs.CallerLemmas.{insert_entry-new}
use Rattle.action_filters.specs.Indexes.{AreFirst}
use Rattle.action_filters.proofs.FirstPairs.{pair_added, pair_passed, none_there}
use Rattle.action_filters.proofs.indexes.add_first.Goals as goal

pub returns-then-contains_key : goal.returns-then-contains_key
returns-then-contains_key c pairs h = pair_passed pairs c.args.found.now.entries (c.args.from, c.args.to) h (sym c.contains_key.ensures ∙ c.if-contains_key.true)

pub returns : goal.returns
returns c pairs h =
    subst (λ es. AreFirst (pairs ++ (c.args.from, c.args.to) ∷ []) es) (sym (c.in_ok-insert.ensures.entries ∙ insert_entry-new _ c.args.found.now c.args.from c.args.to (none_there _ (sym c.contains_key.ensures ∙ c.if-contains_key.false))))
    (pair_added pairs c.args.found.now.entries (c.args.from, c.args.to) h)
