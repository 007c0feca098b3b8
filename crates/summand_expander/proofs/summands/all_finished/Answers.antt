use Rattle.std.proofs.Common.{rules, [], ◌∷◌, ◌++◌, ◌∙◌, subst, sym, map}
use Rattle.std.proofs.lemmas.Iterator.Adapters.{YieldsList-from_vec}
use Rattle.std.proofs.lemmas.Iterator.Consumers.{YieldsList-turn}
use Rattle.lps_core.specs.PlainLinears.{plain_summand}
use Rattle.lps_core.proofs.PoolTrees.{extends_on, all_in_kept}
use Rattle.summand_expander.specs.Drafts.{plain_draft}
use Rattle.summand_expander.specs.SideMeanings.{AreJoined}
use Rattle.summand_expander.proofs.JoinedDrafts.{draft_at, made_more}
use Rattle.summand_expander.proofs.summands.all_finished.Goals as goal

pub finished-requires : goal.finished-requires
finished-requires c =
    let items = YieldsList-from_vec {s = c.into_iter-draft-iterator.result} c.args.drafts.items (search rules) (search rules) in
    let turn = YieldsList-turn items c.loop-draft.yielded c.loop-draft.draft-iterator c.loop-draft.yielded_by c.next.result c.next.new.self c.in-Some.draft c.in-Some.is c.next.ensures.steps in
    all_in_kept c.args.pool.now.trees c.loop-draft.pool.trees c.in-Some.draft.parts.items c.loop-draft.invariant.0 (draft_at c.args.pool.now.trees c.args.drafts.items _ c.in-Some.draft c.requires turn.0 turn.1).parts

pub loop-draft-preserved : goal.loop-draft-preserved
loop-draft-preserved c =
    let items = YieldsList-from_vec {s = c.into_iter-draft-iterator.result} c.args.drafts.items (search rules) (search rules) in
    let turn = YieldsList-turn items c.loop-draft.yielded c.loop-draft.draft-iterator c.loop-draft.yielded_by c.next.result c.next.new.self c.in-Some.draft c.in-Some.is c.next.ensures.steps in
    let own = (draft_at c.args.pool.now.trees c.args.drafts.items _ c.in-Some.draft c.requires turn.0 turn.1).parts in (
      extends_on c.args.pool.now.trees c.loop-draft.pool.trees c.finished.new.pool.trees c.loop-draft.invariant.0 c.finished.ensures.kept,
      c.finished.ensures.constants ∙ c.loop-draft.invariant.1,
      subst (λ z. AreJoined c.args.pool.now.trees (map plain_draft (c.loop-draft.yielded ++ c.in-Some.draft ∷ [])) c.finished.new.pool.trees (map plain_summand z)) (sym c.in_ok-push.ensures.items)
          (made_more c.args.pool.now.trees c.loop-draft.pool.trees c.finished.new.pool.trees c.loop-draft.yielded c.loop-draft.made.items c.in-Some.draft c.in_ok-finished.field-0 c.loop-draft.invariant.2 c.loop-draft.invariant.0 c.finished.ensures.kept own c.in_ok-finished.ensures.within c.in_ok-finished.ensures.joined),
    )
