use Rattle.std.proofs.Common.{◌≡◌, rules}
use Rattle.process_terms.specs.PlainProcesses.{plain_label}
use Rattle.lps_core.specs.PlainLinears.{PlainSummand, plain_next, plain_summand}
use Rattle.lps_constelm.proofs.PuttingSteps.{summand_put}
use Rattle.lps_constelm.proofs.putting.put_summand.Goals as goal

pub returns-clause-trees : goal.returns-clause-trees
returns-clause-trees c =
    let sums : c.in_ok-to_vec.field-0.items ≡ c.args.summand.now.sums.items = search rules in
    let new : PlainSummand = record { sums = c.in_ok-to_vec.field-0.items; condition = c.in_ok-cond.cond; label = plain_label c.in_ok-label.label; next = plain_next c.in_ok-next.next } in
    summand_put c.args.pool.now.trees c.subst.new.self.trees c.put_label.new.pool.trees c.put_kept_next.new.pool.trees c.args.by.now c.args.marks.now (plain_summand c.args.summand.now) new c.subst.ensures.kept c.put_label.ensures.kept c.put_kept_next.ensures.kept c.requires.within c.requires.listed
    c.in_ok-cond.ensures.within c.in_ok-label.ensures.within c.in_ok-next.ensures.within sums c.in_ok-cond.ensures.tree c.in_ok-label.ensures.label c.in_ok-next.ensures.next
