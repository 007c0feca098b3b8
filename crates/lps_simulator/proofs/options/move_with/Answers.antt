use Rattle.std.proofs.Common.{◌∙◌, refl}
use Rattle.term_pool.specs.Bindings.{listed_terms}
use Rattle.process_terms.specs.PlainProcesses.{plain_label}
use Rattle.lps_core.specs.PlainLinears.{plain_summand}
use Rattle.lps_core.proofs.PoolTrees.{extends_on}
use Rattle.lps_simulator.specs.Rewritten.{environment_of}
use Rattle.lps_simulator.proofs.Bindings.{next_stays_over, terms_stay}
use Rattle.lps_simulator.proofs.RewrittenTerms.{actions_on, next_from}
use Rattle.lps_simulator.proofs.options.move_with.Goals as goal

pub rewrite_next_with-requires-clause-known : goal.rewrite_next_with-requires-clause-known
rewrite_next_with-requires-clause-known g c = let r = c.requires.known in (r.0, c.rewrite_label_with.ensures.fits r.0 r.1)

pub rewrite_next_with-requires-clause-rules : goal.rewrite_next_with-requires-clause-rules
rewrite_next_with-requires-clause-rules g c = rw c.rewrite_label_with.ensures.rules c.requires.rules

pub rewrite_next_with-requires-clause-next : goal.rewrite_next_with-requires-clause-next
rewrite_next_with-requires-clause-next g c = next_stays_over c.args.sig.now c.args.pool.now.trees c.rewrite_label_with.new.pool.trees (plain_summand c.args.summand.now).next c.rewrite_label_with.ensures.kept c.requires.summand.next

pub rewrite_next_with-requires-clause-listed : goal.rewrite_next_with-requires-clause-listed
rewrite_next_with-requires-clause-listed g c = terms_stay c.args.sig.now c.args.pool.now.trees c.rewrite_label_with.new.pool.trees (listed_terms c.args.by.now) c.rewrite_label_with.ensures.kept c.requires.listed

pub returns-in_err-next-clause-kept : goal.returns-in_err-next-clause-kept
returns-in_err-next-clause-kept g c = extends_on c.args.pool.now.trees c.rewrite_label_with.new.pool.trees c.rewrite_next_with.new.pool.trees c.rewrite_label_with.ensures.kept c.rewrite_next_with.ensures.kept

pub returns-in_err-next-clause-rules : goal.returns-in_err-next-clause-rules
returns-in_err-next-clause-rules g c = c.rewrite_next_with.ensures.rules ∙ c.rewrite_label_with.ensures.rules

pub returns-in_err-next-clause-fits : goal.returns-in_err-next-clause-fits
returns-in_err-next-clause-fits g c = λ own h. c.rewrite_next_with.ensures.fits own (c.rewrite_label_with.ensures.fits own h)

pub returns-clause-kept : goal.returns-clause-kept
returns-clause-kept g c = extends_on c.args.pool.now.trees c.rewrite_label_with.new.pool.trees c.rewrite_next_with.new.pool.trees c.rewrite_label_with.ensures.kept c.rewrite_next_with.ensures.kept

pub returns-clause-rules : goal.returns-clause-rules
returns-clause-rules g c = c.rewrite_next_with.ensures.rules ∙ c.rewrite_label_with.ensures.rules

pub returns-clause-fits : goal.returns-clause-fits
returns-clause-fits g c = λ own h. c.rewrite_next_with.ensures.fits own (c.rewrite_label_with.ensures.fits own h)

pub returns-clause-made : goal.returns-clause-made
returns-clause-made g c = λ own h. record {
  summand = refl;
  label = actions_on c.args.sig.now own c.args.fuel (environment_of c.args.sig.now c.args.pool.now.trees c.args.by.now) c.args.pool.now.trees c.rewrite_label_with.new.pool.trees c.rewrite_next_with.new.pool.trees c.rewrite_next_with.ensures.kept (plain_summand c.args.summand.now).label (plain_label c.in_ok-label.label) (c.in_ok-label.ensures.rewritten own h);
  next = next_from c.args.sig.now own c.args.fuel c.args.pool.now.trees c.rewrite_label_with.new.pool.trees c.args.by.now c.rewrite_label_with.ensures.kept c.requires.listed c.rewrite_next_with.new.pool.trees c.requires.summand.next (c.in_ok-next.ensures.rewritten own (c.rewrite_label_with.ensures.fits own h));
}
