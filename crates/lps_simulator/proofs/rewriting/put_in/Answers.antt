use Rattle.lps_simulator.proofs.Bindings.{listed_inside}
use Rattle.lps_simulator.proofs.RewrittenTerms.{put_stands}
use Rattle.lps_simulator.proofs.rewriting.put_in.Goals as goal

pub subst-requires-clause-terms : goal.subst-requires-clause-terms
subst-requires-clause-terms c = listed_inside c.args.sig.now c.args.pool.now.trees _ c.requires.listed

pub returns-clause-put : goal.returns-clause-put
returns-clause-put c = put_stands c.args.sig.now c.signature_stands.ensures c.args.pool.now.trees c.subst.new.self.trees c.args.by.now c.args.term c.in_ok-made.made c.requires.term c.requires.listed c.in_ok-made.ensures.within c.in_ok-made.ensures.tree
