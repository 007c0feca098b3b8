use Rattle.std.proofs.Common.{List, get_or, take, subst}
use Rattle.std.proofs.lemmas.List.{take_more, take_all}
use Rattle.data_theory.specs.declared.ids.TermId.{TermId}
use Rattle.term_pool.proofs.InsertedTerms.{HasAll, HasToo, has_one_more}
use Rattle.lps_invariant.proofs.Sets.{has_key}
use Rattle.lps_invariant.proofs.deciding.insert_all.Goals as goal

pub loop-term-preserved : goal.loop-term-preserved
loop-term-preserved c =
    let next : TermId = get_or c.args.terms.now c.loop-term.term-index (record { 0 = 0 }) in
    let has : HasToo c.loop-term.set.keys next c.insert.new.self.keys = rw (c.in_ok-insert.ensures.keys) (has_key c.loop-term.set.keys next) in
    rw (take_more c.args.terms.now c.loop-term.term-index (record { 0 = 0 }) c.loop-term-test.true)
    (has_one_more c.args.set.now.keys (take c.loop-term.term-index c.args.terms.now) c.loop-term.set.keys next c.insert.new.self.keys c.loop-term.invariant has)

pub returns : goal.returns
returns c = subst (λ (terms : List TermId). HasAll c.args.set.now.keys terms c.loop-term.set.keys) (take_all c.loop-term.term-index c.args.terms.now c.loop-term-test.false) c.loop-term.invariant
