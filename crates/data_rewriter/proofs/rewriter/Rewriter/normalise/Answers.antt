use Rattle.std.proofs.Common.{[], sym, ◌∙◌}
use Rattle.data_rewriter.proofs.StateMoves.{tables_kept}
use Rattle.data_rewriter.proofs.Enough.{enough_ends}
use Rattle.data_rewriter.proofs.Keeping.{stored_says, said_is_stored}
use Rattle.data_rewriter.proofs.PaidRunning.{stored_costs_nothing}
use Rattle.data_rewriter.proofs.rewriter.Rewriter.normalise.Goals as goal

pub returns-in-Some-clause-stored : goal.returns-in-Some-clause-stored
returns-in-Some-clause-stored g c = λ sig own fits term covered.
    let at = sym c.kept.ensures ∙ c.in-Some.is in
    (at, fits.closed covered c.args.term c.in-Some.known at)

pub returns-in-Some-clause-says : goal.returns-in-Some-clause-says
returns-in-Some-clause-says g c = λ sig own fits term. stored_says sig own c.args.pool.now.trees c.args.self.now.normal_forms c.args.term c.in-Some.known c.args.fuel.now fits.stored (sym c.kept.ensures ∙ c.in-Some.is)

pub run-requires-clause-stored : goal.run-requires-clause-stored
run-requires-clause-stored g c = λ t u e. let k = c.requires.known.2.stored t u e in (k.0, k.1)

pub returns-in_err-normal-clause-fits : goal.returns-in_err-normal-clause-fits
returns-in_err-normal-clause-fits g c = λ sig own fits term. record {
  tables = tables_kept c.args.self.now.tables sig own c.args.pool.now.trees c.run.new.pool.trees c.in_err-normal.ensures.kept fits.tables;
  stored = c.in_err-normal.ensures.stored sig own fits.tables fits.stored term.within;
  closed = λ covered. (c.in_err-normal.ensures.pairs sig own fits.tables fits.stored term.within covered).1 (fits.closed covered);
}

pub returns-in_err-normal-clause-pairs : goal.returns-in_err-normal-clause-pairs
returns-in_err-normal-clause-pairs g c = λ sig own fits term covered. (c.in_err-normal.ensures.pairs sig own fits.tables fits.stored term.within covered).0

pub returns-in_err-keep-clause-fits : goal.returns-in_err-keep-clause-fits
returns-in_err-keep-clause-fits g c = λ sig own fits term.
    let tables = tables_kept c.args.self.now.tables sig own c.args.pool.now.trees c.run.new.pool.trees c.in_ok-normal.ensures.kept fits.tables in
    let stored = c.in_ok-normal.ensures.stored sig own fits.tables fits.stored term.within in
    let pair = said_is_stored sig own c.args.pool.now.trees c.run.new.pool.trees c.args.term c.in-Done.done c.args.fuel.now c.run.new.fuel c.in_ok-normal.normal c.in_ok-normal.ensures.kept term c.in-Done.is (c.in_ok-normal.ensures.says sig own fits.tables fits.stored term.within) in
    record {
      tables = tables;
      stored = c.in_err-keep.ensures.stored sig own c.run.new.pool.trees stored pair.0 pair.1;
      closed = λ covered. (c.in_err-keep.ensures.pairs sig own tables.signs.signature.table covered stored pair.0 pair.1).1 ((c.in_ok-normal.ensures.pairs sig own fits.tables fits.stored term.within covered).1 (fits.closed covered));
    }

pub returns-in_err-keep-clause-pairs : goal.returns-in_err-keep-clause-pairs
returns-in_err-keep-clause-pairs g c = λ sig own fits term covered t u e.
    let stored = c.in_ok-normal.ensures.stored sig own fits.tables fits.stored term.within in
    let pair = said_is_stored sig own c.args.pool.now.trees c.run.new.pool.trees c.args.term c.in-Done.done c.args.fuel.now c.run.new.fuel c.in_ok-normal.normal c.in_ok-normal.ensures.kept term c.in-Done.is (c.in_ok-normal.ensures.says sig own fits.tables fits.stored term.within) in
    (c.in_err-keep.ensures.pairs sig own fits.tables.signs.signature.table covered stored pair.0 pair.1).0 t u ((c.in_ok-normal.ensures.pairs sig own fits.tables fits.stored term.within covered).0 t u e)

pub returns-in_ok-keep-clause-fits : goal.returns-in_ok-keep-clause-fits
returns-in_ok-keep-clause-fits g c = λ sig own fits term.
    let tables = tables_kept c.args.self.now.tables sig own c.args.pool.now.trees c.run.new.pool.trees c.in_ok-normal.ensures.kept fits.tables in
    let stored = c.in_ok-normal.ensures.stored sig own fits.tables fits.stored term.within in
    let pair = said_is_stored sig own c.args.pool.now.trees c.run.new.pool.trees c.args.term c.in-Done.done c.args.fuel.now c.run.new.fuel c.in_ok-normal.normal c.in_ok-normal.ensures.kept term c.in-Done.is (c.in_ok-normal.ensures.says sig own fits.tables fits.stored term.within) in
    record {
      tables = tables;
      stored = c.in_ok-keep.ensures.stored sig own c.run.new.pool.trees stored pair.0 pair.1;
      closed = λ covered. (c.in_ok-keep.ensures.pairs sig own tables.signs.signature.table covered stored pair.0 pair.1).1 ((c.in_ok-normal.ensures.pairs sig own fits.tables fits.stored term.within covered).1 (fits.closed covered));
    }

pub returns-in_ok-keep-clause-pairs : goal.returns-in_ok-keep-clause-pairs
returns-in_ok-keep-clause-pairs g c = λ sig own fits term covered t u e.
    let stored = c.in_ok-normal.ensures.stored sig own fits.tables fits.stored term.within in
    let pair = said_is_stored sig own c.args.pool.now.trees c.run.new.pool.trees c.args.term c.in-Done.done c.args.fuel.now c.run.new.fuel c.in_ok-normal.normal c.in_ok-normal.ensures.kept term c.in-Done.is (c.in_ok-normal.ensures.says sig own fits.tables fits.stored term.within) in
    (c.in_ok-keep.ensures.pairs sig own fits.tables.signs.signature.table covered stored pair.0 pair.1).0 t u ((c.in_ok-normal.ensures.pairs sig own fits.tables fits.stored term.within covered).0 t u e)

pub returns-in_default-normal-clause-fits : goal.returns-in_default-normal-clause-fits
returns-in_default-normal-clause-fits g c = λ sig own fits term. record {
  tables = tables_kept c.args.self.now.tables sig own c.args.pool.now.trees c.run.new.pool.trees c.in_ok-normal.ensures.kept fits.tables;
  stored = c.in_ok-normal.ensures.stored sig own fits.tables fits.stored term.within;
  closed = λ covered. (c.in_ok-normal.ensures.pairs sig own fits.tables fits.stored term.within covered).1 (fits.closed covered);
}

pub returns-in_default-normal-clause-pairs : goal.returns-in_default-normal-clause-pairs
returns-in_default-normal-clause-pairs g c = λ sig own fits term covered. (c.in_ok-normal.ensures.pairs sig own fits.tables fits.stored term.within covered).0

pub returns-in_default-normal-clause-enough : goal.returns-in_default-normal-clause-enough
returns-in_default-normal-clause-enough g c = λ sig fits term. enough_ends sig c.args.pool.now.trees c.run.new.pool.trees c.args.term c.args.fuel.now c.run.new.fuel c.in_ok-normal.normal fits.tables.signs.signature (c.in_ok-normal.ensures.says sig [] fits.tables fits.stored term.within)

-- ---- what was paid
pub returns-in-Some-clause-costs : goal.returns-in-Some-clause-costs
returns-in-Some-clause-costs g c = λ sig own fits term. stored_costs_nothing sig own c.args.pool.now.trees c.args.self.now.normal_forms c.args.term c.in-Some.known c.args.fuel.now (sym c.kept.ensures ∙ c.in-Some.is)
