use Rattle.std.proofs.Common.{rules, ◌≢◌, inl, inr, arith}
use Rattle.data_typing.proofs.FlatSortLemmas.{equal_fit, deep_dont_fit, bases_fit}
use Rattle.data_typing.proofs.flat_sorts.FlatSort.fits.Goals as goal
use Rattle.data_typing.proofs.flat_sorts.FlatSort.fits.Goals.{then-self-gt0-via-then-self-gt0, then-self-gt0-via-else-self-gt0+then-to-gt0}

pub returns-then-eq : goal.returns-then-eq
returns-then-eq c = equal_fit c.args.self c.args.to (search rules)

pub returns-then-self-gt0 : goal.returns-then-self-gt0
returns-then-self-gt0 c =
    let differ : c.args.self ≢ c.args.to = search rules in
    elim c.then-self-gt0.branch [
      | then-self-gt0-via-then-self-gt0 w ↦ deep_dont_fit c.args.self c.args.to differ (inl (omega arith))
      | then-self-gt0-via-else-self-gt0+then-to-gt0 w ↦ deep_dont_fit c.args.self c.args.to differ (inr (omega arith))
    ]

pub returns : goal.returns
returns c =
    let differ : c.args.self ≢ c.args.to = search rules in
    bases_fit c.args.self c.args.to differ (omega arith) (omega arith) c.embeds.result c.embeds.ensures
