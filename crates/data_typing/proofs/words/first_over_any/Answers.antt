use Rattle.std.proofs.Common.{rules, ◌≡◌, true}
use Rattle.std.specs.Prelude.{is_some}
use Rattle.data_typing.proofs.WordLemmas.{over_any_found}
use Rattle.data_typing.proofs.words.first_over_any.Goals as goal

pub returns-then-is_some-clause-means : goal.returns-then-is_some-clause-means
returns-then-is_some-clause-means c = over_any_found c.args.rows.now c.loop-row.row-index _ c.in_ok-any.any c.loop-row-test.true c.in_ok-any.ensures.means c.loop-row.invariant (let some : is_some c.in_ok-any.any ≡ true = search rules in some)
