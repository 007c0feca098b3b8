use Rattle.std.proofs.Common.{refl}
use Rattle.data_typing.specs.declared.nodes.Callee.TheVariants as callees
use Rattle.data_typing.proofs.WordsWithin.{declared_within, declared_means}
use Rattle.data_typing.proofs.words.declared_overload.Goals as goal

pub returns-clause-within : goal.returns-clause-within
returns-clause-within c = declared_within c.args.sig.now c.args.flats.now c.requires.flats c.args.fun c.requires.within (record { callee = callees.Declared c.args.fun; arguments = c.in_ok-arguments.arguments; result = c.flat_at-result.result }) refl c.args_of.result.now c.sort_of.result c.in_ok-arguments.ensures c.flat_at-result.ensures

pub returns-clause-means : goal.returns-clause-means
returns-clause-means c = declared_means c.args.sig.now c.args.flats.now c.requires.flats c.args.fun c.requires.within (record { callee = callees.Declared c.args.fun; arguments = c.in_ok-arguments.arguments; result = c.flat_at-result.result }) refl c.args_of.result.now c.sort_of.result c.in_ok-arguments.ensures c.flat_at-result.ensures c.args_of.ensures c.sort_of.ensures
