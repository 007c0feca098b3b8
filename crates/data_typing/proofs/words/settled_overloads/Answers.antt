use Rattle.std.proofs.Common.{subst, sym, ap}
use Rattle.std.specs.Prelude.{option_to_list}
use Rattle.std.specs.List.{AllByRecursion}
use Rattle.std.proofs.Common.{map}
use Rattle.data_typing.specs.NodeTypings.{signature_of}
use Rattle.data_typing.specs.Within.{IsOverloadWithin}
use Rattle.data_typing.proofs.StepsWithin.{all_appended, all_some}
use Rattle.data_typing.proofs.WordLemmas.{settled_more_at}
use Rattle.data_typing.proofs.words.settled_overloads.Goals as goal

pub loop-row-init : goal.loop-row-init
loop-row-init c = record {
  mean = λ y. ap (map (signature_of y)) c.new-overloads.ensures.items;
  within = subst (AllByRecursion (IsOverloadWithin 0 0)) (sym c.new-overloads.ensures.items) tt;
}

pub loop-row-preserved : goal.loop-row-preserved
loop-row-preserved c = record {
  mean = settled_more_at c.args.rows.now c.loop-row.row-index _ c.loop-row.overloads.items c.push_some.new.overloads.items c.in_ok-settled.settled c.loop-row-test.true c.loop-row.invariant.mean c.in_ok-settled.ensures.means c.in_ok-push_some.ensures;
  within = all_appended (IsOverloadWithin 0 0) c.loop-row.overloads.items (option_to_list c.in_ok-settled.settled) c.push_some.new.overloads.items c.in_ok-push_some.ensures c.loop-row.invariant.within (all_some (IsOverloadWithin 0 0) c.in_ok-settled.settled c.in_ok-settled.ensures.within);
}

pub returns-clause-within : goal.returns-clause-within
returns-clause-within c = c.loop-row.invariant.within
