use Rattle.std.proofs.Common.{[], ◌∷◌, map, length, sym, append-nil}
use Rattle.data_theory.specs.IdTerms.{symbol_under}
use Rattle.sort_table.specs.NamedSorts.{sort_count}
use Rattle.data_typing.specs.NodeTypings.{signature_of}
use Rattle.data_typing.specs.Within.{IsOverloadWithin}
use Rattle.data_typing.proofs.StepsWithin.{all_appended}
use Rattle.data_typing.proofs.WordsWithin.{overloads_more, declared_more}
use Rattle.data_typing.proofs.words.declared_overloads.Goals as goal

pub loop-fun-init : goal.loop-fun-init
loop-fun-init c = record {
  mean = sym (append-nil (map (signature_of (symbol_under c.args.sig.now)) c.args.overloads.items));
  within = overloads_more (sort_count c.args.sig.now) (length c.args.sig.now.functions) c.args.overloads.items c.requires.built_in;
}

pub loop-fun-preserved : goal.loop-fun-preserved
loop-fun-preserved c = record {
  mean = declared_more (symbol_under c.args.sig.now) c.args.sig.now c.args.funs.now c.loop-fun.fun-index _ (map (signature_of (symbol_under c.args.sig.now)) c.args.overloads.items) c.loop-fun.all.items c.push.new.self.items c.in_ok-overload.overload c.loop-fun-test.true c.loop-fun.invariant.mean c.in_ok-overload.ensures.means c.in_ok-push.ensures.items;
  within = all_appended (IsOverloadWithin (sort_count c.args.sig.now) (length c.args.sig.now.functions)) c.loop-fun.all.items (c.in_ok-overload.overload ∷ []) c.push.new.self.items c.in_ok-push.ensures.items c.loop-fun.invariant.within (c.in_ok-overload.ensures.within, tt);
}

pub returns-clause-within : goal.returns-clause-within
returns-clause-within c = c.loop-fun.invariant.within
