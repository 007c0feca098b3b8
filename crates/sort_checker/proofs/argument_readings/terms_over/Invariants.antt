use Rattle.std.proofs.Common.{List, map, take}
use Rattle.data_theory.specs.Terms.{Term}
use Rattle.data_typing.specs.declared.scope.Bound.{Bound}
use Rattle.data_typing.specs.FlatSorts.{flat_sort}
use Rattle.data_typing.specs.Typings.{Typing}
use Rattle.sort_checker.specs.Additions.{GoesOn}
use Rattle.sort_checker.specs.CodeContexts.{IsReady}
use Rattle.sort_checker.specs.ElaboratedParts.{AreTerms}
use Rattle.sort_checker.specs.ReadArguments.{HaveTermsAt}
use Rattle.sort_checker.specs.TypedLabels.{HaveTheirSortsIn}
use Rattle.sort_checker.specs.TypedTrees.{AreReadings, how_of}
use Rattle.sort_checker.proofs.argument_readings.terms_over.Given as goal

abbrev pub invariant-loop-i : goal.invariant-loop-i
invariant-loop-i l = record {
  kept : GoesOn l.sig l.fn.pool l.sig l.pool;
  ready : (bs : List Bound) → IsReady l.sig l.fn.pool l.tables bs → IsReady l.sig l.pool l.tables bs;
  means : (ts : List Typing) (us : List Term) → AreReadings l.sig l.readings ts → HaveTermsAt (how_of l.way) (map flat_sort l.sorts) ts us → AreTerms l.sig l.pool l.terms.items (take l.i us) × HaveTheirSortsIn l.sig (take l.i us);
}
