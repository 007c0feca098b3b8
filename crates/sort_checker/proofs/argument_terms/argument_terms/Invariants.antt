use Rattle.std.proofs.Common.{List, take}
use Rattle.data_theory.specs.Terms.{Term}
use Rattle.sort_table.specs.Vocabularies.{Vocabulary}
use Rattle.data_typing.specs.Typings.{checked}
use Rattle.data_typing.specs.Meanings.{Scope}
use Rattle.sort_checker.specs.Additions.{GoesOn}
use Rattle.sort_checker.specs.ElaboratedParts.{AreTerms}
use Rattle.sort_checker.specs.CodeContexts.{IsReady, SeesData}
use Rattle.sort_checker.proofs.CallArguments.{Fill, sorts_of, typings_of}
use Rattle.sort_checker.proofs.argument_terms.argument_terms.Given as goal

abbrev pub invariant-loop-i : goal.invariant-loop-i
invariant-loop-i l = record {
  kept : GoesOn l.fn.sig l.fn.pool l.sig l.pool;
  ready : IsReady l.sig l.pool l.tables l.scope;
  means : (v : Vocabulary) (s : Scope) → SeesData l.fn.sig l.scope v s → (us : List Term) × Fill checked (sorts_of (take l.i l.parameters)) (typings_of v s (take l.i l.arguments)) us × AreTerms l.sig l.pool l.terms.items us;
}
