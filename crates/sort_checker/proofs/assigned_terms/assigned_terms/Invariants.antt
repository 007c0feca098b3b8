use Rattle.std.proofs.Common.{◌≡◌, List, map, take}
use Rattle.std.specs.Prelude.{Some}
use Rattle.data_theory.specs.Terms.{Term}
use Rattle.sort_table.specs.Vocabularies.{Vocabulary}
use Rattle.data_typing.specs.Meanings.{Scope}
use Rattle.sort_checker.specs.Additions.{GoesOn}
use Rattle.sort_checker.specs.AssignedTrees.{assigned_value}
use Rattle.sort_checker.specs.CodeContexts.{IsReady, SeesData, parameter_of}
use Rattle.sort_checker.specs.ElaboratedParts.{AreTerms}
use Rattle.sort_checker.specs.PartTypings.{assigned_in}
use Rattle.sort_checker.proofs.assigned_terms.assigned_terms.Given as goal

abbrev pub invariant-loop-parameter : goal.invariant-loop-parameter
invariant-loop-parameter l = record {
  kept : GoesOn l.fn.sig l.fn.pool l.sig l.pool;
  ready : IsReady l.sig l.pool l.tables l.scope;
  means : (v : Vocabulary) (s : Scope) → SeesData l.fn.sig l.scope v s
      → (us : List Term) × (assigned_in v s (map parameter_of (take l.parameter-index l.parameters)) (map assigned_value l.assignments) ≡ Some us) × AreTerms l.sig l.pool l.terms.items us;
}
