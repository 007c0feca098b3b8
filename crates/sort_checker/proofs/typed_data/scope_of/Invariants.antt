use Rattle.std.proofs.Common.{◌≡◌, take}
use Rattle.data_typing.specs.CodeWords as code
use Rattle.data_typing.specs.Contexts.{IsScopeOver}
use Rattle.sort_checker.specs.TypedData.{scope_under}
use Rattle.sort_checker.proofs.typed_data.scope_of.Given as goal

abbrev pub invariant-loop-var : goal.invariant-loop-var
invariant-loop-var l = record {
  over : IsScopeOver l.sig l.scope;
  means : code.scope_of l.sig.texts l.scope ≡ scope_under l.sig (take l.var-index l.variables);
}
