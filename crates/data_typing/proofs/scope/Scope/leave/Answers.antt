use Rattle.std.proofs.Common.{refl}
use Rattle.data_typing.proofs.ScopeLemmas.{left_found}
use Rattle.data_typing.proofs.scope.Scope.leave.Goals as goal

pub invariant_of-self : goal.invariant_of-self
invariant_of-self c = left_found c.pop.new.self.items c.self.inside.entries.items c.self.inside.innermost.items _ c.in-Some.entry c.self.invariant c.in-Some.ensures.items refl
