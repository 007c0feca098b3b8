use Rattle.std.proofs.Common.{◌≡◌, length, ap, arith}
use Rattle.std.specs.Prelude.{Some, None, slice_set}
use Rattle.std.proofs.lemmas.List.{get_or_read}
use Rattle.data_typing.proofs.ScopeLemmas.{more_room, entered_found}
use Rattle.data_typing.proofs.scope.Scope.enter.Goals as goal

pub invariant_of-self-2 : goal.invariant_of-self-2
invariant_of-self-2 c =
    let same : c.len-place.result ≡ length c.self.inside.entries.items = omega (arith, c.len-place.ensures, c.self.inside.entries.ok.0) in
    entered_found c.self.inside.entries.items c.push.new.self.items c.make_room.new.innermost.items _ (record { bound = c.args.bound; hidden = c.index-hidden.result.now })
    (more_room c.self.inside.entries.items c.self.inside.innermost.items c.make_room.new.innermost.items c.in_ok-make_room.ensures.more c.in_ok-make_room.ensures.same c.self.invariant)
    c.in_ok-make_room.ensures.room (get_or_read c.make_room.new.innermost.items c.args.bound.name.0 c.index-hidden.result.now c.in_ok-make_room.ensures.room c.index-hidden.ensures None)
    c.in_ok-push.ensures.items (ap (λ n. slice_set c.make_room.new.innermost.items c.args.bound.name.0 (Some n)) same)
