use Rattle.std.proofs.Common.{◌≡◌, ◌++◌, ◌∷◌, [], List, sym, ap, subst, ◌∙◌, length, arith, rules}
use Rattle.std.proofs.lemmas.List.{length-map, map-append}
use denote.Ref.{Bor}
use Rattle.sort_table.specs.declared.sort_entries.Definition.{Definition}
use Rattle.sort_table.specs.Expressions.{Name}
use Rattle.sort_table.specs.SortIndexes.{entries_of, entry_of, kind_of, KnowsFirstPlaces}
use Rattle.sort_table.proofs.IndexPlaces.{known_behind}
use Rattle.sort_table.proofs.sort_entries.SortIndex.push.Goals as goal

pub invariant_of-self-2 : goal.invariant_of-self-2
invariant_of-self-2 c =
    let old : List (Bor Name × Definition) = c.args.self.now.entries.items in
    let items : c.push.new.self.items ≡ old ++ (c.args.name, c.args.definition) ∷ [] = search rules in
    let pushed : entries_of c.push.new.self.items ≡ entries_of old ++ (c.args.name.now, kind_of c.args.definition) ∷ [] = ap entries_of items ∙ map-append entry_of old ((c.args.name, c.args.definition) ∷ []) in
    let place : c.len.result ≡ length (entries_of old) = omega (arith, length-map old entry_of) in
    record { known = subst (KnowsFirstPlaces c.add_place.new.places) (sym pushed) (known_behind c.args.self.now.places c.add_place.new.places (entries_of old) c.args.name.now (kind_of c.args.definition) c.len.result c.args.self.now.known place c.in_ok-add_place.ensures.added) }
