use Rattle.std.proofs.Common.{◌≡◌, ◌∙◌, ℕ, List, length, map, take, ap, subst, arith}
use Rattle.std.proofs.Math.Seq.{take-length}
use Rattle.data_theory.specs.Names.{with_texts}
use Rattle.sort_table.specs.Expressions.{Name}
use Rattle.sort_table.specs.SortMeanings.{Kind}
use Rattle.sort_table.specs.SortIndexes.{kind_of}
use Rattle.sort_table.specs.NamedSorts.{AreIdsOf}
use Rattle.sort_table.specs.IndexedKinds.{kinds_of_index}
use Rattle.sort_table.proofs.NamedSignatures.{ids_more, entered_more, utf8_at}
use Rattle.sort_table.proofs.sort_declaring.enter_sort_names.Goals as goal

pub enter_bytes-requires : goal.enter_bytes-requires
enter_bytes-requires c = utf8_at (kinds_of_index c.args.index) c.loop-place.place c.get.result.0.now (kind_of c.get.result.1) c.requires c.get.ensures

pub loop-place-preserved : goal.loop-place-preserved
loop-place-preserved c = record {
  ids_are = ids_more c.loop-place.names c.enter_bytes.new.names (kinds_of_index c.args.index) c.loop-place.place c.get.result.0.now (kind_of c.get.result.1) c.loop-place.ids.items c.push.new.self.items c.in_ok-enter_bytes.field-0 c.get.ensures c.loop-place.invariant.ids_are
      c.in_ok-enter_bytes.ensures.entered c.in_ok-enter_bytes.ensures.place c.in_ok-push.ensures.items;
  entered = entered_more c.args.names.now c.loop-place.names c.enter_bytes.new.names (kinds_of_index c.args.index) c.loop-place.place c.get.result.0.now (kind_of c.get.result.1) c.get.ensures c.loop-place.invariant.entered c.in_ok-enter_bytes.ensures.entered;
}

pub returns-clause-ids : goal.returns-clause-ids
returns-clause-ids c =
    let end : c.loop-place.place ≡ length (kinds_of_index c.args.index) = omega (arith, c.len-place-end.ensures) in
    subst (λ (rs : List (Name × Kind)). AreIdsOf c.loop-place.names rs c.loop-place.ids.items) (ap (λ (i : ℕ). take i (kinds_of_index c.args.index)) end ∙ take-length (kinds_of_index c.args.index)) c.loop-place.invariant.ids_are

pub returns-clause-entered : goal.returns-clause-entered
returns-clause-entered c =
    let end : c.loop-place.place ≡ length (kinds_of_index c.args.index) = omega (arith, c.len-place-end.ensures) in
    subst (λ (rs : List (Name × Kind)). c.loop-place.names ≡ with_texts c.args.names.now (map (λ (r : Name × Kind). r.0) rs)) (ap (λ (i : ℕ). take i (kinds_of_index c.args.index)) end ∙ take-length (kinds_of_index c.args.index)) c.loop-place.invariant.entered
