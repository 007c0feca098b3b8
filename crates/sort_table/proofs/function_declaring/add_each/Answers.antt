use Rattle.std.proofs.Common.{refl, sym, subst, ap, ◌∙◌, ◌<◌, length}
use Rattle.std.specs.List.{All}
use Rattle.std.proofs.lemmas.Option.{slice_get_within}
use Rattle.mcrl2_syntax.specs.Words.{word_of}
use Rattle.data_theory.specs.declared.ids.SortId.{SortId}
use Rattle.data_theory.specs.Signature.{Sig}
use Rattle.sort_table.specs.BareProcesses.{bare_name}
use Rattle.sort_table.specs.EnteredFunctions.{IsKnownName, IsNameId}
use Rattle.sort_table.proofs.KeptFunctions.{known_kept, pair_read, have_sorts_kept, has_sort_kept}
use Rattle.sort_table.proofs.EnteringFunctions.{adds_none, sorts_within, turn_absent, next_adds}
use Rattle.sort_table.proofs.function_declaring.add_each.Goals as goal

pub loop-word-init : goal.loop-word-init
loop-word-init c = record { sorts = refl; adds = λ es e r plain have has. adds_none c.args.signature.now }

pub name_id-name-requires : goal.name_id-name-requires
name_id-name-requires c =
    let some = c.requires.next in
    let keeps = (c.loop-word.invariant.adds some.expressions some.result some.role some.plain some.arguments_are some.result_is).keeps in
    subst (IsKnownName c.loop-word.signature) (sym c.as_slice.ensures.value)
    (known_kept c.args.signature.now c.loop-word.signature keeps c.word-item.result.bytes.items (pair_read (IsKnownName c.args.signature.now) word_of bare_name c.args.words.now c.loop-word.word-index c.word-item.result c.loop-word-test.true c.word-item.is c.requires.known))

pub add_fun-requires-clause-name : goal.add_fun-requires-clause-name
add_fun-requires-clause-name c = slice_get_within c.loop-word.signature.texts c.name_id-name.result.0 c.as_slice.result.now c.name_id-name.ensures

pub add_fun-requires-clause-sorts : goal.add_fun-requires-clause-sorts
add_fun-requires-clause-sorts c =
    let some = c.requires.next in
    let g = c.loop-word.signature in
    let keeps = (c.loop-word.invariant.adds some.expressions some.result some.role some.plain some.arguments_are some.result_is).keeps in
    subst (All (λ (s : SortId). s.0 < length g.sorts)) (sym c.in_ok-copied.ensures) (sorts_within g some.expressions c.args.args.now (have_sorts_kept c.args.signature.now g keeps some.expressions c.args.args.now some.arguments_are))

pub add_fun-requires-clause-to : goal.add_fun-requires-clause-to
add_fun-requires-clause-to c =
    let some = c.requires.next in
    let keeps = (c.loop-word.invariant.adds some.expressions some.result some.role some.plain some.arguments_are some.result_is).keeps in
    (has_sort_kept c.args.signature.now c.loop-word.signature keeps some.result c.args.to some.result_is).within

pub add_fun-requires-clause-absent : goal.add_fun-requires-clause-absent
add_fun-requires-clause-absent c =
    let some = c.requires.next in
    let old = c.args.signature.now in
    let g = c.loop-word.signature in
    let keeps = (c.loop-word.invariant.adds some.expressions some.result some.role some.plain some.arguments_are some.result_is).keeps in
    let name = subst (λ n. IsNameId g n c.name_id-name.result) c.as_slice.ensures.value c.name_id-name.ensures in
    turn_absent old g c.args.words.now c.args.args.now c.in_ok-copied.field-0.items c.args.to c.loop-word.word-index c.word-item.result c.name_id-name.result c.names.ensures.stands some c.loop-word-test.true c.word-item.is
    (c.loop-word.invariant.adds some.expressions some.result some.role some.plain some.arguments_are some.result_is) name c.in_ok-copied.ensures

pub loop-word-preserved : goal.loop-word-preserved
loop-word-preserved c =
    let some = c.requires.next in
    let old = c.args.signature.now in
    let g = c.loop-word.signature in
    let h = c.add_fun.new.self in
    let name = subst (λ n. IsNameId g n c.name_id-name.result) c.as_slice.ensures.value c.name_id-name.ensures in
    let keeps = (c.loop-word.invariant.adds some.expressions some.result some.role some.plain some.arguments_are some.result_is).keeps in
    let known = known_kept old g keeps c.word-item.result.bytes.items (pair_read (IsKnownName old) word_of bare_name c.args.words.now c.loop-word.word-index c.word-item.result c.loop-word-test.true c.word-item.is c.requires.known) in
    record {
      sorts = ap (λ (k : Sig). k.sorts) c.in_ok-add_fun.ensures.added ∙ c.loop-word.invariant.sorts;
      adds = λ es e r plain have has.
          next_adds old g h c.args.words.now c.args.args.now c.in_ok-copied.field-0.items c.args.to c.loop-word.word-index c.word-item.result c.name_id-name.result c.names.ensures.stands c.loop-word-test.true c.word-item.is
          c.in_ok-add_fun.ensures.added known name c.in_ok-copied.ensures es e r plain have has (c.loop-word.invariant.adds es e r plain have has);
    }
