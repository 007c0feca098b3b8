use Rattle.std.proofs.Common.{sym, subst}
use Rattle.mcrl2_syntax.specs.Words.{word_of}
use Rattle.sort_table.specs.BareProcesses.{bare_name}
use Rattle.sort_table.specs.EnteredFunctions.{IsKnownName}
use Rattle.sort_table.specs.EnteredActions.{EntersAct}
use Rattle.sort_table.proofs.KeptFunctions.{pair_read}
use Rattle.sort_table.proofs.EnteringFunctions.{sorts_within}
use Rattle.sort_table.proofs.AddedActions.{known_later, have_sorts_later, no_acts, next_acts}
use Rattle.sort_table.proofs.action_declaring.add_each_act.Goals as goal

pub loop-word-init : goal.loop-word-init
loop-word-init c = λ es have. no_acts c.args.signature.now

pub add_one_act-requires-clause-known : goal.add_one_act-requires-clause-known
add_one_act-requires-clause-known c =
    let old = c.args.signature.now in
    let g = c.loop-word.signature in
    let keeps = (c.loop-word.invariant c.requires.sorts.0 c.requires.sorts.1).keeps in
    subst (IsKnownName g) (sym c.as_slice.ensures.value)
    (known_later old g keeps c.word-item.result.bytes.items (pair_read (IsKnownName old) word_of bare_name c.args.words.now c.loop-word.word-index c.word-item.result c.loop-word-test.true c.word-item.is c.requires.known))

pub add_one_act-requires-clause-sorts : goal.add_one_act-requires-clause-sorts
add_one_act-requires-clause-sorts c =
    let old = c.args.signature.now in
    let g = c.loop-word.signature in
    let keeps = (c.loop-word.invariant c.requires.sorts.0 c.requires.sorts.1).keeps in
    sorts_within g c.requires.sorts.0 c.args.sorts.now (have_sorts_later old g keeps c.requires.sorts.0 c.args.sorts.now c.requires.sorts.1)

pub loop-word-preserved : goal.loop-word-preserved
loop-word-preserved c = λ es have.
    let old = c.args.signature.now in
    let g = c.loop-word.signature in
    let h = c.add_one_act.new.signature in
    let enters = subst (λ n. EntersAct n c.args.sorts.now g h) c.as_slice.ensures.value c.in_ok-add_one_act.ensures in
    next_acts old g h c.args.words.now c.args.sorts.now c.loop-word.word-index c.word-item.result c.loop-word-test.true c.word-item.is enters es have (c.loop-word.invariant es have)
