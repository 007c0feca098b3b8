use Rattle.std.proofs.Common.{◌==◌, ℕ, List, [], ◌∷◌, length, ap, ◌∙◌, arith, length-append}
use Rattle.data_theory.specs.IdTerms.{symbol_under}
use Rattle.data_typing.specs.CodeWords.{meaning_in}
use Rattle.data_typing.proofs.ReadingLemmas.{one_on, word_stands}
use Rattle.data_typing.proofs.reading.add_word.Goals as goal

pub returns-clause-grown : goal.returns-clause-grown
returns-clause-grown c = one_on c.args.nodes.now.items c.add.new.nodes.items (record { kind = c.in_ok-kind.kind; arguments = c.args.arguments }) c.in_ok-at.ensures.nodes c.in_ok-at.ensures.added

pub returns-clause-stands : goal.returns-clause-stands
returns-clause-stands c = λ es s.
    word_stands (symbol_under c.args.context.now.sig.now) (meaning_in c.args.context.now.sig.now c.args.context.now.scope.now) c.args.nodes.now.items c.add.new.nodes.items (record { kind = c.in_ok-kind.kind; arguments = c.args.arguments })
    c.in_ok-at.at c.in_ok-at.ensures.at c.in_ok-at.ensures.added c.args.text.now c.is_empty-alone.result (c.is_empty-alone.ensures ∙ ap (λ (l : List ℕ). length l == 0) c.as_slice.ensures.value) c.in_ok-kind.ensures.means es s

pub returns-clause-within : goal.returns-clause-within
returns-clause-within c =
    let long = length-append c.args.nodes.now.items (record { kind = c.in_ok-kind.kind; arguments = c.args.arguments } ∷ []) in
    let same = ap length c.in_ok-at.ensures.added in
    omega (arith, long, same, c.in_ok-at.ensures.at)
