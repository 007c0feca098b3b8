use Rattle.std.proofs.Common.{◌++◌, ◌∷◌, [], List, take, refl, sym, ap, subst}
use Rattle.std.specs.List.{Contains}
use Rattle.std.specs.Str.{IsUtf8}
use Rattle.std.proofs.lemmas.List.{take_all}
use Rattle.mcrl2_lexer.proofs.NameTokens.{identifier_is_text}
use Rattle.mcrl2_syntax.specs.declared.word.Word.{Word}
use Rattle.mcrl2_syntax.specs.TreeWords.{IsName}
use Rattle.mcrl2_syntax.specs.Words.{PlainWord, word_of}
use Rattle.sort_table.specs.BareProcesses.{Variables}
use Rattle.sort_table.specs.Expressions.{Name}
use Rattle.sort_checker.specs.VariableScopes.{HasInScope}
use Rattle.sort_checker.proofs.NameLists.{appended_more}
use Rattle.sort_checker.proofs.ReadyLeaves.{holds_at, of_words, words_listed}
use Rattle.sort_checker.proofs.variable_scopes.enter_words.Goals as goal

pub enter-requires-clause-text : goal.enter-requires-clause-text
enter-requires-clause-text c = subst IsUtf8 (sym c.as_slice.ensures.value) (identifier_is_text (holds_at word_of IsName c.args.words.now c.requires.names c.loop-word.word-index c.word-item.result c.loop-word-test.true c.word-item.is))

pub enter-requires-clause-there : goal.enter-requires-clause-there
enter-requires-clause-there c =
    subst (Contains c.args.sig.now.texts) (sym c.as_slice.ensures.value) (holds_at word_of (λ (w : PlainWord). Contains c.args.sig.now.texts w.bytes) c.args.words.now c.requires.there c.loop-word.word-index c.word-item.result c.loop-word-test.true c.word-item.is)

pub loop-word-preserved : goal.loop-word-preserved
loop-word-preserved c = λ xs e sort inside.
    let before : Variables = xs ++ of_words e (take c.loop-word.word-index c.args.words.now) in
    subst (λ (ys : Variables). HasInScope c.args.sig.now ys c.enter.new.self)
    (appended_more (of_words e) (λ (w : Word). (w.bytes.items, e) ∷ []) (words_listed e) xs before (before ++ (c.as_slice.result.now, e) ∷ []) c.args.words.now c.loop-word.word-index c.word-item.result c.loop-word-test.true c.word-item.is refl
    (ap (λ (n : Name). before ++ (n, e) ∷ []) c.as_slice.ensures.value))
    (c.in_ok-enter.ensures before e sort (c.loop-word.invariant xs e sort inside))

pub returns : goal.returns
returns c = λ xs e sort inside.
    subst (λ (ws : List Word). HasInScope c.args.sig.now (xs ++ of_words e ws) c.loop-word.scope) (take_all c.loop-word.word-index c.args.words.now c.loop-word-test.false) (c.loop-word.invariant xs e sort inside)
