use Rattle.std.proofs.Common.{◌≡◌, ◌∙◌, ℕ, List, take, ap, subst, arith, length}
use Rattle.std.specs.Prelude.{Contains}
use Rattle.std.proofs.Math.Seq.{take-length}
use Rattle.mcrl2_syntax.specs.declared.word.Word.{Word}
use Rattle.mcrl2_syntax.specs.Words.{word_of}
use Rattle.mcrl2_syntax.specs.TreeWords.{IsName}
use Rattle.sort_table.specs.BareProcesses.{bare_name}
use Rattle.sort_checker.specs.CodeContexts.{words_at, EnterBehind}
use Rattle.sort_checker.proofs.Adding.{goes_nowhere, goes_then}
use Rattle.sort_checker.proofs.ReadLists.{at_mapped, at_twice}
use Rattle.sort_checker.proofs.Binding.{enter_none}
use Rattle.sort_checker.proofs.EnteringWords.{sort_within, sort_still, text_still, next_word}
use Rattle.sort_checker.proofs.binders.enter_words.Goals as goal

pub loop-word-init : goal.loop-word-init
loop-word-init c = record { kept = goes_nowhere c.args.sig.now c.args.pool.now; ready = c.requires.ready; bound = λ e has. enter_none c.args.sig.now c.args.scope.now c.args.variables.now.items }

pub enter_word-requires-clause-name : goal.enter_word-requires-clause-name
enter_word-requires-clause-name c = at_mapped IsName word_of c.args.words.now c.loop-word.word-index c.word-item.result c.loop-word-test.true c.word-item.is c.requires.names

pub enter_word-requires-clause-there : goal.enter_word-requires-clause-there
enter_word-requires-clause-there c =
    text_still c.args.sig.now c.requires.ready.signature c.args.pool.now c.loop-word.sig c.loop-word.invariant.kept c.word-item.result.bytes.items
    (at_twice (Contains c.args.sig.now.texts) word_of bare_name c.args.words.now c.loop-word.word-index c.word-item.result c.loop-word-test.true c.word-item.is c.requires.there)

pub enter_word-requires-clause-sort : goal.enter_word-requires-clause-sort
enter_word-requires-clause-sort c = sort_within c.args.sig.now c.requires.ready.signature c.args.pool.now c.loop-word.sig c.loop-word.invariant.kept c.args.sort c.requires.sort

pub returns-in_err-enter_word-clause-kept : goal.returns-in_err-enter_word-clause-kept
returns-in_err-enter_word-clause-kept c = goes_then c.args.sig.now c.args.pool.now c.loop-word.sig c.args.pool.now c.enter_word.new.sig c.args.pool.now c.loop-word.invariant.kept c.enter_word.ensures.kept

pub loop-word-preserved : goal.loop-word-preserved
loop-word-preserved c = record {
  kept = goes_then c.args.sig.now c.args.pool.now c.loop-word.sig c.args.pool.now c.enter_word.new.sig c.args.pool.now c.loop-word.invariant.kept c.enter_word.ensures.kept;
  ready = c.in_ok-enter_word.ensures.ready;
  bound = λ e has.
      next_word c.args.sig.now c.requires.ready.signature c.args.pool.now c.loop-word.sig c.loop-word.invariant.kept c.enter_word.new.sig c.enter_word.ensures.kept c.args.scope.now c.loop-word.scope c.enter_word.new.scope c.args.variables.now.items c.loop-word.variables.items c.enter_word.new.variables.items
      e c.args.words.now c.loop-word.word-index c.word-item.result c.loop-word-test.true c.word-item.is (c.loop-word.invariant.bound e has)
      (c.in_ok-enter_word.ensures.bound e (sort_still c.args.sig.now c.requires.ready.signature c.args.pool.now c.loop-word.sig c.loop-word.invariant.kept c.args.sort c.requires.sort e has));
}

pub returns-clause-bound : goal.returns-clause-bound
returns-clause-bound c = λ e has.
    let words = c.args.words.now in
    let end : c.loop-word.word-index ≡ length words = omega (arith, c.loop-word-test.false, c.loop-word.auto.word-index-end) in
    let whole : take c.loop-word.word-index words ≡ words = ap (λ (i : ℕ). take i words) end ∙ take-length words in
    subst (λ (ws : List Word). EnterBehind c.args.sig.now c.args.scope.now c.args.variables.now.items (words_at e ws) c.loop-word.sig c.loop-word.scope c.loop-word.variables.items) whole (c.loop-word.invariant.bound e has)
