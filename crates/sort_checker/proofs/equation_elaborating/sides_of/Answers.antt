use Rattle.std.proofs.Common.{◌≡◌, sym, subst, ap, ap₂, ◌∙◌}
use Rattle.std.specs.Prelude.{Some}
use Rattle.std.proofs.lemmas.Option.{same_Some}
use Rattle.data_theory.specs.Terms.{Sort, Term}
use Rattle.mcrl2_syntax.specs.DataTrees.{plain_data}
use Rattle.sort_table.specs.BareData.{bare_data}
use Rattle.sort_table.specs.Expressions.{Expression}
use Rattle.sort_table.specs.Vocabularies.{Vocabulary}
use Rattle.data_typing.specs.Meanings.{Scope, typing_in}
use Rattle.data_typing.specs.Typings.{Inferred, Typing}
use Rattle.data_typing.proofs.Contexts.{flat_stays}
use Rattle.sort_checker.specs.PartTypings.{left_side}
use Rattle.sort_checker.specs.ElaboratedParts.{IsTerm}
use Rattle.sort_checker.proofs.Adding.{goes_nowhere, goes_then, it_is_grown}
use Rattle.sort_checker.proofs.WhatStays.{sees_data_after, term_on}
use Rattle.sort_checker.proofs.equation_elaborating.sides_of.Goals as goal

pub returns-in_err-wanted-clause-kept : goal.returns-in_err-wanted-clause-kept
returns-in_err-wanted-clause-kept c = goes_nowhere c.args.sig.now c.args.pool.now

pub typed_term-requires-clause-typed : goal.typed_term-requires-clause-typed
typed_term-requires-clause-typed c =
    let t = c.requires.typed in
    record { vocabulary = t.vocabulary; scope = t.scope; sees = t.sees; term = t.inferred.term; is = (c.in_ok-wanted.ensures.means t.vocabulary t.scope t.sees t.inferred t.left).0 }

pub typed_term-requires-2-clause-wanted : goal.typed_term-requires-2-clause-wanted
typed_term-requires-2-clause-wanted c = flat_stays c.args.sig.now c.typed_term.new.sig (it_is_grown c.args.sig.now c.typed_term.new.sig c.requires.ready.signature c.typed_term.ensures.kept.added) c.in_ok-wanted.sort c.in_ok-wanted.ensures.within.1

pub typed_term-requires-2-clause-typed : goal.typed_term-requires-2-clause-typed
typed_term-requires-2-clause-typed c =
    let t = c.requires.typed in
    record {
      vocabulary = t.vocabulary;
      scope = t.scope;
      sees = sees_data_after c.args.sig.now c.args.pool.now c.typed_term.new.sig c.typed_term.new.pool c.requires.ready.signature c.typed_term.ensures.kept c.args.scope.now t.vocabulary t.scope t.sees;
      term = t.term;
      is = ap (λ (s : Sort). (typing_in t.vocabulary t.scope (bare_data (plain_data c.args.right.now))).checks s) (c.in_ok-wanted.ensures.means t.vocabulary t.scope t.sees t.inferred t.left).1 ∙ t.right;
    }

pub returns-in_err-right-clause-kept : goal.returns-in_err-right-clause-kept
returns-in_err-right-clause-kept c = goes_then c.args.sig.now c.args.pool.now c.typed_term.new.sig c.typed_term.new.pool c.typed_term-2.new.sig c.typed_term-2.new.pool c.typed_term.ensures.kept c.typed_term-2.ensures.kept

pub returns-clause-kept : goal.returns-clause-kept
returns-clause-kept c = goes_then c.args.sig.now c.args.pool.now c.typed_term.new.sig c.typed_term.new.pool c.typed_term-2.new.sig c.typed_term-2.new.pool c.typed_term.ensures.kept c.typed_term-2.ensures.kept

pub returns-clause-means : goal.returns-clause-means
returns-clause-means c = λ v scope sees.
    let t = c.requires.typed in
    let left : Expression = bare_data (plain_data c.args.left.now) in
    let right : Expression = bare_data (plain_data c.args.right.now) in
    let is_left : left_side (typing_in v scope left) (typing_in v scope right) ≡ Some t.inferred =
    ap₂ (λ (w : Vocabulary) (s : Scope). left_side (typing_in w s left) (typing_in w s right)) (sees.vocabulary ∙ sym t.sees.vocabulary) (sees.variables ∙ sym t.sees.variables) ∙ t.left in
    let wanted = c.in_ok-wanted.ensures.means v scope sees t.inferred is_left in
    let one = c.in_ok-left.ensures.means v scope sees in
    let there = sees_data_after c.args.sig.now c.args.pool.now c.typed_term.new.sig c.typed_term.new.pool c.requires.ready.signature c.typed_term.ensures.kept c.args.scope.now v scope sees in
    let other = c.in_ok-right.ensures.means v scope there in
    let same : one.0 ≡ t.inferred.term = same_Some one.0 t.inferred.term (sym one.1 ∙ wanted.0) in (
      t.inferred,
      is_left,
      term_on c.typed_term.new.sig c.typed_term.new.pool c.typed_term-2.new.sig c.typed_term-2.new.pool c.typed_term-2.ensures.kept c.in_ok-left.left t.inferred.term
          (subst (λ (u : Term). IsTerm c.typed_term.new.sig c.typed_term.new.pool c.in_ok-left.left u) same one.2),
      other.0,
      ap (λ (s : Sort). (typing_in v scope right).checks s) (sym wanted.1) ∙ other.1,
      other.2,
    )
