use Rattle.std.proofs.Common.{◌≡◌, List, Bool, true, false, cond, map, ap, sym, ◌∙◌, subst}
use Rattle.std.specs.List.{list_all}
use Rattle.data_theory.specs.Terms.{Sort}
use Rattle.data_theory.specs.IdTerms.{sort_under}
use Rattle.mcrl2_syntax.specs.declared.word.Word.{Word}
use Rattle.sort_table.specs.Expressions.{Name}
use Rattle.sort_table.specs.SignatureVocabularies.{vocabulary_of}
use Rattle.sort_checker.specs.Operators.{has_action}
use Rattle.sort_checker.proofs.NameLists.{of_words, one_word_fails}
use Rattle.sort_checker.proofs.comm_shapes.fits_at.Goals as goal

pub returns-then-not-has_action : goal.returns-then-not-has_action
returns-then-not-has_action c =
    let ss : List Sort = map (sort_under c.args.sig.now) c.args.sorts.now in
    let test : Name → Bool = λ x. has_action (vocabulary_of c.args.sig.now) x ss in
    let absent : has_action (vocabulary_of c.args.sig.now) c.as_slice.result.now ss ≡ false = sym c.has_action.ensures ∙ c.if-not-has_action.true in
    let here : list_all test (of_words c.as_slice-name-items.result.now) ≡ false
    = one_word_fails test c.as_slice-name-items.result.now c.loop-name.name-index c.name-item.result c.loop-name-test.true c.name-item.is (subst (λ (n : Name). has_action (vocabulary_of c.args.sig.now) n ss ≡ false) c.as_slice.ensures.value absent) in
    sym (ap (λ (b : Bool). cond b (has_action (vocabulary_of c.args.sig.now) c.args.rule.now.outcome.bytes.items ss) true) (subst (λ (ws : List Word). list_all test (of_words ws) ≡ false) c.as_slice-name-items.ensures.value here))
