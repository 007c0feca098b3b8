use Rattle.std.proofs.Common.{◌≡◌, ◌++◌, ◌∷◌, [], List, map, sym, ap, ◌∙◌, subst}
use Rattle.std.specs.Prelude.{IfSome, option_map}
use Rattle.std.specs.List.{AllByRecursion, Contains}
use Rattle.std.specs.Str.{IsUtf8}
use Rattle.std.proofs.lemmas.List.{append-nil, map-append, take_all}
use Rattle.data_theory.specs.Terms.{Sort}
use Rattle.mcrl2_lexer.proofs.NameTokens.{identifier_is_text}
use Rattle.mcrl2_syntax.specs.declared.word.Word.{Word}
use Rattle.mcrl2_syntax.specs.SortTrees.{plain_sort}
use Rattle.mcrl2_syntax.specs.TreeWords.{IsName, AreNames}
use Rattle.mcrl2_syntax.specs.Words.{PlainWord, word_of}
use Rattle.mcrl2_syntax.proofs.Lists.{all_both}
use Rattle.sort_table.specs.BareSorts.{bare_sort}
use Rattle.sort_table.specs.Expressions.{Name}
use Rattle.sort_table.specs.SignatureVocabularies.{vocabulary_of}
use Rattle.data_typing.specs.Contexts.{IsFlatOver}
use Rattle.data_typing.specs.FlatSorts.{flat_sort}
use Rattle.sort_checker.specs.FullVocabularies.{Parameters}
use Rattle.sort_checker.specs.declared.process_tables.Parameter.{Parameter}
use Rattle.sort_checker.specs.CodeContexts.{parameter_of, IsParameterOver}
use Rattle.sort_checker.proofs.NameLists.{appended_more}
use Rattle.sort_checker.proofs.ParameterLists.{none_sorted, all_alike, sorted_words, sorted_words_listed}
use Rattle.sort_checker.proofs.ReadyLeaves.{holds_at}
use Rattle.sort_checker.proofs.table_building.add_group.Goals as goal

pub returns-in_default-clause-means : goal.returns-in_default-clause-means
returns-in_default-clause-means c =
    sym (append-nil (map parameter_of c.args.list.now.items))
    ∙ ap (λ (ps : Parameters). map parameter_of c.args.list.now.items ++ ps)
    (sym (none_sorted (vocabulary_of c.args.sig.now).sort_names (bare_sort (plain_sort c.args.group.now.sort)) (sym c.in_ok-sort.ensures.means ∙ ap (option_map flat_sort) c.in_default.is) (map word_of c.args.group.now.names.items)))

pub name_number-number-requires-clause-text : goal.name_number-number-requires-clause-text
name_number-number-requires-clause-text c =
    subst IsUtf8 (sym c.as_slice-name.ensures.value)
    (identifier_is_text (holds_at word_of IsName c.as_slice-word-items.result.now (subst (λ (ws : List Word). AreNames (map word_of ws)) (sym c.as_slice-word-items.ensures.value) c.requires.ready.0.0) c.loop-word.word-index c.word-item.result c.loop-word-test.true c.word-item.is))

pub name_number-number-requires-clause-there : goal.name_number-number-requires-clause-there
name_number-number-requires-clause-there c =
    subst (Contains c.args.sig.now.texts) (sym c.as_slice-name.ensures.value)
    (holds_at word_of (λ (w : PlainWord). Contains c.args.sig.now.texts w.bytes) c.as_slice-word-items.result.now (subst (λ (ws : List Word). AllByRecursion (λ (w : PlainWord). Contains c.args.sig.now.texts w.bytes) (map word_of ws)) (sym c.as_slice-word-items.ensures.value) c.requires.ready.1)
    c.loop-word.word-index c.word-item.result c.loop-word-test.true c.word-item.is)

pub loop-word-preserved : goal.loop-word-preserved
loop-word-preserved c =
    let p : Parameter = record { name = c.as_slice-name.result; number = c.name_number-number.result; sort = c.in-Some.sort } in
    let s : Sort = flat_sort c.in-Some.sort in
    record {
      means = appended_more (sorted_words s) (λ (w : Word). (w.bytes.items, s) ∷ []) (sorted_words_listed s) (map parameter_of c.args.list.now.items) (map parameter_of c.loop-word.list.items) (map parameter_of c.push.new.self.items) c.as_slice-word-items.result.now c.loop-word.word-index c.word-item.result
          c.loop-word-test.true c.word-item.is c.loop-word.invariant.means
          (ap (map parameter_of) c.in_ok-push.ensures.items ∙ (map-append parameter_of c.loop-word.list.items (p ∷ [])
          ∙ ap (λ (n : Name). map parameter_of c.loop-word.list.items ++ (n, s) ∷ []) c.as_slice-name.ensures.value));
      over = λ all.
          subst (AllByRecursion (IsParameterOver c.args.sig.now)) (sym c.in_ok-push.ensures.items)
          (all_both (IsParameterOver c.args.sig.now) c.loop-word.list.items (p ∷ []) (c.loop-word.invariant.over all)
          ((c.name_number-number.ensures, subst (λ o. IfSome o (IsFlatOver c.args.sig.now)) c.in-Some.is c.in_ok-sort.ensures.over), tt));
    }

pub returns-clause-means : goal.returns-clause-means
returns-clause-means c =
    c.loop-word.invariant.means
    ∙ ap (λ (ps : Parameters). map parameter_of c.args.list.now.items ++ ps)
    (ap (sorted_words (flat_sort c.in-Some.sort)) (take_all c.loop-word.word-index c.as_slice-word-items.result.now c.loop-word-test.false ∙ c.as_slice-word-items.ensures.value)
    ∙ sym (all_alike (vocabulary_of c.args.sig.now).sort_names (bare_sort (plain_sort c.args.group.now.sort)) (flat_sort c.in-Some.sort) (sym c.in_ok-sort.ensures.means ∙ ap (option_map flat_sort) c.in-Some.is) (map word_of c.args.group.now.names.items)))
