use Rattle.std.proofs.Common.{◌++◌, ◌∷◌, [], List, map, sym, ap, ◌∙◌, subst}
use Rattle.std.specs.Prelude.{IfSome, option_map}
use Rattle.std.specs.List.{AllByRecursion, Contains}
use Rattle.std.specs.Str.{IsUtf8}
use Rattle.std.proofs.lemmas.List.{append-nil, map-append, take_all}
use Rattle.std.proofs.lemmas.Option.{slice_get_within}
use Rattle.data_theory.specs.Terms.{Sort}
use Rattle.mcrl2_lexer.proofs.NameTokens.{identifier_is_text}
use Rattle.mcrl2_syntax.specs.declared.word.Word.{Word}
use Rattle.mcrl2_syntax.specs.SortTrees.{plain_sort}
use Rattle.mcrl2_syntax.specs.TreeWords.{IsName, AreNames}
use Rattle.mcrl2_syntax.specs.Words.{PlainWord, word_of}
use Rattle.mcrl2_syntax.proofs.Lists.{all_both}
use Rattle.sort_table.specs.BareSorts.{bare_sort}
use Rattle.sort_table.specs.Expressions.{Name}
use Rattle.sort_table.specs.SignatureVocabularies.{vocabulary_of}
use Rattle.sort_table.proofs.NamedSignatures.{text_of_id}
use Rattle.data_typing.specs.Contexts.{IsFlatOver}
use Rattle.data_typing.specs.FlatSorts.{flat_sort}
use Rattle.sort_checker.specs.FullVocabularies.{Parameters}
use Rattle.sort_checker.specs.declared.parameter_tables.Parameter.{Parameter}
use Rattle.sort_checker.specs.ParameterTables.{parameter_of, parameters_of, IsParameterOver}
use Rattle.sort_checker.proofs.NameLists.{appended_more}
use Rattle.sort_checker.proofs.ParameterLists.{none_sorted, all_alike, sorted_words, sorted_words_listed}
use Rattle.sort_checker.proofs.ReadyLeaves.{holds_at}
use Rattle.sort_checker.proofs.parameter_tables.add_group.Goals as goal

pub returns-in_default-clause-means : goal.returns-in_default-clause-means
returns-in_default-clause-means c =
    sym (append-nil (parameters_of c.args.sig.now c.args.list.now.items))
    ∙ ap (λ (ps : Parameters). parameters_of c.args.sig.now c.args.list.now.items ++ ps)
    (sym (none_sorted (vocabulary_of c.args.sig.now).sort_names (bare_sort (plain_sort c.args.group.now.sort)) (sym c.in_ok-sort.ensures.means ∙ ap (option_map flat_sort) c.in_default.is) (map word_of c.args.group.now.names.items)))

pub name_number-name-requires-clause-text : goal.name_number-name-requires-clause-text
name_number-name-requires-clause-text c =
    subst IsUtf8 (sym c.as_slice.ensures.value)
    (identifier_is_text (holds_at word_of IsName c.as_slice-word-items.result.now (subst (λ (ws : List Word). AreNames (map word_of ws)) (sym c.as_slice-word-items.ensures.value) c.requires.ready.0.0) c.loop-word.word-index c.word-item.result c.loop-word-test.true c.word-item.is))

pub name_number-name-requires-clause-there : goal.name_number-name-requires-clause-there
name_number-name-requires-clause-there c =
    subst (Contains c.args.sig.now.texts) (sym c.as_slice.ensures.value)
    (holds_at word_of (λ (w : PlainWord). Contains c.args.sig.now.texts w.bytes) c.as_slice-word-items.result.now (subst (λ (ws : List Word). AllByRecursion (λ (w : PlainWord). Contains c.args.sig.now.texts w.bytes) (map word_of ws)) (sym c.as_slice-word-items.ensures.value) c.requires.ready.1)
    c.loop-word.word-index c.word-item.result c.loop-word-test.true c.word-item.is)

pub loop-word-preserved : goal.loop-word-preserved
loop-word-preserved c =
    let p : Parameter = record { name = c.name_number-name.result; sort = c.in-Some.sort } in
    let s : Sort = flat_sort c.in-Some.sort in
    record {
      means = appended_more (sorted_words s) (λ (w : Word). (w.bytes.items, s) ∷ []) (sorted_words_listed s) (parameters_of c.args.sig.now c.args.list.now.items) (parameters_of c.args.sig.now c.loop-word.list.items) (parameters_of c.args.sig.now c.push.new.self.items) c.as_slice-word-items.result.now c.loop-word.word-index c.word-item.result
          c.loop-word-test.true c.word-item.is c.loop-word.invariant.means
          (ap (parameters_of c.args.sig.now) c.in_ok-push.ensures.items ∙ (map-append (parameter_of c.args.sig.now) c.loop-word.list.items (p ∷ [])
          ∙ ap (λ (n : Name). parameters_of c.args.sig.now c.loop-word.list.items ++ (n, s) ∷ []) (text_of_id c.args.sig.now c.name_number-name.result c.as_slice.result.now c.name_number-name.ensures ∙ c.as_slice.ensures.value)));
      over = λ all.
          subst (AllByRecursion (IsParameterOver c.args.sig.now)) (sym c.in_ok-push.ensures.items)
          (all_both (IsParameterOver c.args.sig.now) c.loop-word.list.items (p ∷ []) (c.loop-word.invariant.over all)
          ((slice_get_within c.args.sig.now.texts c.name_number-name.result.0 c.as_slice.result.now c.name_number-name.ensures, subst (λ o. IfSome o (IsFlatOver c.args.sig.now)) c.in-Some.is c.in_ok-sort.ensures.over), tt));
    }

pub returns-clause-means : goal.returns-clause-means
returns-clause-means c =
    c.loop-word.invariant.means
    ∙ ap (λ (ps : Parameters). parameters_of c.args.sig.now c.args.list.now.items ++ ps)
    (ap (sorted_words (flat_sort c.in-Some.sort)) (take_all c.loop-word.word-index c.as_slice-word-items.result.now c.loop-word-test.false ∙ c.as_slice-word-items.ensures.value)
    ∙ sym (all_alike (vocabulary_of c.args.sig.now).sort_names (bare_sort (plain_sort c.args.group.now.sort)) (flat_sort c.in-Some.sort) (sym c.in_ok-sort.ensures.means ∙ ap (option_map flat_sort) c.in-Some.is) (map word_of c.args.group.now.names.items)))
