use Rattle.std.proofs.Common.{◌<◌, ◌++◌, List, length, map, sym, subst, ap, ◌∙◌, arith}
use Rattle.std.specs.Prelude.{slice_get}
use Rattle.std.specs.List.{All, Contains, filter}
use Rattle.data_theory.specs.declared.ids.FunId.{FunId}
use Rattle.data_theory.specs.declared.rows.Row.{Row}
use Rattle.data_theory.specs.IdTerms.{symbol_under}
use Rattle.sort_table.specs.NamedSorts.{sort_count}
use Rattle.sort_table.specs.SignatureVocabularies.{vocabulary_of}
use Rattle.data_typing.specs.BuiltIns.{is_settled, is_over_any, row_signature, row_scheme, scheme_named}
use Rattle.data_typing.specs.Meanings.{signatures_named}
use Rattle.data_typing.specs.NodeTypings.{signature_of}
use Rattle.data_typing.specs.CodeWords.{fun_signature}
use Rattle.data_typing.proofs.WordsWithin.{rows_contained, overloads_more, some_more}
use Rattle.data_typing.proofs.WordLemmas.{named_within, functions_mean, unnamed_signatures, named_signatures}
use Rattle.data_typing.proofs.words.word_functions.Goals as goal

pub first_over_any-requires : goal.first_over_any-requires
first_over_any-requires c = rows_contained c.args.text.now c.as_slice.result.now (c.as_slice.ensures.value ∙ c.in_ok-rows.ensures)

pub settled_overloads-requires : goal.settled_overloads-requires
settled_overloads-requires c = rows_contained c.args.text.now c.as_slice-2.result.now (c.as_slice-2.ensures.value ∙ c.in_ok-rows.ensures)

pub declared_overloads-requires-clause-within : goal.declared_overloads-requires-clause-within
declared_overloads-requires-clause-within c =
    subst (All (λ (j : FunId). j.0 < length c.args.sig.now.functions)) (sym c.funs_named-funs.ensures) (named_within 0 c.in-Some.name c.args.sig.now.functions (length c.args.sig.now.functions) (omega arith))

pub returns-in_default-clause-within : goal.returns-in_default-clause-within
returns-in_default-clause-within c = record {
  signatures = overloads_more (sort_count c.args.sig.now) (length c.args.sig.now.functions) c.in_ok-overloads.overloads.items c.in_ok-overloads.ensures.within;
  any = some_more (sort_count c.args.sig.now) c.in_ok-any.any c.in_ok-any.ensures.within;
}

pub returns-clause-within : goal.returns-clause-within
returns-clause-within c = record {
  signatures = c.in_ok-signatures.ensures.within;
  any = some_more (sort_count c.args.sig.now) c.in_ok-any.any c.in_ok-any.ensures.within;
}

pub returns-in_default-clause-mean : goal.returns-in_default-clause-mean
returns-in_default-clause-mean c =
    functions_mean (symbol_under c.args.sig.now) c.in_ok-overloads.overloads.items c.in_ok-any.any (signatures_named (vocabulary_of c.args.sig.now) c.args.text.now) (scheme_named c.args.text.now)
    (unnamed_signatures c.args.sig.now c.names.ensures.stands c.args.text.now (subst (λ xs. ¬ (Contains xs c.args.text.now)) c.names.ensures.texts c.in_default.ensures.found) c.in_ok-overloads.overloads.items
    (λ y. c.in_ok-overloads.ensures.mean y ∙ ap (λ (rs : List Row). map row_signature (filter is_settled rs)) (c.as_slice-2.ensures.value ∙ c.in_ok-rows.ensures)))
    (c.in_ok-any.ensures.means ∙ ap (λ (rs : List Row). slice_get (map row_scheme (filter is_over_any rs)) 0) (c.as_slice.ensures.value ∙ c.in_ok-rows.ensures))

pub returns-clause-mean : goal.returns-clause-mean
returns-clause-mean c =
    functions_mean (symbol_under c.args.sig.now) c.in_ok-signatures.signatures.items c.in_ok-any.any (signatures_named (vocabulary_of c.args.sig.now) c.args.text.now) (scheme_named c.args.text.now)
    (named_signatures c.args.sig.now c.names.ensures.stands c.args.text.now c.in-Some.name (ap (λ xs. slice_get xs c.in-Some.name.0) (sym c.names.ensures.texts) ∙ c.in-Some.ensures.found) c.in_ok-signatures.signatures.items c.in_ok-overloads.overloads.items
    (λ y. c.in_ok-overloads.ensures.mean y ∙ ap (λ (rs : List Row). map row_signature (filter is_settled rs)) (c.as_slice-2.ensures.value ∙ c.in_ok-rows.ensures))
    (c.in_ok-signatures.ensures.mean ∙ ap (λ (fs : List FunId). map (signature_of (symbol_under c.args.sig.now)) c.in_ok-overloads.overloads.items ++ map (fun_signature c.args.sig.now) fs) c.funs_named-funs.ensures))
    (c.in_ok-any.ensures.means ∙ ap (λ (rs : List Row). slice_get (map row_scheme (filter is_over_any rs)) 0) (c.as_slice.ensures.value ∙ c.in_ok-rows.ensures))
