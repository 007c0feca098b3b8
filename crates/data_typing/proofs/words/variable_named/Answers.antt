use Rattle.std.proofs.Common.{◌<◌, length, sym, subst, ap, ◌∙◌}
use Rattle.std.specs.Prelude.{None, IfSome, option_map, slice_get}
use Rattle.std.specs.List.{Contains}
use Rattle.std.proofs.lemmas.List.Elements.{All-weaker}
use Rattle.sort_table.specs.NamedSorts.{sort_count}
use Rattle.data_typing.specs.Within.{IsFlatWithin}
use Rattle.data_typing.specs.CodeWords.{bound_of}
use Rattle.data_typing.specs.Contexts.{IsBoundOver}
use Rattle.data_typing.proofs.WordsWithin.{found_within}
use Rattle.data_typing.proofs.WordLemmas.{unnamed_bound, named_bound}
use Rattle.data_typing.proofs.words.variable_named.Goals as goal

pub returns-in_err-name-clause-found : goal.returns-in_err-name-clause-found
returns-in_err-name-clause-found c =
    ap (option_map (bound_of c.args.sig.now.texts)) c.from_residual.ensures
    ∙ sym (unnamed_bound c.args.sig.now c.names.ensures.stands c.args.text.now c.args.scope.now (All-weaker (IsBoundOver c.args.sig.now) (λ b. b.name.0 < length c.args.sig.now.texts) (λ b is. is.0) c.args.scope.now c.requires)
    (subst (λ xs. ¬ (Contains xs c.args.text.now)) c.names.ensures.texts c.in_err-name.ensures.found))

pub returns-clause-found : goal.returns-clause-found
returns-clause-found c =
    ap (option_map (bound_of c.args.sig.now.texts)) c.find-2.ensures
    ∙ sym (named_bound c.args.sig.now c.names.ensures.stands c.args.text.now c.args.scope.now (All-weaker (IsBoundOver c.args.sig.now) (λ b. b.name.0 < length c.args.sig.now.texts) (λ b is. is.0) c.args.scope.now c.requires)
    c.in_ok-name.name (ap (λ xs. slice_get xs c.in_ok-name.name.0) (sym c.names.ensures.texts) ∙ c.in_ok-name.ensures.found))

pub returns-clause-within : goal.returns-clause-within
returns-clause-within c =
    subst (λ o. IfSome o (λ b. IsFlatWithin (sort_count c.args.sig.now) b.sort)) (sym c.find-2.ensures)
    (found_within (λ b. IsFlatWithin (sort_count c.args.sig.now) b.sort) c.in_ok-name.name c.args.scope.now (All-weaker (IsBoundOver c.args.sig.now) (λ b. IsFlatWithin (sort_count c.args.sig.now) b.sort) (λ b is. is.1) c.args.scope.now c.requires) None tt)
