-- An expression has one term at most.
use Rattle.std.proofs.Common.{◌≡◌, sym, ap, ◌∙◌}
use Rattle.std.proofs.lemmas.Option.{same_Some}
use Rattle.data_typing.specs.Typings.{Inferred}
use Rattle.data_typing.specs.TypingLaws.{OneTermAtMost}

pub one_term_at_most : OneTermAtMost
one_term_at_most = record {
  inferred = λ v scope e t u s r h k. let same : record { term = t; sort = s } ≡ record { term = u; sort = r } = same_Some _ _ (sym h ∙ k) in (ap (λ (i : Inferred). i.term) same, ap (λ (i : Inferred). i.sort) same);
  checked = λ v scope e s t u h k. same_Some t u (sym h ∙ k);
}
