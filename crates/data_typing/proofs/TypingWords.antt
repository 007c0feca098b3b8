-- Typing hangs on the words of an expression.
use Rattle.std.proofs.Common.{◌≡◌, ◌∷◌, refl, ap, ◌∙◌}
use Rattle.sort_table.specs.Expressions.{Name, Expressions, numeral, listed, word, none, more}
use Rattle.data_typing.specs.Typings.{Meaning, word_typing, flexible, list_by_sort, list_infers, typing, typings}
use Rattle.data_typing.specs.TypingLaws.{EachPartOf, TypingHangsOnItsWords}

mutual
  pub typing_hangs_on_its_words : TypingHangsOnItsWords
  typing_hangs_on_its_words m k (numeral n) h = refl
  typing_hangs_on_its_words m k (listed es) h = ap (λ ts. flexible (list_by_sort ts) (list_infers ts)) (typings_hang_on_their_words m k es h)
  typing_hangs_on_its_words m k (word f es) h = ap (λ r. word_typing r (typings m es)) h.0 ∙ ap (word_typing (k f)) (typings_hang_on_their_words m k es h.1)

  pub typings_hang_on_their_words : (m k : Name → Meaning) (es : Expressions) → EachPartOf (λ f. m f ≡ k f) (λ n. Unit {0}) es → typings m es ≡ typings k es
  typings_hang_on_their_words m k none h = refl
  typings_hang_on_their_words m k (more e es) h = ap (λ t. t ∷ typings m es) (typing_hangs_on_its_words m k e h.0) ∙ ap (λ ts. typing k e ∷ ts) (typings_hang_on_their_words m k es h.1)
