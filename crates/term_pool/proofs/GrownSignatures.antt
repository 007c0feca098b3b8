-- A value stays a value of its sort where a signature grows.
use Rattle.std.proofs.Common.{ℕ, List, [], ◌∷◌, inl, inr, ⊎_elim}
use Rattle.data_theory.specs.declared.ids.SortId.{SortId}
use Rattle.data_theory.specs.declared.ids.FunId.{FunId}
use Rattle.data_theory.specs.declared.words.Word.TheVariants as words
use Rattle.data_theory.specs.declared.words.ListWord.TheVariants as lists
use Rattle.data_theory.specs.Words.{text_of}
use Rattle.data_theory.specs.Functions.{arguments_of}
use Rattle.data_theory.specs.Sorts.{Kind, booleans, positives, naturals, integers, lists_over, without_constructors, by_declarations, structured}
use Rattle.data_theory.specs.Signature.{Sig, IsFun}
use Rattle.data_theory.specs.IdTerms.{IsGrown}
use Rattle.term_pool.specs.ConstructorValues.{ConstructorValue, ConstructorValues, a_number, built, a_constant, no_value, value_then, IsConstructorOf, IsConstructorAt, IsValueOf, AreValuesOf}
use Rattle.term_pool.specs.GrowthLaws.{InhabitedSortsStayInhabited, ConstantsStay}
use Rattle.term_pool.proofs.DeclaredConstants.{still_read, function_stays, constants_stay}

module _ (g h : Sig) (grown : IsGrown g h) where
  found_in_grown : (t : List ℕ) (ss : List SortId) (k : ℕ) → IsFun g t ss k → IsFun h t ss k
  found_in_grown t ss k p = (p.0, function_stays g h grown k p.0 p.1, still_read g.texts h.texts grown.new_texts grown.texts p.0.name.0 t p.2, p.3)

  of_kind_in_grown : (s : SortId) (d : Kind) (k : ℕ) (f : FunId) → IsConstructorOf g s d k f → IsConstructorOf h s d k f
  of_kind_in_grown s booleans k f c = ⊎_elim (λ p. inl (p.0, found_in_grown (text_of words.True) [] f.0 p.1)) (λ p. inr (p.0, found_in_grown (text_of words.False) [] f.0 p.1)) c
  of_kind_in_grown s positives k f c = c
  of_kind_in_grown s naturals k f c = c
  of_kind_in_grown s integers k f c = c
  of_kind_in_grown s (lists_over e) k f c = ⊎_elim (λ p. inl (p.0, found_in_grown (text_of (words.List lists.Empty)) (s ∷ []) f.0 p.1)) (λ p. inr (p.0, found_in_grown (text_of (words.List lists.Cons)) (e ∷ s ∷ []) f.0 p.1)) c
  of_kind_in_grown s without_constructors k f c = c
  of_kind_in_grown s (by_declarations fs) k f c = c
  of_kind_in_grown s (structured fs) k f c = c

  pub constructor_in_grown : (s : SortId) (k : ℕ) (f : FunId) → IsConstructorAt g s k f → IsConstructorAt h s k f
  constructor_in_grown s k f c = (c.0, still_read g.sorts h.sorts grown.new_sorts grown.sorts s.0 c.0 c.1, of_kind_in_grown s c.0.kind k f c.2)

  mutual
    pub value_in_grown : (v : ConstructorValue) (s : SortId) → IsValueOf g v s → IsValueOf h v s
    value_in_grown (a_number a z) s is = is
    value_in_grown (a_constant d) s is = (is.0, (is.1.0, still_read g.sorts h.sorts grown.new_sorts grown.sorts s.0 is.1.0 is.1.1, is.1.2))
    value_in_grown (built f vs) s is = (is.0, constructor_in_grown s is.0 f is.1, (is.2.0, function_stays g h grown f.0 is.2.0 is.2.1, values_in_grown vs (arguments_of is.2.0) is.2.2))

    pub values_in_grown : (vs : ConstructorValues) (ss : List SortId) → AreValuesOf g vs ss → AreValuesOf h vs ss
    values_in_grown no_value [] are = are
    values_in_grown no_value (s ∷ ss) are = are
    values_in_grown (value_then v vs) [] are = are
    values_in_grown (value_then v vs) (s ∷ ss) are = (value_in_grown v s are.0, values_in_grown vs ss are.1)

pub inhabited_sorts_stay_inhabited : InhabitedSortsStayInhabited
inhabited_sorts_stay_inhabited g h grown s has = (has.0, value_in_grown g h grown has.0 s has.1)

pub constants_stay_constants : ConstantsStay
constants_stay_constants g h grown cs are = constants_stay g h cs grown are
