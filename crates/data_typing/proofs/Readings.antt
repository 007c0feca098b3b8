-- Inferred and checked terms read the expression.
use Rattle.std.proofs.Common.{◌≡◌, inl, inr, cond, List, [], ◌∷◌, refl, subst, ap, ◌∙◌}
use Rattle.std.specs.Prelude.{Option, Some, None, option_map, option_and_then, is_some, pos}
use Rattle.std.specs.Option.{option_or}
use Rattle.std.proofs.lemmas.Option.{none-some, same_Some, option_and_then_some}
use Rattle.data_theory.specs.Terms.{Sort, Symbol, empty, cons, Term, Terms, apply}
use Rattle.data_theory.specs.Terms as terms
use Rattle.sort_table.specs.Expressions.{Name, Expression, Expressions, numeral, listed, word, none, more}
use Rattle.data_typing.specs.Typings.{sort_eq, upcast_to, widest, Inferred, Typing, embedded, flexible, exactly, checked, all_at, Signature, applied, first_exact, first_fitting, first_of, elements, read_off, Scheme, scheme_at, candidates, first_candidate, by_result, Meaning, bound, functions, call_infers, call_by_sort, word_typing, list_of, list_by_sort, list_infers, least_sort, typings}
use Rattle.data_typing.specs.TypingLaws.{IsAmong, Reads, a_numeral, a_variable, a_call, a_call_over, a_list, upcast_before, ReadEach, no_more, one_more, ReadList, no_element, one_element, TypingReads, TypingReadsTheExpression}
use Rattle.data_typing.proofs.Options.{one_or_other, mapped, chosen}

first_among : {A B R : Type 0} (f : A → Option B) (xs : List A) (y : B) → first_of f xs ≡ Some y → ((x : A) → IsAmong x xs → f x ≡ Some y → R) → R
first_among f [] y e k = absurd (none-some y e)
first_among f (x ∷ xs) y e k = one_or_other (f x) (first_of f xs) y e (λ h. k x (inl refl) h) (λ h. first_among f xs y h (λ z among q. k z (inr among) q))

abbrev pub EachReads : (Name → Meaning) → Expressions → List Typing → Type 0
EachReads m none [] = Unit {0}
EachReads m (more e es) (t ∷ ts) = TypingReads m e t × EachReads m es ts
EachReads m _ _ = ⊥

embedded_reads : (m : Name → Meaning) (e : Expression) (s : Sort) (i : Inferred) (u : Term) → Reads m e i.term → embedded s i ≡ Some u → Reads m e u
embedded_reads m e s i u h q =
    chosen (sort_eq i.sort s) (Some i.term) (option_map (λ f. apply f (terms.more i.term terms.none)) (upcast_to i.sort s)) u q
    (λ b w. subst (Reads m e) (same_Some _ _ w) h)
    (λ b w. mapped (λ f. apply f (terms.more i.term terms.none)) (upcast_to i.sort s) u w (λ f there is. subst (Reads m e) is (upcast_before e i.term i.sort s f there h)))

flexible_reads : (m : Name → Meaning) (e : Expression) (by : Sort → Option Term) (o : Option Inferred) → ((i : Inferred) → o ≡ Some i → Reads m e i.term) → ((s : Sort) (u : Term) → by s ≡ Some u → Reads m e u) → TypingReads m e (flexible by o)
flexible_reads m e by o h k = record {
  infers = h;
  checks = λ s u q. one_or_other (by s) (option_and_then (embedded s) o) u q (k s u) (λ w. option_and_then_some (embedded s) o u w (λ i there v. embedded_reads m e s i u (h i there) v));
}

abbrev pub GivesReadings : (Name → Meaning) → (Sort → Typing → Option Term) → Type 0
GivesReadings m how = (e : Expression) (s : Sort) (t : Typing) (u : Term) → TypingReads m e t → how s t ≡ Some u → Reads m e u

exact_reads : (m : Name → Meaning) → GivesReadings m exactly
exact_reads m e s t u h q =
    option_and_then_some (λ i. cond (sort_eq i.sort s) (Some i.term) None) t.infers u q
    (λ i there w. chosen (sort_eq i.sort s) (Some i.term) None u w (λ b v. subst (Reads m e) (same_Some _ _ v) (h.infers i there)) (λ b v. absurd (none-some u v)))

checked_reads : (m : Name → Meaning) → GivesReadings m checked
checked_reads m e s t u h q = h.checks s u q

all_read : (m : Name → Meaning) (how : Sort → Typing → Option Term) → GivesReadings m how → (es : Expressions) (ss : List Sort) (ts : List Typing) (us : Terms) → EachReads m es ts → all_at how ss ts ≡ Some us → ReadEach m es us
all_read m how k none [] [] us h q = subst (ReadEach m none) (same_Some _ _ q) no_more
all_read m how k (more e es) (s ∷ ss) (t ∷ ts) us h q =
    option_and_then_some (λ u. option_map (terms.more u) (all_at how ss ts)) (how s t) us q
    (λ u first w. mapped (terms.more u) (all_at how ss ts) us w
    (λ rest others v. subst (ReadEach m (more e es)) v (one_more e es u rest (k e s t u h.0 first) (all_read m how k es ss ts rest h.1 others))))
all_read m how k none (s ∷ ss) [] us h q = absurd (none-some us q)
all_read m how k (more e es) [] (t ∷ ts) us h q = absurd (none-some us q)
all_read m how k none ss (t ∷ ts) us h q = absurd h
all_read m how k (more e es) ss [] us h q = absurd h

applied_reads : (m : Name → Meaning) (how : Sort → Typing → Option Term) → GivesReadings m how → (f : Name) (es : Expressions) (ts : List Typing) → EachReads m es ts → (g : Signature)
    → ((us : Terms) → ReadEach m es us → Reads m (word f es) (apply g.symbol us)) → (i : Inferred) → applied how ts g ≡ Some i → Reads m (word f es) i.term
applied_reads m how k f es ts h g reads i q =
    mapped (λ us. record { term = apply g.symbol us; sort = g.result }) (all_at how g.arguments ts) i q
    (λ us there w. subst (λ (j : Inferred). Reads m (word f es) j.term) w (reads us (all_read m how k es g.arguments ts us h there)))

call_reads : (m : Name → Meaning) (f : Name) (fs : List Signature) (c : Option Scheme) → m f ≡ functions fs c → (es : Expressions) (ts : List Typing) → EachReads m es ts → TypingReads m (word f es) (word_typing (functions fs c) ts)
call_reads m f fs c is es ts h =
    flexible_reads m (word f es) (call_by_sort fs c ts) (call_infers fs c ts)
    (λ i q. one_or_other (first_exact ts fs) (option_or (option_and_then (first_candidate ts) c) (first_fitting ts fs)) i q
    (λ w. first_among (applied exactly ts) fs i w (λ g among v. applied_reads m exactly (exact_reads m) f es ts h g (λ us r. a_call f es fs c g us is among r) i v))
    (λ w. one_or_other (option_and_then (first_candidate ts) c) (first_fitting ts fs) i w
    (λ v. option_and_then_some (first_candidate ts) c i v (λ k there x. first_among (λ s. applied checked ts (scheme_at k s)) (candidates k.arguments ts) i x
    (λ s among y. over_reads k there s i y)))
    (λ v. first_among (applied checked ts) fs i v (λ g among x. applied_reads m checked (checked_reads m) f es ts h g (λ us r. a_call f es fs c g us is among r) i x))))
    (λ s u q. chosen (is_some (first_exact ts fs)) None (option_and_then (λ (k : Scheme). by_result ts k s) c) u q
    (λ b w. absurd (none-some u w))
    (λ b w. option_and_then_some (λ (k : Scheme). by_result ts k s) c u w
    (λ k there v. chosen k.by_result (option_and_then (λ r. option_map (λ (i : Inferred). i.term) (applied checked ts (scheme_at k r))) (read_off s k.result)) None u v
    (λ flag x. option_and_then_some (λ r. option_map (λ (i : Inferred). i.term) (applied checked ts (scheme_at k r))) (read_off s k.result) u x
    (λ r off y. mapped (λ (i : Inferred). i.term) (applied checked ts (scheme_at k r)) u y (λ i made z. subst (Reads m (word f es)) z (over_reads k there r i made))))
    (λ flag x. absurd (none-some u x)))))
  where
    over_reads : (k : Scheme) → c ≡ Some k → (s : Sort) (i : Inferred) → applied checked ts (scheme_at k s) ≡ Some i → Reads m (word f es) i.term
    over_reads k there s i q = applied_reads m checked (checked_reads m) f es ts h (scheme_at k s) (λ us r. a_call_over f es fs k s us (is ∙ ap (functions fs) there) r) i q

list_reads : (m : Name → Meaning) (es : Expressions) (ts : List Typing) → EachReads m es ts → (s : Sort) (u : Term) → list_of ts s ≡ Some u → ReadList m es s u
list_reads m none [] h s u q = subst (ReadList m none s) (same_Some _ _ q) (no_element s)
list_reads m (more e es) (t ∷ ts) h s u q =
    option_and_then_some (λ x. option_map (λ xs. apply (cons s) (terms.more x (terms.more xs terms.none))) (list_of ts s)) (t.checks s) u q
    (λ x first w. mapped (λ xs. apply (cons s) (terms.more x (terms.more xs terms.none))) (list_of ts s) u w
    (λ xs rest v. subst (ReadList m (more e es) s) v (one_element e es s x xs (h.0.checks s x first) (list_reads m es ts h.1 s xs rest))))
list_reads m none (t ∷ ts) h s u q = absurd h
list_reads m (more e es) [] h s u q = absurd h

listed_reads : (m : Name → Meaning) (es : Expressions) (ts : List Typing) → EachReads m es ts → TypingReads m (listed es) (flexible (list_by_sort ts) (list_infers ts))
listed_reads m es ts h =
    flexible_reads m (listed es) (list_by_sort ts) (list_infers ts)
    (λ i q. option_and_then_some (λ s. option_map (λ t. record { term = t; sort = terms.list s }) (list_of ts s)) (widest ts) i q
    (λ s there w. mapped (λ t. record { term = t; sort = terms.list s }) (list_of ts s) i w
    (λ t made v. subst (λ (j : Inferred). Reads m (listed es) j.term) v (a_list es s t (list_reads m es ts h s t made)))))
    (λ s u q. option_and_then_some (list_of ts) (read_off s elements) u q (λ r off w. a_list es r u (list_reads m es ts h r u w)))

word_reads : (m : Name → Meaning) (f : Name) (k : Meaning) → m f ≡ k → (es : Expressions) (ts : List Typing) → EachReads m es ts → TypingReads m (word f es) (word_typing k ts)
word_reads m f (bound v s) is none [] h =
    flexible_reads m (word f none) (λ r. None) (Some (record { term = terms.variable v; sort = s }))
    (λ i q. subst (λ (j : Inferred). Reads m (word f none) j.term) (same_Some _ _ q) (a_variable f v s is)) (λ r u q. absurd (none-some u q))
word_reads m f (bound v s) is (more e es) (t ∷ ts) h = record { infers = λ i q. absurd (none-some i q); checks = λ r u q. absurd (none-some u q) }
word_reads m f (bound v s) is none (t ∷ ts) h = absurd h
word_reads m f (bound v s) is (more e es) [] h = absurd h
word_reads m f (functions fs c) is es ts h = call_reads m f fs c is es ts h

mutual
  pub typing_reads_the_expression : TypingReadsTheExpression
  typing_reads_the_expression m (numeral n) =
      flexible_reads m (numeral n) (λ r. None) (Some (record { term = terms.numeral (least_sort n) (pos n); sort = least_sort n }))
      (λ i q. subst (λ (j : Inferred). Reads m (numeral n) j.term) (same_Some _ _ q) (a_numeral n (least_sort n))) (λ r u q. absurd (none-some u q))
  typing_reads_the_expression m (listed es) = listed_reads m es (typings m es) (typings_read m es)
  typing_reads_the_expression m (word f es) = word_reads m f (m f) refl es (typings m es) (typings_read m es)

  typings_read : (m : Name → Meaning) (es : Expressions) → EachReads m es (typings m es)
  typings_read m none = tt
  typings_read m (more e es) = (typing_reads_the_expression m e, typings_read m es)
