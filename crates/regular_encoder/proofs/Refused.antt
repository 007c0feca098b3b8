-- The first summand with two calls.
use Rattle.std.proofs.Common.{◌≡◌, ◌<◌, ◌≤◌, ◌+◌, ◌-◌, ℕ, Bool, true, false, not, List, [], ◌∷◌, ◌++◌, map, take, drop, length, get_or, refl, sym, ap, ◌∙◌, subst, arith, ⊎_elim, None, Some, cond}
use Rattle.std.specs.Prelude.{slice_get, nat_lt, nat_le}
use Rattle.std.specs.List.{All, position, position_or_len}
use Rattle.std.proofs.Math.Seq.{take-append-add}
use Rattle.std.proofs.lemmas.Bool.{leb-true, le-leb, cases_lt}
use Rattle.std.proofs.lemmas.Bool.Decides.{Decides-ltb}
use Rattle.std.proofs.lemmas.List.{map-append, length-map, length-append, take_more, take_all, length-take-le, get_or-take, get_or_default, append-nil, take-map, take-append-drop, take-append-le, drop_more, get_or-append-add, get_or_append_left}
use Rattle.std.proofs.lemmas.List.Concat.{flat_map-append}
use Rattle.std.proofs.lemmas.List.Elements.{All-nil, All-cons, All-head, All-tail, All-weaker, All-append, All-push, All-map}
use Rattle.std.proofs.lemmas.List.Quantifiers.{position-Some}
use Rattle.std.proofs.lemmas.Option.{slice_get-get_or}
use Rattle.data_theory.specs.declared.ids.TermId.{TermId}
use Rattle.lps_core.proofs.Staying.{read_mapped}
use Rattle.greibach.specs.declared.forms.GreibachSummand.{GreibachSummand}
use Rattle.greibach.specs.declared.forms.GreibachEquation.{GreibachEquation}
use Rattle.greibach.specs.PlainForms.{PlainFormSummand, PlainEquation, PlainForm, plain_call, plain_form_summand, plain_equation}
use Rattle.greibach.specs.Tails.{HasTail}
use Rattle.regular_encoder.specs.Refusals.{all_summands, has_two_calls, IsFirstWithTwoCalls}

-- ---- places
none_passes : {A : Type 0} (p : A → Bool) (xs : List A) → length xs ≤ position_or_len p xs → All (λ x. p x ≡ false) xs
none_passes p [] h = All-nil (λ x. p x ≡ false)
none_passes p (x ∷ xs) h = by_test (p x) refl h (none_passes p xs)
  where
    by_test : (b : Bool) → p x ≡ b → length (x ∷ xs) ≤ cond (not b) (1 + position_or_len p xs) 0 → (length xs ≤ position_or_len p xs → All (λ z. p z ≡ false) xs) → All (λ z. p z ≡ false) (x ∷ xs)
    by_test true e l f = absurd (omega (arith, l))
    by_test false e l f = All-cons (λ z. p z ≡ false) x xs e (f (omega (arith, l)))

no_place : {A : Type 0} (p : A → Bool) (xs : List A) → position p xs ≡ None → All (λ x. p x ≡ false) xs
no_place p xs e = none_passes p xs (⊎_elim (λ l. absurd (found l)) (λ h. h) (cases_lt (position_or_len p xs) (length xs)))
  where
    by_test : (b : Bool) → b ≡ true → cond b (Some (position_or_len p xs)) None ≡ None → ⊥
    by_test true q k = cc
    by_test false q k = cc

    found : position_or_len p xs < length xs → ⊥
    found l = by_test (nat_lt (position_or_len p xs) (length xs)) ((Decides-ltb (position_or_len p xs) (length xs)).1 l) e

-- ---- calls
two_calls : (s : GreibachSummand) → has_two_calls s ≡ true → 2 ≤ length (plain_form_summand s).next
two_calls s e = subst (λ n. 2 ≤ n) (sym (length-map s.next.items plain_call)) (leb-true 2 (length s.next.items) e)

one_call : (s : GreibachSummand) → has_two_calls s ≡ false → HasTail (plain_form_summand s)
one_call s e = subst (λ n. n ≤ 1) (sym (length-map s.next.items plain_call)) (⊎_elim (λ l. omega (arith, l)) (λ l. absurd (both (le-leb 2 (length s.next.items) l))) (cases_lt (length s.next.items) 2))
  where
    both : nat_le 2 (length s.next.items) ≡ true → ⊥
    both q = cc

module _ (d : GreibachSummand) where
  tails_to : (ss : List GreibachSummand) (n : ℕ) → ((k : ℕ) → k < n → has_two_calls (get_or ss k d) ≡ false) → n ≤ length ss → All HasTail (take n (map plain_form_summand ss))
  tails_to ss n f l = subst (λ z. All HasTail z) (sym (take-map plain_form_summand n ss)) (All-map HasTail plain_form_summand (take n ss) (λ k e w. one_call_at k e w))
    where
      one_call_at : (k : ℕ) (e : GreibachSummand) → k < length (take n ss) → HasTail (plain_form_summand (get_or (take n ss) k e))
      one_call_at k e w =
          let m = length-take-le n ss l in
          let below : k < n = omega (arith, w, m) in
          let inside : k < length ss = omega (arith, below, l) in
          one_call (get_or (take n ss) k e) (ap has_two_calls (get_or-take n ss k e below ∙ get_or_default ss k e d inside) ∙ f k below)

-- ---- equations whose summands have one call at most
pub record AreTailsBefore (eqs : List GreibachEquation) (i before : ℕ) : Type 0 where
  pub count : before ≡ length (all_summands (map plain_equation (take i eqs)))
  pub tails : All (λ (q : PlainEquation). All HasTail q.summands) (map plain_equation (take i eqs))

pub no_equation_before : (eqs : List GreibachEquation) → AreTailsBefore eqs 0 0
no_equation_before eqs = record { count = refl; tails = All-nil (λ (q : PlainEquation). All HasTail q.summands) }

pub one_equation_more : (eqs : List GreibachEquation) (i before after : ℕ) (q : GreibachEquation) → AreTailsBefore eqs i before → i < length eqs → q ≡ get_or eqs i q → position has_two_calls q.summands.items ≡ None
    → after ≡ before + length q.summands.items → AreTailsBefore eqs (i + 1) after
one_equation_more eqs i before after q t l read none e =
    let P : PlainEquation → Type 0 = λ z. All HasTail z.summands in
    let now : map plain_equation (take (i + 1) eqs) ≡ map plain_equation (take i eqs) ++ plain_equation q ∷ [] =
    ap (map plain_equation) (take_more eqs i q l ∙ ap (λ z. take i eqs ++ z ∷ []) (sym read)) ∙ map-append plain_equation (take i eqs) (q ∷ []) in
    let f : PlainEquation → List PlainFormSummand = λ z. z.summands in
    let qs = map plain_equation (take i eqs) in
    let long : length (all_summands (map plain_equation (take (i + 1) eqs))) ≡ length (all_summands qs) + length q.summands.items =
    ap (λ z. length (all_summands z)) now ∙ ap length (flat_map-append f qs (plain_equation q ∷ [])) ∙ length-append (all_summands qs) (all_summands (plain_equation q ∷ []))
    ∙ ap (λ n. length (all_summands qs) + n) (ap length (append-nil (map plain_form_summand q.summands.items)) ∙ length-map q.summands.items plain_form_summand) in
    let c = t.count in
    record {
      count = let w : after ≡ length (all_summands qs) + length q.summands.items = omega (arith, e, c) in w ∙ sym long;
      tails = subst (λ z. All P z) (sym now) (All-push P qs (plain_equation q) t.tails (All-map HasTail plain_form_summand q.summands.items (All-weaker (λ s. has_two_calls s ≡ false) (λ s. HasTail (plain_form_summand s)) one_call q.summands.items (no_place has_two_calls q.summands.items none))));
    }

pub all_equations_tail : (eqs : List GreibachEquation) (i before : ℕ) → AreTailsBefore eqs i before → length eqs ≤ i → All (λ (q : PlainEquation). All HasTail q.summands) (map plain_equation eqs)
all_equations_tail eqs i before t l = subst (λ z. All (λ (q : PlainEquation). All HasTail q.summands) (map plain_equation z)) (take_all i eqs l) t.tails

-- ---- the first one
all_tail : (qs : List PlainEquation) → All (λ (q : PlainEquation). All HasTail q.summands) qs → All HasTail (all_summands qs)
all_tail [] h = All-nil HasTail
all_tail (q ∷ qs) h = All-append HasTail q.summands (all_summands qs) (All-head (λ (z : PlainEquation). All HasTail z.summands) q qs h) (all_tail qs (All-tail (λ (z : PlainEquation). All HasTail z.summands) q qs h))

found_behind : (f : PlainForm) (xs ys zs : List PlainFormSummand) (place : ℕ) (d : PlainFormSummand) → all_summands f.equations ≡ xs ++ (ys ++ zs) → All HasTail xs → place < length ys → 2 ≤ length (get_or ys place d).next → All HasTail (take place ys)
    → IsFirstWithTwoCalls f (length xs + place + 1)
found_behind f xs ys zs place d split front l two first =
    let back : length xs + place + 1 - 1 ≡ length xs + place = omega arith in
    let whole = all_summands f.equations in
    let long : length whole ≡ length xs + (length ys + length zs) = ap length split ∙ length-append xs (ys ++ zs) ∙ ap (λ n. length xs + n) (length-append ys zs) in
    let within : length xs + place < length whole = omega (arith, long, l) in
    record {
      summand = get_or ys place d;
      from_one = omega arith;
      stands =
          ap (λ n. slice_get whole n) back ∙ slice_get-get_or whole (length xs + place) d within
          ∙ ap (λ z. Some (get_or z (length xs + place) d)) split ∙ ap (λ z. Some z) (get_or-append-add xs (ys ++ zs) place d ∙ get_or_append_left ys zs d place l);
      calls = two;
      first = subst (λ z. All HasTail z)
          (sym (ap (λ n. take n whole) back ∙ ap (take (length xs + place)) split ∙ take-append-add xs (ys ++ zs) place ∙ ap (λ z. xs ++ z) (take-append-le place ys zs (omega (arith, l)))))
          (All-append HasTail xs (take place ys) front first);
    }

pub two_calls_found : (eqs : List GreibachEquation) (init : List TermId) (i before place : ℕ) (q : GreibachEquation) → AreTailsBefore eqs i before → i < length eqs → q ≡ get_or eqs i q
    → position has_two_calls q.summands.items ≡ Some place → IsFirstWithTwoCalls (record { equations = map plain_equation eqs; init = init }) (before + place + 1)
two_calls_found eqs init i before place q t l read found =
    let ss = q.summands.items in
    let d = no_summand ss place found in
    let p = position-Some has_two_calls ss place d found in
    let qs = map plain_equation (take i eqs) in
    let f : PlainEquation → List PlainFormSummand = λ z. z.summands in
    let split : all_summands (map plain_equation eqs) ≡ all_summands qs ++ (map plain_form_summand ss ++ all_summands (map plain_equation (drop (i + 1) eqs))) =
    ap (λ z. all_summands (map plain_equation z)) (sym (take-append-drop i eqs) ∙ ap (λ z. take i eqs ++ z) (drop_more eqs i q l ∙ ap (λ z. z ∷ drop (i + 1) eqs) (sym read)))
    ∙ ap all_summands (map-append plain_equation (take i eqs) (q ∷ drop (i + 1) eqs)) ∙ flat_map-append f qs (plain_equation q ∷ map plain_equation (drop (i + 1) eqs)) in
    let c = t.count in
    let w = p.0 in
    subst (λ n. IsFirstWithTwoCalls (record { equations = map plain_equation eqs; init = init }) (n + place + 1)) (sym c)
    (found_behind (record { equations = map plain_equation eqs; init = init }) (all_summands qs) (map plain_form_summand ss) (all_summands (map plain_equation (drop (i + 1) eqs))) place (plain_form_summand d) split
    (all_tail qs t.tails)
    (subst (λ n. place < n) (sym (length-map ss plain_form_summand)) w)
    (subst (λ z. 2 ≤ length z.next) (sym (mapped_read ss place d w)) (two_calls (get_or ss place d) p.1))
    (tails_to d ss place p.2 (omega (arith, w))))
  where
    -- a list in which a place was found has a summand
    no_summand : (ss : List GreibachSummand) (place : ℕ) → position has_two_calls ss ≡ Some place → GreibachSummand
    no_summand [] place e = cc
    no_summand (s ∷ ss) place e = s

    mapped_read : (ss : List GreibachSummand) (k : ℕ) (d : GreibachSummand) → k < length ss → get_or (map plain_form_summand ss) k (plain_form_summand d) ≡ plain_form_summand (get_or ss k d)
    mapped_read ss k d l = read_mapped plain_form_summand ss k (plain_form_summand d) d l
