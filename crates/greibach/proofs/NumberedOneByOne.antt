-- Calls that get their numbers one after another.
use Rattle.std.proofs.Common.{◌≡◌, ◌<◌, ◌≤◌, ◌-◌, ℕ, zero, suc, Vec, List, [], ◌∷◌, ◌++◌, drop, length, get_or, reverse, Some, refl, sym, ap, ◌∙◌, subst, arith, append_assoc, append-nil}
use Rattle.std.specs.Prelude.{slice_get}
use Rattle.std.specs.Global.{Global}
use Rattle.std.proofs.lemmas.List.{map-append, length-map}
use Rattle.data_theory.specs.declared.ids.TermId.{TermId}
use Rattle.data_theory.proofs.PlaceLemmas.{read_front}
use Rattle.greibach.specs.MeetingOrder.{IsNumberOf, Meets, none_met, met_before, met_now}
use Rattle.greibach.specs.NumberedCalls.{HasNumber, HaveNumbers, none_numbered, one_more_numbered, AddsNumbered}
use Rattle.greibach.specs.PlacesInCode.{plain_calls}
use Rattle.greibach.proofs.Reversed.{all_dropped, one_more_reversed}
use Rattle.greibach.proofs.MetPlaces.{meets_behind}

pub meets_then : {A : Type 0} {ks ps ms qs ls : List A} → Meets ks ps ms → Meets ms qs ls → Meets ks (ps ++ qs) ls
meets_then none_met k = k
meets_then (met_before i h) k = met_before i (meets_then h k)
meets_then (met_now n h) k = met_now n (meets_then h k)

pub number_stays : {A : Type 0} {ks ps ls : List A} → Meets ks ps ls → (p : A) (n : ℕ) → IsNumberOf ks p n → IsNumberOf ls p n
number_stays {ks = ks} m p n i =
    let b = meets_behind m in
    (i.0, subst (λ l. slice_get l (n - 1) ≡ Some p) (sym b.1) (read_front ks b.0 (n - 1) p i.1))

numbers_stay : {ks ps ls : List ℕ} → Meets ks ps ls → {ws cs : List (ℕ × List TermId)} → HaveNumbers ks ws cs → HaveNumbers ls ws cs
numbers_stay m none_numbered = none_numbered
numbers_stay m (one_more_numbered {w = w} {c = c} h n) = one_more_numbered (numbers_stay m h) (record { number = number_stays m w.0 c.0 n.number; args = n.args })

-- those from number `left` on have their numbers
pub record IsNumbering (waiting : List (ℕ × List TermId)) (left : ℕ) (old new : List ℕ) (before after : List (ℕ × List TermId)) : Type 0 where
  pub adds : AddsNumbered (reverse (drop left waiting)) old new before after
  pub most : left ≤ length waiting

pub numbering_none : (waiting : List (ℕ × List TermId)) (old : List ℕ) (before : List (ℕ × List TermId)) → IsNumbering waiting (length waiting) old old before before
numbering_none waiting old before = record {
  adds = subst (λ ws. AddsNumbered ws old old before before) (sym (all_dropped waiting)) (record { added = []; is = sym (append-nil before); numbered = none_numbered; met = none_met });
  most = omega arith;
}

pub numbering_more : (waiting : List (ℕ × List TermId)) (left : ℕ) (old new last : List ℕ) (before after : List (ℕ × List TermId)) (d : ℕ × List TermId) → IsNumbering waiting left old new before after → 0 < left
    → (c : ℕ × List TermId) → Meets new ((get_or waiting (left - 1) d).0 ∷ []) last → HasNumber last (get_or waiting (left - 1) d) c → IsNumbering waiting (left - 1) old last before (after ++ c ∷ [])
numbering_more waiting left old new last before after d s p c m n =
    let a = s.adds in
    let l = s.most in
    let w = get_or waiting (left - 1) d in
    record {
      adds = subst (λ ws. AddsNumbered ws old last before (after ++ c ∷ [])) (sym (one_more_reversed waiting left d p l)) (record {
        added = a.added ++ c ∷ [];
        is = ap (λ z. z ++ c ∷ []) a.is ∙ append_assoc before a.added (c ∷ []);
        numbered = one_more_numbered (numbers_stay m a.numbered) n;
        met = subst (λ ps. Meets old ps last) (sym (map-append (λ (z : ℕ × List TermId). z.0) (reverse (drop left waiting)) (w ∷ []))) (meets_then a.met m);
      });
      most = omega (arith, l);
    }

pub numbering_all : (waiting : List (ℕ × List TermId)) (left : ℕ) (old new : List ℕ) (before after : List (ℕ × List TermId)) → IsNumbering waiting left old new before after → left ≡ 0 → AddsNumbered (reverse waiting) old new before after
numbering_all waiting left old new before after s z = subst (λ n. AddsNumbered (reverse (drop n waiting)) old new before after) z s.adds

-- ---- over calls in code
plain_at : (cs : List (ℕ × Vec TermId Global)) (i : ℕ) (d : ℕ × Vec TermId Global) → get_or (plain_calls cs) i (d.0, d.1.items) ≡ ((get_or cs i d).0, (get_or cs i d).1.items)
plain_at [] i d = refl
plain_at (c ∷ cs) zero d = refl
plain_at (c ∷ cs) (suc i) d = plain_at cs i d

pub numbering_none_in : (waiting calls : List (ℕ × Vec TermId Global)) (old : List ℕ) → IsNumbering (plain_calls waiting) (length waiting) old old (plain_calls calls) (plain_calls calls)
numbering_none_in waiting calls old =
    subst (λ n. IsNumbering (plain_calls waiting) n old old (plain_calls calls) (plain_calls calls)) (length-map waiting (λ c. (c.0, c.1.items))) (numbering_none (plain_calls waiting) old (plain_calls calls))

pub numbering_more_in : (waiting before after pushed : List (ℕ × Vec TermId Global)) (left : ℕ) (old new last : List ℕ) (w c : ℕ × Vec TermId Global) → IsNumbering (plain_calls waiting) left old new (plain_calls before) (plain_calls after) → 0 < left
    → w ≡ get_or waiting (left - 1) w → Meets new (w.0 ∷ []) last → IsNumberOf last w.0 c.0 → c.1.items ≡ w.1.items → pushed ≡ after ++ c ∷ [] → IsNumbering (plain_calls waiting) (left - 1) old last (plain_calls before) (plain_calls pushed)
numbering_more_in waiting before after pushed left old new last w c s p at m n q e =
    let same : get_or (plain_calls waiting) (left - 1) (w.0, w.1.items) ≡ (w.0, w.1.items) = plain_at waiting (left - 1) w ∙ ap (λ (z : ℕ × Vec TermId Global). (z.0, z.1.items)) (sym at) in
    subst (λ cs. IsNumbering (plain_calls waiting) (left - 1) old last (plain_calls before) cs) (sym (ap plain_calls e ∙ map-append (λ (z : ℕ × Vec TermId Global). (z.0, z.1.items)) after (c ∷ [])))
    (numbering_more (plain_calls waiting) left old new last (plain_calls before) (plain_calls after) (w.0, w.1.items) s p (c.0, c.1.items)
    (subst (λ (z : ℕ × List TermId). Meets new (z.0 ∷ []) last) (sym same) m)
    (subst (λ (z : ℕ × List TermId). HasNumber last z (c.0, c.1.items)) (sym same) (record { number = n; args = q })))
