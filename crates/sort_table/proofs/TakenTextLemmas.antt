-- Texts are taken one after the other.
use Rattle.std.proofs.Common.{◌≡◌, ◌<◌, ◌+◌, ◌⊎◌, inl, inr, ℕ, zero, suc, Bool, true, false, cond, List, [], ◌∷◌, ◌++◌, length, take, get_or, refl, ap, sym, ◌∙◌, subst, arith}
use Rattle.std.specs.Prelude.{Some, slice_get, ◌==◌}
use Rattle.std.specs.List.{Contains, list_any}
use Rattle.std.proofs.lemmas.Option.{same_Some}
use Rattle.std.proofs.lemmas.List.{map-append, take_more}
use denote.Ref.{Bor}
use Rattle.data_theory.specs.declared.ids.NameId.{NameId}
use Rattle.data_theory.specs.Names.{with_text, place_in}
use Rattle.data_theory.specs.Taken.{with_name}
use Rattle.data_theory.specs.Signature.{Sig, with_taken}
use Rattle.data_theory.proofs.NameLemmas.{among_texts, place_reads}
use Rattle.data_theory.proofs.SignatureLemmas.{name_among}
use Rattle.sort_table.specs.Expressions.{Name}
use Rattle.sort_table.specs.LentTexts.{texts_of}
use Rattle.sort_table.specs.TakenTexts.{TakesTexts}
use Rattle.sort_table.proofs.Growing.{contains_behind, contains_after, in_either}

pub takes_none : (g : Sig) → TakesTexts [] g g
takes_none g = record { same = refl; taken = λ t. (λ h. inl h, λ h. elim h [ inl old ↦ old | inr c ↦ (let low = c.1 in absurd (omega (arith, low))) ]) }

-- ---- one name
name_behind : (ns : List NameId) (m n : NameId) → Contains ns n → Contains (with_name ns m) n
name_behind ns m n c = by_test (list_any (λ (k : NameId). m.0 == k.0) ns)
  where
    by_test : (b : Bool) → Contains (cond b ns (ns ++ m ∷ [])) n
    by_test true = c
    by_test false = contains_behind ns (m ∷ []) n c

name_there : (ns : List NameId) (m : NameId) → Contains (with_name ns m) m
name_there ns m = by_test (list_any (λ (k : NameId). m.0 == k.0) ns) refl
  where
    by_test : (b : Bool) → list_any (λ (k : NameId). m.0 == k.0) ns ≡ b → Contains (cond b ns (ns ++ m ∷ [])) m
    by_test true is = name_among ns m is
    by_test false is = contains_after ns (m ∷ []) m (zero, omega arith, refl)

pub only_name : (ns : List NameId) (m n : NameId) → Contains (with_name ns m) n → Contains ns n ⊎ (m ≡ n)
only_name ns m n c = by_test (list_any (λ (k : NameId). m.0 == k.0) ns) c
  where
    last : Contains (m ∷ []) n → m ≡ n
    last (zero, l, e) = e
    last (suc i, l, e) = absurd (omega (arith, l))

    by_test : (b : Bool) → Contains (cond b ns (ns ++ m ∷ [])) n → Contains ns n ⊎ (m ≡ n)
    by_test true d = inl d
    by_test false d = elim (in_either ns (m ∷ []) n d) [ inl old ↦ inl old | inr new ↦ inr (last new) ]

pub takes_one : (g h : Sig) (t : Name) → Contains g.texts t → h ≡ with_taken g t → TakesTexts (t ∷ []) g h
takes_one g h t there is = subst (TakesTexts (t ∷ []) g) (sym (is ∙ whole)) taken_now
  where
    texts : with_text g.texts t ≡ g.texts
    texts = ap (λ (b : Bool). cond b g.texts (g.texts ++ t ∷ [])) (among_texts g.texts t there)

    whole : with_taken g t ≡ record g { taken = with_name g.taken (place_in g.texts t) }
    whole = (λ i. record g { texts = texts i; taken = with_name g.taken (place_in (texts i) t) })

    at : slice_get g.texts (place_in g.texts t).0 ≡ Some t
    at = place_reads g.texts t there

    only_text : (x : Name) → Contains (t ∷ []) x → t ≡ x
    only_text x (zero, l, e) = e
    only_text x (suc i, l, e) = absurd (omega (arith, l))

    taken_now : TakesTexts (t ∷ []) g (record g { taken = with_name g.taken (place_in g.texts t) })
    taken_now = record {
      same = refl;
      taken = λ x. (
        λ h. elim (only_name g.taken (place_in g.texts t) h.0 h.2) [
          | inl old ↦ inl (h.0, h.1, old)
          | inr same ↦ inr (zero, omega arith, same_Some t x (sym at ∙ (ap (λ (m : NameId). slice_get g.texts m.0) same ∙ h.1)))
        ],
        λ h. elim h [
          | inl old ↦ (old.0, old.1, name_behind g.taken (place_in g.texts t) old.0 old.2)
          | inr c ↦ (place_in g.texts t, at ∙ ap Some (only_text x c), name_there g.taken (place_in g.texts t))
        ],
      );
    }

pub takes_then : (g h k : Sig) (ts us : List Name) → TakesTexts ts g h → TakesTexts us h k → TakesTexts (ts ++ us) g k
takes_then g h k ts us a b = record {
  same = b.same ∙ ap (λ (x : Sig). record x { taken = k.taken }) a.same;
  taken = λ t. (
    λ is. elim ((b.taken t).0 is) [
      | inl before ↦ elim ((a.taken t).0 before) [ inl old ↦ inl old | inr c ↦ inr (contains_behind ts us t c) ]
      | inr c ↦ inr (contains_after ts us t c)
    ],
    λ is. elim is [
      | inl old ↦ (b.taken t).1 (inl ((a.taken t).1 (inl old)))
      | inr c ↦ elim (in_either ts us t c) [ inl first ↦ (b.taken t).1 (inl ((a.taken t).1 (inr first))) | inr later ↦ (b.taken t).1 (inr later) ]
    ],
  );
}

-- ---- lists of texts
pub more_texts : (ts : List (Bor Name)) (i : ℕ) (t : Bor Name) → i < length ts → t ≡ get_or ts i t → texts_of (take (i + 1) ts) ≡ texts_of (take i ts) ++ t.now ∷ []
more_texts ts i t l e = ap texts_of (take_more ts i t l) ∙ (map-append (λ (x : Bor Name). x.now) (take i ts) (get_or ts i t ∷ []) ∙ ap (λ (x : Bor Name). texts_of (take i ts) ++ x.now ∷ []) (sym e))

pub text_among : (ts : List (Bor Name)) (i : ℕ) (t : Bor Name) → i < length ts → t ≡ get_or ts i t → Contains (texts_of ts) t.now
text_among [] i t l e = absurd (omega (arith, l))
text_among (x ∷ ts) zero t l e = (zero, omega arith, ap (λ (y : Bor Name). y.now) (sym e))
text_among (x ∷ ts) (suc i) t l e = let r = text_among ts i t (omega (arith, l)) e in (let low = r.1 in (suc r.0, omega (arith, low), r.2))

pub still_has : (g h : Sig) (ts : List Name) (t : Name) → TakesTexts ts g h → Contains g.texts t → Contains h.texts t
still_has g h ts t takes c = subst (λ (x : Sig). Contains x.texts t) (sym takes.same) c
