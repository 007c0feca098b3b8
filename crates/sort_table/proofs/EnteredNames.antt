-- Texts that are entered one after the other.
use Rattle.std.proofs.Common.{◌≡◌, ◌<◌, ◌+◌, ℕ, zero, suc, arith, List, [], ◌∷◌, ◌++◌, length, map, take, get_or, refl, ap, sym, ◌∙◌, subst}
use Rattle.std.specs.Prelude.{Some, slice_get}
use Rattle.std.specs.List.{AllByRecursion}
use Rattle.std.proofs.lemmas.List.{map-append, take_more}
use denote.Ref.{Bor}
use Rattle.data_theory.specs.declared.ids.NameId.{NameId}
use Rattle.data_theory.specs.Names.{with_text, with_texts}
use Rattle.sort_table.specs.Expressions.{Name}
use Rattle.sort_table.specs.Built.{AreNamesOfAll}
use Rattle.sort_table.proofs.NamedSignatures.{read_with}

names_stay : (texts : List (List ℕ)) (u : List ℕ) (ids : List NameId) (ns : List Name) → AreNamesOfAll texts ids ns → AreNamesOfAll (with_text texts u) ids ns
names_stay texts u [] [] are = refl
names_stay texts u [] (n ∷ ns) are = cc
names_stay texts u (j ∷ ids) [] are = cc
names_stay texts u (j ∷ ids) (n ∷ ns) are =
    let head : slice_get texts j.0 ≡ Some n = cc in
    let tail : AreNamesOfAll texts ids ns = cc in
    let here : slice_get (with_text texts u) j.0 ≡ Some n = read_with texts u j.0 n head in
    let rest : AreNamesOfAll (with_text texts u) ids ns = names_stay texts u ids ns tail in
    λ i. here i ∷ rest i

names_more : (texts new : List (List ℕ)) (ns : List Name) (n : Name) (ids more : List NameId) (j : NameId) → AreNamesOfAll texts ids ns → new ≡ with_text texts n → slice_get new j.0 ≡ Some n → more ≡ ids ++ j ∷ []
    → AreNamesOfAll new more (ns ++ n ∷ [])
names_more texts new ns n ids more j are is there pushed =
    let kept : AreNamesOfAll new ids ns = subst (λ (ts : List (List ℕ)). AreNamesOfAll ts ids ns) (sym is) (names_stay texts n ids ns are) in
    ap (map (λ (m : NameId). slice_get new m.0)) pushed ∙ (map-append (λ (m : NameId). slice_get new m.0) ids (j ∷ [])
    ∙ ((λ m. kept m ++ there m ∷ []) ∙ sym (map-append (λ (m : Name). Some m) ns (n ∷ []))))

pub next_name : (xs : List (Bor Name)) (i : ℕ) (x : Bor Name) (texts new : List (List ℕ)) (ids more : List NameId) (j : NameId) → i < length xs → x ≡ get_or xs i x → AreNamesOfAll texts ids (map (λ (t : Bor Name). t.now) (take i xs))
    → new ≡ with_text texts x.now → slice_get new j.0 ≡ Some x.now → more ≡ ids ++ j ∷ [] → AreNamesOfAll new more (map (λ (t : Bor Name). t.now) (take (i + 1) xs))
next_name xs i x texts new ids more j l e are is there pushed =
    let rows : map (λ (t : Bor Name). t.now) (take (i + 1) xs) ≡ map (λ (t : Bor Name). t.now) (take i xs) ++ x.now ∷ [] =
    ap (map (λ (t : Bor Name). t.now)) (take_more xs i x l) ∙ (map-append (λ (t : Bor Name). t.now) (take i xs) (get_or xs i x ∷ []) ∙ ap (λ (t : Bor Name). map (λ (s : Bor Name). s.now) (take i xs) ++ t.now ∷ []) (sym e)) in
    subst (AreNamesOfAll new more) (sym rows) (names_more texts new (map (λ (t : Bor Name). t.now) (take i xs)) x.now ids more j are is there pushed)

entered_both : (texts ts us : List (List ℕ)) → with_texts texts (ts ++ us) ≡ with_texts (with_texts texts ts) us
entered_both texts [] us = refl
entered_both texts (t ∷ ts) us = entered_both (with_text texts t) ts us

pub next_text : (xs : List (Bor Name)) (i : ℕ) (x : Bor Name) (old texts new : List (List ℕ)) → i < length xs → x ≡ get_or xs i x → texts ≡ with_texts old (map (λ (t : Bor Name). t.now) (take i xs)) → new ≡ with_text texts x.now
    → new ≡ with_texts old (map (λ (t : Bor Name). t.now) (take (i + 1) xs))
next_text xs i x old texts new l e are is =
    let rows : map (λ (t : Bor Name). t.now) (take (i + 1) xs) ≡ map (λ (t : Bor Name). t.now) (take i xs) ++ x.now ∷ [] =
    ap (map (λ (t : Bor Name). t.now)) (take_more xs i x l) ∙ (map-append (λ (t : Bor Name). t.now) (take i xs) (get_or xs i x ∷ []) ∙ ap (λ (t : Bor Name). map (λ (s : Bor Name). s.now) (take i xs) ++ t.now ∷ []) (sym e)) in
    is ∙ (ap (λ ts. with_text ts x.now) are ∙ (sym (entered_both old (map (λ (t : Bor Name). t.now) (take i xs)) (x.now ∷ [])) ∙ ap (with_texts old) (sym rows)))

pub name_at : (P : Name → Type 0) (xs : List (Bor Name)) (i : ℕ) (x : Bor Name) → i < length xs → x ≡ get_or xs i x → AllByRecursion P (map (λ (t : Bor Name). t.now) xs) → P x.now
name_at P [] i x l e all = absurd (omega (arith, l))
name_at P (y ∷ xs) zero x l e all = subst (λ (t : Bor Name). P t.now) (sym e) all.0
name_at P (y ∷ xs) (suc i) x l e all = name_at P xs i x (omega (arith, l)) e all.1

pub own_default : {A : Type 0} (xs : List A) (i : ℕ) (d e : A) → i < length xs → get_or xs i d ≡ get_or xs i e
own_default [] i d e l = absurd (omega (arith, l))
own_default (x ∷ xs) zero d e l = refl
own_default (x ∷ xs) (suc i) d e l = own_default xs i d e (omega (arith, l))
