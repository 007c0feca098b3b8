-- The names of the sort, as they are made.
use Rattle.std.proofs.Common.{◌≡◌, ◌<◌, ◌≤◌, ◌+◌, ℕ, List, [], ◌∷◌, ◌++◌, map, take, length, get_or, refl, sym, ap, ap₂, ◌∙◌, subst, Some}
use Rattle.std.specs.Prelude.{slice_get, codes}
use Rattle.std.specs.List.{All}
use Rattle.std.proofs.lemmas.List.{map-append, append_assoc, append-nil, take_more, take_all}
use Rattle.std.proofs.lemmas.List.Elements.{All-head, All-tail, All-weaker}
use Rattle.std.proofs.lemmas.Option.{get_or_from_slice_get, slice_get_within}
use Rattle.process_terms.proofs.MeaningLemmas.{entry_stays}
use Rattle.data_theory.specs.declared.ids.NameId.{NameId}
use Rattle.data_theory.specs.declared.ids.SortId.{SortId}
use Rattle.data_theory.specs.Signature.{Sig}
use Rattle.data_theory.specs.Fresh.{IsFreshIn}
use Rattle.data_theory.specs.IdTerms.{IsGrown}
use Rattle.data_theory.specs.WholeSignatures.{IsSignature}
use Rattle.lps_core.specs.Naming.{GrowsByNames}
use Rattle.lps_core.proofs.NamedSums.{names_none, names_then}
use Rattle.regular_encoder.specs.FormColumns.{IsKindIn}
use Rattle.stack_encoder.specs.AddedSort.{AreFreshNames, no_name, one_more_name, text_of, column_bases, AreWords}

pub record IsNamingFields (g : Sig) (kinds : List (NameId × SortId)) (i : ℕ) (h : Sig) (fields : List (NameId × SortId)) : Type 0 where
  pub names : AreFreshNames g (column_bases g (take i kinds)) h (map (λ f. f.0) fields)
  pub sorts : map (λ f. f.1) fields ≡ map (λ k. k.1) (take i kinds)
  pub grown : GrowsByNames g h

pub naming_none : (g : Sig) (kinds : List (NameId × SortId)) → IsSignature g → IsNamingFields g kinds 0 g []
naming_none g kinds s = record { names = no_name; sorts = refl; grown = names_none g s }

text_stays : (g h : Sig) (n : NameId) (base : List ℕ) → IsGrown g h → n.0 < length g.texts → slice_get h.texts n.0 ≡ Some base → base ≡ text_of g n
text_stays g h n base w l e = sym (get_or_from_slice_get h.texts n.0 base [] e) ∙ (entry_stays g.texts h.texts [] n.0 (w.new_texts, w.texts) l).0

pub naming_more : (g : Sig) (kinds : List (NameId × SortId)) (i : ℕ) (h : Sig) (fields : List (NameId × SortId)) (d : NameId × SortId) → IsNamingFields g kinds i h fields → i < length kinds → (get_or kinds i d).0.0 < length g.texts
    → (k : Sig) (base : List ℕ) (name : NameId) → slice_get h.texts (get_or kinds i d).0.0 ≡ Some base → IsFreshIn h base name k → GrowsByNames h k → IsNamingFields g kinds (i + 1) k (fields ++ (name, (get_or kinds i d).1) ∷ [])
naming_more g kinds i h fields d w l within k base name at f v =
    let x = get_or kinds i d in
    let text : base ≡ text_of g x.0 = text_stays g h x.0 base w.grown.grown within at in
    let split = take_more kinds i d l in
    record {
      names = subst (λ z. AreFreshNames g z k (map (λ f. f.0) (fields ++ (name, x.1) ∷ []))) (sym (ap (column_bases g) split ∙ map-append (λ k. text_of g k.0) (take i kinds) (x ∷ [])))
          (subst (λ z. AreFreshNames g (column_bases g (take i kinds) ++ text_of g x.0 ∷ []) k z) (sym (map-append (λ f. f.0) fields ((name, x.1) ∷ [])))
          (one_more_name w.names (subst (λ z. IsFreshIn h z name k) text f)));
      sorts = map-append (λ f. f.1) fields ((name, x.1) ∷ []) ∙ ap (λ z. z ++ x.1 ∷ []) w.sorts ∙ sym (ap (map (λ k. k.1)) split ∙ map-append (λ k. k.1) (take i kinds) (x ∷ []));
      grown = names_then g h k w.grown v;
    }

pub naming_next : (g : Sig) (kinds : List (NameId × SortId)) (i : ℕ) (h : Sig) (fields : List (NameId × SortId)) (x : NameId × SortId) → IsNamingFields g kinds i h fields → slice_get kinds i ≡ Some x → x.0.0 < length g.texts
    → (k : Sig) (base : List ℕ) (name : NameId) → slice_get h.texts x.0.0 ≡ Some base → IsFreshIn h base name k → GrowsByNames h k → IsNamingFields g kinds (i + 1) k (fields ++ (name, x.1) ∷ [])
naming_next g kinds i h fields x w at within k base name read f v =
    let e : get_or kinds i x ≡ x = get_or_from_slice_get kinds i x x at in
    subst (λ z. IsNamingFields g kinds (i + 1) k (fields ++ (name, z.1) ∷ [])) e
    (naming_more g kinds i h fields x w (slice_get_within kinds i x at) (subst (λ z. z.0.0 < length g.texts) (sym e) within) k base name (subst (λ z. slice_get h.texts z.0.0 ≡ Some base) (sym e) read) f v)

pub text_within : (g h : Sig) (n : NameId) → IsGrown g h → n.0 < length g.texts → n.0 < length h.texts
text_within g h n w l = (entry_stays g.texts h.texts [] n.0 (w.new_texts, w.texts) l).1

-- ---- names behind names
names_behind : (g h : Sig) (bases : List (List ℕ)) (names : List NameId) → AreFreshNames g bases h names → (more : List (List ℕ)) (i : Sig) (others : List NameId) → AreFreshNames h more i others → AreFreshNames g (bases ++ more) i (names ++ others)
names_behind g h bases names a _ _ _ no_name = subst (λ z. AreFreshNames g z h (names ++ [])) (sym (append-nil bases)) (subst (λ z. AreFreshNames g bases h z) (sym (append-nil names)) a)
names_behind g h bases names a _ i _ (one_more_name {bases = more} {names = others} {h = j} {base = base} {name = name} b f) =
    subst (λ z. AreFreshNames g z i (names ++ (others ++ name ∷ []))) (append_assoc bases more (base ∷ []))
    (subst (λ z. AreFreshNames g ((bases ++ more) ++ base ∷ []) i z) (append_assoc names others (name ∷ [])) (one_more_name (names_behind g h bases names a more j others b) f))

one_name : {g h : Sig} {base : List ℕ} {name : NameId} → IsFreshIn g base name h → AreFreshNames g (base ∷ []) h (name ∷ [])
one_name {g} {h} f = one_more_name no_name f

-- all of them
pub words_made : (g s1 s2 s3 s4 s5 s6 h : Sig) (kinds fields : List (NameId × SortId)) (sort push pc rest is_push empty : NameId) → IsFreshIn g (codes "Stack") sort s1 → IsFreshIn s1 (codes "push") push s2 → IsFreshIn s2 (codes "pc") pc s3
    → AreFreshNames s3 (column_bases s3 kinds) s4 (map (λ f. f.0) fields) → column_bases s3 kinds ≡ column_bases g kinds → map (λ f. f.1) fields ≡ map (λ k. k.1) kinds
    → IsFreshIn s4 (codes "rest") rest s5 → IsFreshIn s5 (codes "is_push") is_push s6 → IsFreshIn s6 (codes "empty") empty h
    → AreWords g kinds h (record { sort = sort; push = push; pc = pc; fields = fields; rest = rest; is_push = is_push; empty = empty })
words_made g s1 s2 s3 s4 s5 s6 h kinds fields sort push pc rest is_push empty a b c columns same sorts d e f = record {
  fresh =
      let front = names_behind g s2 _ _ (names_behind g s1 _ _ (one_name a) _ s2 _ (one_name b)) _ s3 _ (one_name c) in
      let with_fields = names_behind g s3 _ _ front (column_bases g kinds) s4 (map (λ f. f.0) fields) (subst (λ z. AreFreshNames s3 z s4 (map (λ f. f.0) fields)) same columns) in
      let last = names_behind s4 s6 _ _ (names_behind s4 s5 _ _ (one_name d) _ s6 _ (one_name e)) _ h _ (one_name f) in
      names_behind g s4 _ _ with_fields _ h _ last;
  sorts = sorts;
}

pub bases_stay : (g h : Sig) (kinds : List (NameId × SortId)) → IsGrown g h → All (λ (k : NameId × SortId). k.0.0 < length g.texts) kinds → column_bases h kinds ≡ column_bases g kinds
bases_stay g h [] w l = refl
bases_stay g h (k ∷ kinds) w l =
    ap₂ (λ t ts. t ∷ ts) (entry_stays g.texts h.texts [] k.0.0 (w.new_texts, w.texts) (All-head (λ (k : NameId × SortId). k.0.0 < length g.texts) k kinds l)).0
    (bases_stay g h kinds w (All-tail (λ (k : NameId × SortId). k.0.0 < length g.texts) k kinds l))

pub naming_all : (g : Sig) (kinds : List (NameId × SortId)) (i : ℕ) (h : Sig) (fields : List (NameId × SortId)) → IsNamingFields g kinds i h fields → length kinds ≤ i
    → AreFreshNames g (column_bases g kinds) h (map (λ f. f.0) fields) × (map (λ f. f.1) fields ≡ map (λ k. k.1) kinds)
naming_all g kinds i h fields w l =
    (subst (λ z. AreFreshNames g (column_bases g z) h (map (λ f. f.0) fields)) (take_all i kinds l) w.names, w.sorts ∙ ap (map (λ k. k.1)) (take_all i kinds l))

pub kinds_stay : (g h : Sig) (kinds : List (NameId × SortId)) → GrowsByNames g h → All (IsKindIn g) kinds → All (IsKindIn h) kinds
kinds_stay g h kinds w k =
    All-weaker (IsKindIn g) (IsKindIn h) (λ x i. (text_within g h x.0 w.grown i.0, subst (λ n. x.1.0 < n) (sym (ap length w.sorts)) i.1)) kinds k
