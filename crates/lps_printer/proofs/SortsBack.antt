-- What is printed for a sort is read as the sort.
use Rattle.std.proofs.Common.{◌≡◌, ◌+◌, ◌<◌, ◌⊎◌, inl, inr, ℕ, zero, suc, List, [], ◌∷◌, ◌++◌, length, map, take, codes, Option, Some, None, refl, sym, ap, ◌∙◌, subst, arith, length-append}
use Rattle.std.specs.Prelude.{slice_get, option_map, IfSome, IsSome}
use Rattle.data_theory.specs.declared.ids.NameId.{NameId}
use Rattle.data_theory.specs.declared.ids.SortId.{SortId}
use Rattle.data_theory.specs.Terms.{Sort, boolean, positive, natural, integer, list, named}
use Rattle.data_theory.specs.Declarations.{IsSort}
use Rattle.data_theory.specs.Sorts as kinds
use Rattle.data_theory.specs.Sorts.{SortInfo}
use Rattle.data_theory.specs.Complete.{IsSortWithin}
use Rattle.data_theory.specs.IdSorts.{construction_of, constructions, meaning_of, IsDeclaredKind}
use Rattle.data_theory.specs.IdData.{data_meant}
use Rattle.data_theory.specs.IdTerms.{sort_under}
use Rattle.data_theory.specs.Signature.{Sig}
use Rattle.data_theory.specs.SortNames.{IsSortName}
use Rattle.data_theory.specs.WholeSignatures.{IsSignature, HasItsName}
use Rattle.data_theory.proofs.IdSortLemmas.{sorts_mean_their_kinds}
use Rattle.data_theory.proofs.IdSymbolLemmas.{holds_at}
use Rattle.sort_table.specs.Expressions.{Name}
use Rattle.sort_table.specs.Vocabularies.{sort_in}
use Rattle.sort_table.specs.NamedLists.{first_named}
use Rattle.sort_table.specs.SignatureVocabularies.{text_under, sort_name_under}
use Rattle.sort_table.proofs.NamesFound.{name_found}
use Rattle.lps_printer.specs.WrittenProcesses.{sort_written}
use Rattle.lps_printer.specs.SignatureNames.{text_names_under}
use Rattle.lps_printer.proofs.SignatureNames.{sort_named_at}

-- ---- the entry of a declared sort
pub record DeclaredSortAt (ss : List SortInfo) (k : ℕ) : Type 0 where
  pub place : ℕ
  pub entry : SortInfo
  pub stands : slice_get ss place ≡ Some entry
  pub declared : IsDeclaredKind entry.kind
  pub number : length (constructions (take place ss)) ≡ k

declared_or_not : (k : kinds.Kind) → (length (construction_of k) ≡ 0) ⊎ (length (construction_of k) ≡ 1)
declared_or_not kinds.booleans = inl refl
declared_or_not kinds.positives = inl refl
declared_or_not kinds.naturals = inl refl
declared_or_not kinds.integers = inl refl
declared_or_not (kinds.lists_over e) = inl refl
declared_or_not kinds.without_constructors = inr refl
declared_or_not (kinds.by_declarations fs) = inr refl
declared_or_not (kinds.structured fs) = inr refl

sort_behind : (s : SortInfo) (ss : List SortInfo) (j k : ℕ) → length (construction_of s.kind) + j ≡ k → DeclaredSortAt ss j → DeclaredSortAt (s ∷ ss) k
sort_behind s ss j k e r = record {
  place = suc r.place;
  entry = r.entry;
  stands = r.stands;
  declared = r.declared;
  number = length-append (construction_of s.kind) (constructions (take r.place ss)) ∙ ap (λ n. length (construction_of s.kind) + n) r.number ∙ e;
}

pub declared_sort_at : (ss : List SortInfo) (k : ℕ) → k < length (constructions ss) → DeclaredSortAt ss k
declared_sort_at [] k l = absurd (omega (arith, l))
declared_sort_at (s ∷ ss) k l = by_kind (λ j m. declared_sort_at ss j m) (declared_or_not s.kind) k l
  where
    by_kind : ((j : ℕ) → j < length (constructions ss) → DeclaredSortAt ss j) → (length (construction_of s.kind) ≡ 0) ⊎ (length (construction_of s.kind) ≡ 1) → (j : ℕ) → j < length (construction_of s.kind ++ constructions ss) → DeclaredSortAt (s ∷ ss) j
    by_kind rest (inl none_) j m =
        let long = length-append (construction_of s.kind) (constructions ss) in
        sort_behind s ss j j (omega (arith, none_)) (rest j (omega (arith, none_, long, m)))
    by_kind rest (inr one) zero m = record { place = 0; entry = s; stands = refl; declared = one; number = refl }
    by_kind rest (inr one) (suc j) m =
        let long = length-append (construction_of s.kind) (constructions ss) in
        sort_behind s ss j (suc j) (omega (arith, one)) (rest j (omega (arith, one, long, m)))

declared_meaning : (m : SortId → Sort) (d : ℕ) (k : kinds.Kind) → IsDeclaredKind k → meaning_of m d k ≡ named d
declared_meaning m d kinds.without_constructors h = refl
declared_meaning m d (kinds.by_declarations fs) h = refl
declared_meaning m d (kinds.structured fs) h = refl
declared_meaning m d kinds.booleans h = absurd (omega (arith, h))
declared_meaning m d kinds.positives h = absurd (omega (arith, h))
declared_meaning m d kinds.naturals h = absurd (omega (arith, h))
declared_meaning m d kinds.integers h = absurd (omega (arith, h))
declared_meaning m d (kinds.lists_over e) h = absurd (omega (arith, h))

some_there : (o : Option NameId) → IsSome o → (n : NameId) × (o ≡ Some n)
some_there None h = absurd cc
some_there (Some n) h = (n, refl)

-- ---- in a signature
-- its name is that of an entry in the table of names
pub record SortNamed (g : Sig) (x : Name) (k : ℕ) : Type 0 where
  pub id : SortId
  pub name : NameId
  pub listed : IsSortName g.sort_names name id
  pub text : (text_names_under g x).sort k ≡ text_under g name
  pub leads : first_named (text_under g name) (map (sort_name_under g) g.sort_names) ≡ Some (named k)

-- the first name of a declared sort
pub name_there : (g : Sig) → IsSignature g → {k : ℕ} (r : DeclaredSortAt g.sorts k) → (n : NameId) × (r.entry.name ≡ Some n) × (n.0 < length g.texts)
name_there g sg r =
    let n = some_there r.entry.name (holds_at HasItsName g.sorts r.place r.entry sg.sorts_named r.stands r.declared) in
    (n.0, n.1, subst (λ (o : Option NameId). IfSome o (λ (m : NameId). m.0 < length g.texts)) n.1 (holds_at (IsSortWithin (length g.texts) (length g.sorts) (length g.functions)) g.sorts r.place r.entry sg.complete.within.sorts_within r.stands).named)

module _ (g : Sig) (sg : IsSignature g) (x : Name) where
  pub sort_named : (k : ℕ) → k < length (constructions g.sorts) → SortNamed g x k
  sort_named k l =
      let r = declared_sort_at g.sorts k l in
      let n = name_there g sg r in
      let i : SortId = record { 0 = r.place } in
      let means : sort_under g i ≡ named k = sorts_mean_their_kinds g.sorts sg.table.sorts i r.entry r.stands ∙ declared_meaning (sort_under g) (length (constructions (take r.place g.sorts))) r.entry.kind r.declared ∙ ap named r.number in
      record {
        id = i;
        name = n.0;
        listed = sg.first_names_lead i r.entry n.0 r.stands n.1;
        text = ap (λ j. (text_names_under g x).sort j) (sym r.number) ∙ sort_named_at g g.sorts r.place r.entry n.0 (codes "S") r.stands r.declared n.1;
        leads = name_found g sg n.0 n.2 i (sg.first_names_lead i r.entry n.0 r.stands n.1) ∙ ap Some means;
      }

  pub sort_back : (s : Sort) → IsSort (data_meant g) s → sort_in (map (sort_name_under g) g.sort_names) (sort_written (text_names_under g x) s) ≡ Some s
  sort_back boolean h = refl
  sort_back positive h = refl
  sort_back natural h = refl
  sort_back integer h = refl
  sort_back (list s) h = ap (option_map list) (sort_back s h)
  sort_back (named k) h = let r = sort_named k h in ap (λ t. first_named t (map (sort_name_under g) g.sort_names)) r.text ∙ r.leads
