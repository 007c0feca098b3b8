-- What the calls of laying out ask of each other.
use Rattle.std.proofs.Common.{◌≡◌, ◌<◌, ◌≤◌, ℕ, suc, List, [], ◌∷◌, map, length, get_or, refl, sym, ap, ap₂, ◌∙◌, subst, arith, Option}
use Rattle.std.specs.Prelude.{Vec}
use Rattle.std.specs.Global.{Global}
use Rattle.std.specs.List.{All, AllZip}
use Rattle.std.proofs.lemmas.List.{length-map}
use Rattle.std.proofs.lemmas.List.Elements.{All-contains, All-weaker}
use Rattle.std.proofs.lemmas.Option.{slice_get_within}
use Rattle.std.proofs.lemmas.Slice.Zip.{AllZip-long}
use Rattle.data_theory.specs.declared.ids.NameId.{NameId}
use Rattle.data_theory.specs.declared.ids.SortId.{SortId}
use Rattle.data_theory.specs.declared.ids.VarId.{VarId}
use Rattle.data_theory.specs.declared.ids.TermId.{TermId}
use Rattle.data_theory.specs.Declarations.{NoSortIsEmpty}
use Rattle.data_theory.specs.Signature.{Sig}
use Rattle.data_theory.specs.IdData.{data_meant}
use Rattle.data_theory.specs.IdTrees.{Tree, trees_of}
use Rattle.data_theory.specs.IdTreeSorts.{HaveTreeSorts}
use Rattle.data_theory.specs.WholeSignatures.{IsSignature}
use Rattle.term_pool.specs.HeadTrees.{tree_at, trees_at}
use Rattle.term_pool.specs.Pools.{PoolContents}
use Rattle.term_pool.specs.ConstructorValues.{HasValue}
use Rattle.term_pool.proofs.GrownSignatures.{inhabited_sorts_stay_inhabited}
use Rattle.term_pool.proofs.InhabitedSorts.{sorts_have_values_where_none_is_empty}
use Rattle.lps_core.specs.Fitting.{IsVariable, sort_of_variable}
use Rattle.lps_core.specs.Naming.{GrowsByNames}
use Rattle.lps_core.proofs.FunctionNames.{functions_taken}
use Rattle.lps_core.proofs.NamedSums.{variable_kept}
use Rattle.lps_core.proofs.Staying.{sort_is_within}
use Rattle.greibach.specs.FittingForms.{FormFits}
use Rattle.greibach.specs.PlainForms.{PlainEquation, PlainForm}
use Rattle.regular_encoder.specs.TreeEncoding.{plain_place}
use Rattle.regular_encoder.specs.FormColumns.{kind_of, all_params, with_kinds, column_kinds, IsColumnOf, ArePlaces, AreColumns, IsControl, AreFirstTerms, HasItsColumns, IsKindIn, places_in}
use Rattle.regular_encoder.proofs.NewColumns.{columns_stand, as_many_columns}
use Rattle.regular_encoder.proofs.FoundKinds.{AreAt, AreAllKindsAt, all_within_kinds, places_stand}
use Rattle.regular_encoder.proofs.ServingLayouts.{zip_at}
use Rattle.regular_encoder.proofs.LaidOutForms.{kinds_stand}

pub read_first : (places : List (Vec VarId Global)) (d : Vec VarId Global) → 0 < length places → get_or (map plain_place places) 0 [] ≡ (get_or places 0 d).items
read_first [] d l = absurd (omega (arith, l))
read_first (p ∷ places) d l = refl

sorted_long : (g : Sig) (us : List Tree) (ss : List SortId) → HaveTreeSorts g (trees_of us) ss → length us ≡ length ss
sorted_long g [] [] h = refl
sorted_long g [] (s ∷ ss) h = absurd h
sorted_long g (u ∷ us) [] h = absurd h
sorted_long g (u ∷ us) (s ∷ ss) h = ap suc (sorted_long g us ss h.1)

module _ (g : Sig) (p : PoolContents) (f : PlainForm) (s : IsSignature g) (fits : FormFits g p.trees f) where
  pub kinds_in : (keys : List (NameId × SortId)) → keys ≡ column_kinds g f → All (IsKindIn g) keys
  kinds_in keys e =
      let k = kinds_stand g p.trees f s fits in
      subst (All (IsKindIn g)) (sym e) (λ i d l. (All-contains (λ (n : NameId). n.0 < length g.texts) g.taken _ s.complete.within.taken (k.taken i d l), k.sorts i d l))

  pub variables_in : (keys : List (NameId × SortId)) → keys ≡ column_kinds g f → (h : Sig) (cs : List VarId) → AreColumns g keys h cs → (k : Sig) → GrowsByNames h k → All (IsVariable k) cs
  variables_in keys e h cs a k w =
      let r = columns_stand g s (functions_taken g s) (column_kinds g f) h cs (subst (λ z. AreColumns g z h cs) e a) (kinds_stand g p.trees f s fits) in
      All-weaker (IsVariable h) (IsVariable k) (λ c l. variable_kept h k c w.grown l) cs r.1.variables

  pub inhabited_in : NoSortIsEmpty (data_meant g) → (k : Sig) (cs : List VarId) → GrowsByNames g k → All (IsVariable k) cs → All (λ c. HasValue k (sort_of_variable k c)) cs
  inhabited_in n k cs w vs =
      let values = (sorts_have_values_where_none_is_empty g s).0 n in
      All-weaker (IsVariable k) (λ c. HasValue k (sort_of_variable k c))
      (λ c l. inhabited_sorts_stay_inhabited g k w.grown (sort_of_variable k c) (values (sort_of_variable k c) (subst (λ ss. (sort_of_variable k c).0 < length ss) w.sorts (sort_is_within k c w.stands.complete l)))) cs vs

  pub some_place : (keys : List (NameId × SortId)) (cs : List VarId) (places : List (Vec VarId Global)) → ArePlaces g keys cs f.equations (map plain_place places) → 0 < length places
  some_place keys cs places h =
      let a = AllZip-long (λ (q : PlainEquation) place. AllZip (IsColumnOf g keys cs) q.params place) f.equations (map plain_place places) h in
      let b = length-map places plain_place in
      let l = slice_get_within f.equations 0 fits.first fits.starts in
      omega (arith, a, b, l)

  pub place_long : (keys : List (NameId × SortId)) (cs : List VarId) (places : List (List VarId)) → ArePlaces g keys cs f.equations places → length (get_or places 0 []) ≡ length f.init
  place_long keys cs places h =
      AllZip-long (IsColumnOf g keys cs) fits.first.params (get_or places 0 []) (zip_at (λ (q : PlainEquation) place. AllZip (IsColumnOf g keys cs) q.params place) f.equations places 0 fits.first [] h fits.starts)
      ∙ sym (length-map fits.first.params (sort_of_variable g))
      ∙ sym (sorted_long g (trees_at p.trees f.init) (map (sort_of_variable g) fits.first.params) fits.init.sorted)
      ∙ length-map f.init (tree_at p.trees)

  pub keys_known : (old keys : List (NameId × SortId)) (qs : List PlainEquation) → keys ≡ with_kinds old (map (kind_of g) (all_params qs)) → old ≡ [] → qs ≡ f.equations → keys ≡ column_kinds g f
  keys_known old keys qs e o q = e ∙ ap₂ (λ z rs. with_kinds z (map (kind_of g) (all_params rs))) o q

  pub placed : (keys : List (NameId × SortId)) (qs : List PlainEquation) (ats lent : List (List ℕ)) (cs slice : List VarId) (places : List (List VarId)) → qs ≡ f.equations → AreAllKindsAt g keys qs ats → slice ≡ cs → lent ≡ ats → AllZip (AreAt slice) lent places
      → AreAllKindsAt g keys f.equations ats × AllZip (AreAt cs) ats places × ArePlaces g keys cs f.equations places
  placed keys qs ats lent cs slice places e kinds c a at =
      let own = subst (λ z. AreAllKindsAt g keys z ats) e kinds in
      let found = subst (λ z. AllZip (AreAt z) ats places) c (subst (λ z. AllZip (AreAt slice) z places) a at) in
      (own, found, places_stand g keys cs f.equations ats places own found)

  -- all that was made is what the form's columns are
  pub columns_made : (keys : List (NameId × SortId)) (ats : List (List ℕ)) (places : List (List VarId)) (h k i : Sig) (cs : List VarId) (o : Option VarId) (place : List VarId) (args : List TermId) (n : ℕ) (q : PoolContents) (firsts : List TermId) → keys ≡ column_kinds g f
      → AreAllKindsAt g keys f.equations ats → AreColumns g keys h cs → AllZip (AreAt cs) ats places → n ≡ length f.equations → IsControl h n k o → place ≡ get_or places 0 [] → args ≡ f.init → AreFirstTerms place args k p cs i q firsts
      → HasItsColumns g p f i q (record { columns = cs; places = places; control = o }) firsts
  columns_made keys ats places h k i cs o place args n q firsts e kinds columns at long control same_place same_args values = record {
    with_columns = h;
    with_control = k;
    columns = subst (λ z. AreColumns g z h cs) e columns;
    control = subst (λ z. IsControl h z k o) long control;
    places = subst (λ z. ArePlaces g z cs f.equations places) e (places_stand g keys cs f.equations ats places kinds at);
    values = subst (λ z. AreFirstTerms z f.init k p cs i q firsts) same_place (subst (λ z. AreFirstTerms place z k p cs i q firsts) same_args values);
  }

pub places_within : (g : Sig) (keys : List (NameId × SortId)) (qs : List PlainEquation) (ats lent : List (Vec ℕ Global)) (h : Sig) (cs slice : List VarId) → AreAllKindsAt g keys qs (places_in ats) → AreColumns g keys h cs → slice ≡ cs → lent ≡ ats
    → All (All (λ i. i < length slice)) (places_in lent)
places_within g keys qs ats lent h cs slice kinds columns c a =
    let e = as_many_columns g keys h cs columns in
    let l : length keys ≤ length cs = omega (arith, e) in
    subst (λ z. All (All (λ i. i < length z)) (places_in lent)) (sym c) (subst (λ z. All (All (λ i. i < length cs)) (places_in z)) (sym a) (all_within_kinds g keys (length cs) qs (places_in ats) l kinds))
