-- The first values of a sort, listed weight by weight.
use Rattle.std.proofs.Common.{◌≡◌, ◌⊎◌, ⊎_elim, inl, inr, ◌<◌, ◌≤◌, ◌+◌, ◌^◌, ◌++◌, ℕ, zero, suc, Bool, true, false, List, [], ◌∷◌, take, length, get_or, refl, sym, ap, ◌∙◌, subst, arith}
use Rattle.std.specs.List.{Contains}
use Rattle.std.proofs.lemmas.List.{length-take, length-append}
use Rattle.data_theory.specs.declared.ids.SortId.{SortId}
use Rattle.data_theory.specs.declared.ids.FunId.{FunId}
use Rattle.data_theory.specs.declared.ids.TermId.{TermId}
use Rattle.data_theory.specs.Signature.{Sig}
use Rattle.data_theory.specs.IdTrees.{Tree}
use Rattle.data_theory.specs.WholeSignatures.{IsSignature}
use Rattle.term_pool.specs.Pools.{Extends}
use Rattle.term_pool.specs.ConstructorValues.{ConstructorValue, weight}
use Rattle.term_pool.proofs.Lists.{contains_none, contains_head}
use Rattle.value_enum.specs.declared.shapes.Shapes.{Shapes}
use Rattle.value_enum.specs.declared.levels.Levels.{Levels}
use Rattle.value_enum.specs.declared.levels.TupleRow.{TupleRow}
use Rattle.value_enum.specs.Values.{IsPlainValueOf, AreTermsOf, no_terms}
use Rattle.value_enum.specs.Shapes.{list_at, functions_of, AreShapes}
use Rattle.value_enum.specs.Levels.{Shape, shape_of, values_weighing, values_up_to, values_at, HaveTuples, AreLevels, AreHeaviest, AreWeightsOfValues, HasNoneAbove}
use Rattle.value_enum.specs.Listing.{AreAllOrFirst, AreNoted}
use Rattle.value_enum.proofs.Capped.{cut_right, not_cut}
use Rattle.value_enum.proofs.TermLists.{terms_length, terms_append, terms_take, tuples_kept}
use Rattle.value_enum.proofs.WeighingValues.{weighing_right}
use Rattle.value_enum.proofs.FirstOnes.{AreUpTo, up_to_right, all_are_first, cut_are_first, one_more}

one_up : (n : ℕ) → n + 1 ≡ suc n
one_up n = omega arith

up_to_more_list : (sh : Shape) (s : SortId) (w : ℕ) → values_up_to sh s (w + 1) ≡ values_up_to sh s w ++ values_weighing sh s (w + 1)
unfolding values_up_to
up_to_more_list sh s w = ap (values_up_to sh s) (one_up w) ∙ ap (λ n. values_up_to sh s w ++ values_weighing sh s n) (sym (one_up w))

pub none_listed : (sh : Shape) (s : SortId) (ts : List Tree) (ids : List TermId) → ids ≡ [] → AreTermsOf ts ids (values_up_to sh s 0)
unfolding values_up_to
none_listed sh s ts ids e = subst (λ is. AreTermsOf ts is []) (sym e) no_terms

module _ (sh : Shape) (s : SortId) (w bound : ℕ) (ts : List Tree) (ids block : List TermId) (listed : AreTermsOf ts ids (values_up_to sh s w)) (here : AreTermsOf ts block (take (bound + 1) (values_weighing sh s (w + 1)))) where
  both : AreTermsOf ts (ids ++ block) (values_up_to sh s w ++ take (bound + 1) (values_weighing sh s (w + 1)))
  both = terms_append ts ids block (values_up_to sh s w) (take (bound + 1) (values_weighing sh s (w + 1))) listed here

  pub listed_more : length (ids ++ block) ≤ bound → AreTermsOf ts (ids ++ block) (values_up_to sh s (w + 1))
  listed_more l =
      let size = terms_length ts block (take (bound + 1) (values_weighing sh s (w + 1))) here in
      let sum = length-append ids block in
      let whole = not_cut bound (values_weighing sh s (w + 1)) (omega (arith, size, sum, l)) in
      subst (AreTermsOf ts (ids ++ block)) (ap (λ vs. values_up_to sh s w ++ vs) whole ∙ sym (up_to_more_list sh s w)) both

  pub listed_cut : AreTermsOf ts (take bound (ids ++ block)) (take bound (values_up_to sh s (w + 1)))
  listed_cut =
      subst (AreTermsOf ts (take bound (ids ++ block))) (cut_right bound (bound + 1) (values_up_to sh s w) (values_weighing sh s (w + 1)) (omega arith) ∙ ap (take bound) (sym (up_to_more_list sh s w)))
      (terms_take ts bound (ids ++ block) (values_up_to sh s w ++ take (bound + 1) (values_weighing sh s (w + 1))) both)

  pub more_than : bound < length (ids ++ block) → bound < length (values_up_to sh s (w + 1))
  more_than l =
      let size = terms_length ts (ids ++ block) (values_up_to sh s w ++ take (bound + 1) (values_weighing sh s (w + 1))) both in
      let sum = length-append (values_up_to sh s w) (take (bound + 1) (values_weighing sh s (w + 1))) in
      let all = length-append (values_up_to sh s w) (values_weighing sh s (w + 1)) in
      let cut = length-take (bound + 1) (values_weighing sh s (w + 1)) in
      let same = ap length (up_to_more_list sh s w) in
      omega (arith, size, sum, all, cut, same, l)

module _ (g : Sig) (stands : IsSignature g) (sh : Shapes) (shapes : AreShapes g sh) (s : SortId) (among : Contains sh.sorts.keys s) where
  abbrev C : SortId → List FunId
  C r = functions_of (list_at sh.constructors.items r.0)

  up_to : (w : ℕ) → w < 2 ^ 64 → AreUpTo g s w (values_up_to (shape_of g sh) s w)
  up_to w l = up_to_right g stands C sh.sorts.keys shapes.constructors shapes.closed w l s among

  pub first_cut : (w bound : ℕ) (ts : List Tree) (ids : List TermId) (all : Bool) → w < 2 ^ 64 → all ≡ false → bound < length (values_up_to (shape_of g sh) s w) → AreTermsOf ts ids (take bound (values_up_to (shape_of g sh) s w)) → AreAllOrFirst g s bound ts ids all
  first_cut w bound ts ids all l e more terms = record {
    values = take bound (values_up_to (shape_of g sh) s w);
    first = cut_are_first g s w bound (values_up_to (shape_of g sh) s w) (up_to w l) more;
    terms = terms;
    all_there = λ t. absurd (let wrong : true ≡ false = sym t ∙ e in cc);
    not_all = λ f there. one_more g s w bound (values_up_to (shape_of g sh) s w) (up_to w l) more there;
  }

  pub first_all : (w bound : ℕ) (ts : List Tree) (ids : List TermId) (all : Bool) → w < 2 ^ 64 → all ≡ true → HasNoneAbove g s w → length ids ≤ bound → AreTermsOf ts ids (values_up_to (shape_of g sh) s w) → AreAllOrFirst g s bound ts ids all
  first_all w bound ts ids all l e light few terms =
      let size = terms_length ts ids (values_up_to (shape_of g sh) s w) terms in
      record {
        values = values_up_to (shape_of g sh) s w;
        first = all_are_first g s w bound (values_up_to (shape_of g sh) s w) (up_to w l) light (omega (arith, size, few));
        terms = terms;
        all_there = λ t v is. (up_to w l).complete v is (light v is);
        not_all = λ f there. (let wrong : true ≡ false = sym e ∙ f in cc);
      }

-- ---- the heaviest values
pub heaviest_none : (g : Sig) (sorts : List SortId) (heaviest : List ℕ) → AreHeaviest g sorts heaviest 0
heaviest_none g sorts heaviest s v has is l = omega (arith, l)

pub noted_none : (g : Sig) (sorts : List SortId) (heaviest : List ℕ) → ((k : ℕ) → get_or heaviest k 0 ≡ 0) → AreWeightsOfValues g sorts heaviest
noted_none g sorts heaviest none s has some = absurd (let e = none s.0 in omega (arith, e, some))

module _ (g : Sig) (stands : IsSignature g) (sh : Shapes) (shapes : AreShapes g sh) (bound w : ℕ) (small : w + 1 < 2 ^ 64) (ts : List Tree) (levels : Levels) (right : AreLevels g sh bound ts levels) (level : w + 1 < length levels.values.items) where
  abbrev D : SortId → List FunId
  D r = functions_of (list_at sh.constructors.items r.0)

  some_taken : (n : ℕ) (vs : List ConstructorValue) (v : ConstructorValue) → Contains vs v → 0 < length (take (n + 1) vs)
  some_taken n [] v has = absurd (contains_none v has)
  some_taken n (x ∷ vs) v has = subst (λ k. 0 < length (take k (x ∷ vs))) (sym (one_up n)) (omega arith)

  not_empty : (s : SortId) → Contains sh.sorts.keys s → (v : ConstructorValue) → IsPlainValueOf g s v → weight v ≡ w + 1 → ¬ (values_at levels.values.items (w + 1) s ≡ [])
  not_empty s among v is e none =
      let has = (weighing_right g stands D sh.sorts.keys shapes.constructors shapes.closed (w + 1) small s among).complete v is e in
      let size = terms_length ts (values_at levels.values.items (w + 1) s) (take (bound + 1) (values_weighing (shape_of g sh) s (w + 1))) (right.values (w + 1) s level among) in
      let some = some_taken bound (values_weighing (shape_of g sh) s (w + 1)) v has in
      let nothing = ap length none in
      omega (arith, size, some, nothing)

  pub heaviest_more : (old new : List ℕ) → length old ≡ length sh.constructors.items → AreNoted levels.values.items (w + 1) old new → AreHeaviest g sh.sorts.keys old w → AreHeaviest g sh.sorts.keys new (w + 1)
  heaviest_more old new size noted light s v among is l =
      let inside = shapes.within s among in
      let count = shapes.count in
      let k : s.0 < length old = omega (arith, inside, count, size) in
      ⊎_elim
      (λ less. ⊎_elim
      (λ none. (let same = noted.others s.0 k none in let m = light s v among is less in omega (arith, same, m)))
      (λ some. (let same = noted.there s.0 k some in omega (arith, same, l)))
      (empty_or_not (values_at levels.values.items (w + 1) s)))
      (λ e. (let same = noted.there s.0 k (not_empty s among v is e) in omega (arith, same, l)))
      (less_or_same (weight v) l)
    where
      empty_or_not : (xs : List TermId) → (xs ≡ []) ⊎ ¬ (xs ≡ [])
      empty_or_not [] = inl refl
      empty_or_not (x ∷ xs) = inr (λ e. cc)

      less_or_same : (n : ℕ) → n ≤ w + 1 → (n ≤ w) ⊎ (n ≡ w + 1)
      less_or_same n l = grind arith

  -- one of each weight that is noted
  pub noted_more : (old new : List ℕ) → length old ≡ length sh.constructors.items → AreNoted levels.values.items (w + 1) old new → AreWeightsOfValues g sh.sorts.keys old → AreWeightsOfValues g sh.sorts.keys new
  noted_more old new size noted before s among some =
      let inside = shapes.within s among in
      let count = shapes.count in
      let k : s.0 < length old = omega (arith, inside, count, size) in
      ⊎_elim
      (λ none. (
      let same = noted.others s.0 k none in
      let v = before s among (omega (arith, same, some)) in
      (v.0, v.1, v.2 ∙ sym same)
      ))
      (λ there. (
      let v = one_there s among there in
      (v.0, v.1.0, v.1.1 ∙ sym (noted.there s.0 k there))
      ))
      (empty_or_not (values_at levels.values.items (w + 1) s))
    where
      empty_or_not : (xs : List TermId) → (xs ≡ []) ⊎ ¬ (xs ≡ [])
      empty_or_not [] = inl refl
      empty_or_not (x ∷ xs) = inr (λ e. cc)

      first_of : (ids : List TermId) (n : ℕ) (vs : List ConstructorValue) → ¬ (ids ≡ []) → AreTermsOf ts ids (take n vs) → (v : ConstructorValue) × Contains vs v
      first_of [] n vs some terms = absurd (some refl)
      first_of (id ∷ ids) zero vs some terms = elim terms [ ]
      first_of (id ∷ ids) (suc n) [] some terms = elim terms [ ]
      first_of (id ∷ ids) (suc n) (v ∷ vs) some terms = (v, contains_head v vs)

      one_there : (s : SortId) → Contains sh.sorts.keys s → ¬ (values_at levels.values.items (w + 1) s ≡ []) → (v : ConstructorValue) × (IsPlainValueOf g s v × (weight v ≡ w + 1))
      one_there s among some =
          let v = first_of (values_at levels.values.items (w + 1) s) (bound + 1) (values_weighing (shape_of g sh) s (w + 1)) some (right.values (w + 1) s level among) in
          (v.0, (weighing_right g stands D sh.sorts.keys shapes.constructors shapes.closed (w + 1) small s among).sound v.0 v.1)

-- ---- lists of arguments in a pool that grows
pub have_tuples_kept : (g : Sig) (sh : Shapes) (bound : ℕ) (old new : List Tree) (rows : List TupleRow) → Extends old new → HaveTuples (shape_of g sh) sh.arguments.items (bound + 1) old rows → HaveTuples (shape_of g sh) sh.arguments.items (bound + 1) new rows
have_tuples_kept g sh bound old new rows on have w p l k = tuples_kept old new on _ _ (have w p l k)
