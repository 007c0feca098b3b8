-- What the added sort, its parameter and the columns give.
use Rattle.std.proofs.Common.{◌≡◌, ℕ, suc, List, [], ◌∷◌, ◌++◌, map, length, get_or, refl, sym, ap, ap₂, ◌∙◌, subst, arith, cond, ⊎_elim, Option, Some, None}
use Rattle.std.specs.Prelude.{slice_get}
use Rattle.std.specs.List.{All, AllZip, Contains}
use Rattle.std.proofs.lemmas.Bool.Decides.{eqb_tells}
use Rattle.std.proofs.lemmas.List.{length-map, length-append}
use Rattle.std.proofs.lemmas.List.Elements.{All-nil, All-cons, All-head, All-tail, Contains-append_left}
use Rattle.std.proofs.lemmas.Option.{slice_get_within}
use Rattle.data_theory.specs.declared.ids.NameId.{NameId}
use Rattle.data_theory.specs.declared.ids.SortId.{SortId}
use Rattle.data_theory.specs.declared.ids.TermId.{TermId}
use Rattle.data_theory.specs.declared.ids.VarId.{VarId}
use Rattle.data_theory.specs.declared.signature.Variable.{Variable}
use Rattle.data_theory.specs.Names.{place_in, with_text, AreDifferent}
use Rattle.data_theory.specs.Signature.{Sig, with_sort, with_struct_sort}
use Rattle.data_theory.specs.IdTerms.{IsGrown}
use Rattle.data_theory.specs.IdTrees.{Tree}
use Rattle.data_theory.specs.WholeSignatures.{IsSignature}
use Rattle.data_theory.proofs.IdGrowthLemmas.{growth_after_growth_is_growth, with_a_text_it_is_grown, with_a_variable_it_is_grown}
use Rattle.data_theory.proofs.NameLemmas.{place_is}
use Rattle.data_theory.proofs.PlaceLemmas.{read_front}
use Rattle.data_theory.proofs.StructGrowthLemmas.{with_a_struct_sort_it_is_grown}
use Rattle.term_pool.specs.HeadTrees.{tree_at, IsIn}
use Rattle.term_pool.specs.Pools.{PoolContents}
use Rattle.term_pool.specs.Constants.{constant_of}
use Rattle.process_terms.specs.SignatureEntries.{BothGrow}
use Rattle.lps_core.specs.Fitting.{IsTermOf, AreTermsOf, IsVariable, sort_of_variable, HasTakenName}
use Rattle.lps_core.specs.Naming.{name_of, GrowsByNames}
use Rattle.lps_core.proofs.NamedSums.{variable_kept, name_kept, sort_kept, last_variable, name_taken, with_name_has}
use Rattle.lps_core.proofs.PoolTrees.{tree_kept}
use Rattle.lps_core.proofs.StayingFits.{term_fits, lists_are_closed}
use Rattle.greibach.specs.FittingForms.{FormFits}
use Rattle.greibach.specs.PlainForms.{PlainEquation, PlainForm}
use Rattle.regular_encoder.specs.FormColumns.{kind_of, AreKindsAt}
use Rattle.regular_encoder.proofs.FirstTerms.{HasNoVariable, value_is_closed, closed_args, grow_then, grow_none, some_is, no_some}
use Rattle.regular_encoder.proofs.ServingLayouts.{zip_at}
use Rattle.stack_encoder.specs.StackEntries.{StackIds, StackStands, ids_behind}
use Rattle.stack_encoder.specs.AddedSort.{StackWords, DeclaresStack, constructors_declared}
use Rattle.stack_encoder.specs.StackColumns.{AreNumberedPlaces, numbered_place, in_need, sort_of_column, AreClosedTerms, no_closed_term, one_more_closed_term, value_at, or_else, default_at, HaveDefaults}
use Rattle.stack_encoder.proofs.ClosedColumns.{column_sort}
use Rattle.stack_encoder.proofs.FreshWords.{words_stand}
use Rattle.stack_encoder.proofs.StandingStack.{declared_stack}

-- ---- the entries stay
pub stands_on : (g h : Sig) (i : StackIds) (columns : List SortId) → IsGrown g h → StackStands g i columns → StackStands h i columns
stands_on g h i columns w s = record {
  info = s.info;
  sort_at = subst (λ z. slice_get z i.sort.0 ≡ Some s.info) (sym w.sorts) (read_front g.sorts w.new_sorts i.sort.0 s.info s.sort_at);
  kind = s.kind;
  push = s.push;
  push_at = subst (λ z. slice_get z i.push.0 ≡ Some s.push) (sym w.functions) (read_front g.functions w.new_functions i.push.0 s.push s.push_at);
  push_sorts = s.push_sorts;
  push_projections = s.push_projections;
  push_test = s.push_test;
  empty = s.empty;
  empty_at = subst (λ z. slice_get z i.empty.0 ≡ Some s.empty) (sym w.functions) (read_front g.functions w.new_functions i.empty.0 s.empty s.empty_at);
  empty_sorts = s.empty_sorts;
  long = s.long;
  differ = s.differ;
}

abbrev pub column_sorts : List (NameId × SortId) → List SortId
column_sorts kinds = map (λ (k : NameId × SortId). k.1) kinds

pub record HasStack (h : Sig) (kinds : List (NameId × SortId)) (y : StackIds) (v : VarId) : Type 0 where
  pub stands : StackStands h y (column_sorts kinds)
  pub variable : IsVariable h v
  pub sort : sort_of_variable h v ≡ y.sort
  pub taken : HasTakenName h v

-- ---- what is declared
module _ (g : Sig) (kinds : List (NameId × SortId)) (d : Sig) (y : StackIds) (v : VarId) (s : IsSignature g) (x : DeclaresStack g kinds d y v) where
  abbrev words : StackWords
  words = x.sort.words

  abbrev named : Sig
  named = x.sort.named

  by_words : GrowsByNames g named
  by_words = (words_stand g s _ named _ x.sort.are_words.fresh).on

  by_sort : IsGrown named x.with_sort_only
  by_sort = subst (IsGrown named) (sym x.sort.is) (with_a_struct_sort_it_is_grown named words.sort (constructors_declared words (record { 0 = length named.sorts })))

  by_parameter : IsGrown x.with_sort_only d
  by_parameter = growth_after_growth_is_growth x.with_sort_only x.parameter.named d
      (subst (IsGrown x.with_sort_only) (sym x.parameter.fresh.taken) (with_a_text_it_is_grown x.with_sort_only x.parameter.fresh.text))
      (subst (IsGrown x.parameter.named) (sym x.parameter.is) (with_a_variable_it_is_grown x.parameter.named (record { name = x.parameter.name; sort = y.sort })))

  pub declared_grown : IsGrown g d
  declared_grown = growth_after_growth_is_growth g x.with_sort_only d (growth_after_growth_is_growth g named x.with_sort_only by_words.grown by_sort) by_parameter

  fields_long : length words.fields ≡ length kinds
  fields_long = sym (length-map words.fields (λ f. f.1)) ∙ ap length x.sort.are_words.sorts ∙ length-map kinds (λ k. k.1)

  stands_first : StackStands x.with_sort_only y (column_sorts kinds)
  stands_first =
      subst (λ z. StackStands z y (column_sorts kinds)) (sym x.sort.is)
      (subst (λ z. StackStands (with_struct_sort named words.sort (constructors_declared words (record { 0 = length named.sorts }))) z (column_sorts kinds)) (sym x.ids)
      (subst (λ n. StackStands (with_struct_sort named words.sort (constructors_declared words (record { 0 = length named.sorts }))) (ids_behind (length named.sorts) (length (with_sort named words.sort).functions) n) (column_sorts kinds)) fields_long
      (subst (λ ss. StackStands (with_struct_sort named words.sort (constructors_declared words (record { 0 = length named.sorts }))) (ids_behind (length named.sorts) (length (with_sort named words.sort).functions) (length words.fields)) ss) x.sort.are_words.sorts
      (declared_stack named words.sort words.push words.pc words.rest words.is_push words.empty words.fields))))

  abbrev parameter : Variable
  parameter = record { name = x.parameter.name; sort = y.sort }

  same_variable : v ≡ record { 0 = length x.parameter.named.variables }
  same_variable = ap (λ n. record { 0 = n }) x.parameter.number

  read_parameter : (e : Variable) → get_or d.variables v.0 e ≡ parameter
  read_parameter e = ap₂ (λ (z : Sig) n. get_or z.variables n e) x.parameter.is x.parameter.number ∙ last_variable x.parameter.named parameter e

  own_variable : IsVariable d v
  own_variable =
      let e = ap (λ (z : Sig). length z.variables) x.parameter.is ∙ length-append x.parameter.named.variables (parameter ∷ []) in
      let n = x.parameter.number in
      omega (arith, e, n)

  older : IsGrown g x.parameter.named
  older = growth_after_growth_is_growth g x.with_sort_only x.parameter.named (growth_after_growth_is_growth g named x.with_sort_only by_words.grown by_sort)
      (subst (IsGrown x.with_sort_only) (sym x.parameter.fresh.taken) (with_a_text_it_is_grown x.with_sort_only x.parameter.fresh.text))

  -- the parameter is none of the old variables
  pub new_variable : (z : VarId) → IsVariable g z → z.0 ≡ v.0 → ⊥
  new_variable z l e =
      let k = variable_kept g x.parameter.named z older l in
      let n = x.parameter.number in
      omega (arith, e, k, n)

  module _ (h : Sig) (stands : IsSignature h) (w : IsGrown d h) where
    front_different : (xs ys zs : List (List ℕ)) → ys ≡ xs ++ zs → AreDifferent ys → AreDifferent xs
    front_different xs ys zs e n i j t a b = n i j t (subst (λ z. slice_get z i ≡ Some t) (sym e) (read_front xs zs i t a)) (subst (λ z. slice_get z j ≡ Some t) (sym e) (read_front xs zs j t b))

    own_taken : Contains x.parameter.named.taken x.parameter.name
    own_taken =
        let up = growth_after_growth_is_growth x.parameter.named d h (subst (IsGrown x.parameter.named) (sym x.parameter.is) (with_a_variable_it_is_grown x.parameter.named parameter)) w in
        let different = front_different x.parameter.named.texts h.texts up.new_texts up.texts stands.table.different in
        let f = x.parameter.fresh in
        let place : x.parameter.name ≡ place_in x.parameter.named.texts f.text = place_is x.parameter.named.texts f.text x.parameter.name.0 different f.named in
        subst (λ z. Contains x.parameter.named.taken z) (sym place)
        (subst (λ (z : Sig). Contains z.taken (place_in z.texts f.text)) (sym f.taken) (with_name_has x.with_sort_only.taken (place_in (with_text x.with_sort_only.texts f.text) f.text)))

    pub has_stack : HasStack h kinds y v
    has_stack =
        let named_so : name_of d v ≡ x.parameter.name = ap (λ (z : Variable). z.name) (read_parameter _) in
        let taken : Contains d.taken x.parameter.name = subst (λ (z : Sig). Contains z.taken x.parameter.name) (sym x.parameter.is) own_taken in
        let kept = variable_kept d h v w own_variable in
        record {
          stands = stands_on x.with_sort_only h y (column_sorts kinds) (growth_after_growth_is_growth x.with_sort_only d h by_parameter w) stands_first;
          variable = kept;
          sort = sort_kept d h v w own_variable ∙ ap (λ (z : Variable). z.sort) (read_parameter _);
          taken = name_taken h v kept
              (subst (λ n. Contains h.taken n) (sym (name_kept d h v w own_variable ∙ named_so)) (subst (λ l. Contains l x.parameter.name) (sym w.taken) (Contains-append_left d.taken w.new_taken x.parameter.name taken)));
        }

-- ---- terms of columns
-- closed, and of its sort
pub record ClosedOf (h : Sig) (us : List Tree) (s : SortId) (t : TermId) : Type 0 where
  pub term : IsTermOf h us s t
  pub closed : HasNoVariable (tree_at us t)

pub closed_on : (g h : Sig) (ts us : List Tree) (s : SortId) (t : TermId) → BothGrow g h ts us → ClosedOf g ts s t → ClosedOf h us s t
closed_on g h ts us s t w c = record { term = term_fits g h ts us w s t c.term; closed = subst HasNoVariable (sym (tree_kept ts us t w.pool c.term.within).0) c.closed }

zip_last : {A B : Type 0} (R : A → B → Type 0) (xs : List A) (ys : List B) (x : A) (y : B) → AllZip R xs ys → R x y → AllZip R (xs ++ x ∷ []) (ys ++ y ∷ [])
zip_last R [] [] x y h k = (k, tt)
zip_last R [] (b ∷ ys) x y h k = absurd h
zip_last R (a ∷ xs) [] x y h k = absurd h
zip_last R (a ∷ xs) (b ∷ ys) x y h k = (h.0, zip_last R xs ys x y h.1 k)

pub zip_turn : {A B : Type 0} (R Q : A → B → Type 0) → ((x : A) (y : B) → R x y → Q x y) → (xs : List A) (ys : List B) → AllZip R xs ys → AllZip Q xs ys
zip_turn R Q f [] [] h = tt
zip_turn R Q f [] (y ∷ ys) h = absurd h
zip_turn R Q f (x ∷ xs) [] h = absurd h
zip_turn R Q f (x ∷ xs) (y ∷ ys) h = (f x y h.0, zip_turn R Q f xs ys h.1)

closed_terms_stand : (g : Sig) (p : PoolContents) (ss : List SortId) (h : Sig) (q : PoolContents) (ts : List TermId) → AreClosedTerms g p ss h q ts → BothGrow g h p.trees q.trees × AllZip (ClosedOf h q.trees) ss ts
closed_terms_stand g p _ _ _ _ no_closed_term = (grow_none g p.trees, tt)
closed_terms_stand g p _ i r _ (one_more_closed_term {ss = ss} {ts = ts} {h = h} {q = q} {s = s} {t = t} a n) =
    let f = closed_terms_stand g p ss h q ts a in
    let w : BothGrow h i q.trees r.trees = record { signature = n.grown; pool = n.kept } in (
      grow_then g h i p.trees q.trees r.trees f.0 w,
      zip_last (ClosedOf i r.trees) ss ts s t (zip_turn (ClosedOf h q.trees) (ClosedOf i r.trees) (λ a b k. closed_on h i q.trees r.trees a b w k) ss ts f.1)
          (record { term = n.stands; closed = subst HasNoVariable (sym n.tree) (value_is_closed (constant_of r.constants) n.value) }),
    )

-- what stands beside a number
value_stands : (P : ℕ → TermId → Type 0) (ns : List ℕ) (ts : List TermId) (x : ℕ) (t : TermId) → AllZip P ns ts → value_at ns ts x ≡ Some t → P x t
value_stands P [] ts x t h e = absurd (no_some e)
value_stands P (n ∷ ns) [] x t h e = absurd (no_some e)
value_stands P (n ∷ ns) (u ∷ ts) x t h e = ⊎_elim
    (λ q. subst (λ z. P x z) (some_is (sym (ap (λ b. cond b (Some u) (value_at ns ts x)) q.0) ∙ e)) (subst (λ m. P m u) q.1 h.0))
    (λ q. value_stands P ns ts x t h.1 (sym (ap (λ b. cond b (Some u) (value_at ns ts x)) q.0) ∙ e))
    (eqb_tells n x)

default_stands : (P : ℕ → TermId → Type 0) (needed : List ℕ) (closed : List TermId) (place : List ℕ) (init : List TermId) (x : ℕ) (t : TermId) → AllZip P needed closed → AllZip P place init → default_at needed closed place init x ≡ Some t → P x t
default_stands P needed closed place init x t h k e = by_case (value_at needed closed x) refl
  where
    by_case : (o : Option TermId) → value_at needed closed x ≡ o → P x t
    by_case None q = value_stands P place init x t k (sym (ap (λ z. or_else z (value_at place init x)) q) ∙ e)
    by_case (Some u) q = value_stands P needed closed x t h (q ∙ (sym (ap (λ z. or_else z (value_at place init x)) q) ∙ e))

unmapped : {A B C : Type 0} (f : A → B) (R : B → C → Type 0) (xs : List A) (ys : List C) → AllZip R (map f xs) ys → AllZip (λ x y. R (f x) y) xs ys
unmapped f R [] [] h = tt
unmapped f R [] (y ∷ ys) h = absurd h
unmapped f R (x ∷ xs) [] h = absurd h
unmapped f R (x ∷ xs) (y ∷ ys) h = (h.0, unmapped f R xs ys h.1)

-- the arguments at their places
arguments_stand : (g : Sig) (ts : List Tree) (kinds : List (NameId × SortId)) (params : List VarId) (place : List ℕ) (args : List TermId) → AreKindsAt g kinds params place → AreTermsOf g ts (map (sort_of_variable g) params) args → All (λ id. HasNoVariable (tree_at ts id)) args
    → AllZip (λ n t. ClosedOf g ts (sort_of_column kinds n) t) place args
arguments_stand g ts kinds [] [] [] z w k = tt
arguments_stand g ts kinds [] [] (a ∷ args) z w k = absurd w.sorted
arguments_stand g ts kinds [] (n ∷ place) args z w k = absurd z
arguments_stand g ts kinds (p ∷ params) [] args z w k = absurd z
arguments_stand g ts kinds (p ∷ params) (n ∷ place) [] z w k = absurd w.sorted
arguments_stand g ts kinds (p ∷ params) (n ∷ place) (a ∷ args) z w k = (
  record {
    term = subst (λ s. IsTermOf g ts s a) (sym (column_sort kinds n (kind_of g p) z.0)) (record { within = All-head (IsIn ts) a args w.within; sorted = w.sorted.0 });
    closed = All-head (λ id. HasNoVariable (tree_at ts id)) a args k;
  },
  arguments_stand g ts kinds params place args z.1 (record { within = All-tail (IsIn ts) a args w.within; sorted = w.sorted.1 }) (All-tail (λ id. HasNoVariable (tree_at ts id)) a args k),
)

zip_from_places : {A B : Type 0} (R : A → B → Type 0) (xs : List A) (ys : List B) → length ys ≡ length xs → ((i : ℕ) (x : A) (y : B) → slice_get xs i ≡ Some x → slice_get ys i ≡ Some y → R x y) → AllZip R xs ys
zip_from_places R [] [] l f = tt
zip_from_places R [] (y ∷ ys) l f = absurd (omega (arith, l))
zip_from_places R (x ∷ xs) [] l f = absurd (omega (arith, l))
zip_from_places R (x ∷ xs) (y ∷ ys) l f = (f 0 x y refl refl, zip_from_places R xs ys (omega (arith, l)) (λ i a b p q. f (suc i) a b p q))

pub defaults_stand : (g d h : Sig) (p q : PoolContents) (f : PlainForm) (kinds : List (NameId × SortId)) (places : List (List ℕ)) (defaults : List TermId) → IsGrown g d → FormFits g p.trees f → AreNumberedPlaces g kinds f.equations places → HaveDefaults kinds places f d p h q defaults
    → BothGrow d h p.trees q.trees × AllZip (λ (k : NameId × SortId) t. ClosedOf h q.trees k.1 t) kinds defaults
defaults_stand g d h p q f kinds places defaults w fits numbered have =
    let c = closed_terms_stand d p (map (sort_of_column kinds) (in_need (length kinds) places f.equations)) h q have.closed have.closed_terms in
    let P : ℕ → TermId → Type 0 = λ n t. ClosedOf h q.trees (sort_of_column kinds n) t in
    let place = zip_at (λ (e : PlainEquation) at. AreKindsAt g kinds e.params at) f.equations places 0 fits.first [] numbered fits.starts in
    let up : BothGrow g h p.trees q.trees = grow_then g d h p.trees p.trees q.trees (record { signature = w; pool = (grow_none g p.trees).pool }) c.0 in
    let args = arguments_stand g p.trees kinds fits.first.params (numbered_place places 1) f.init place fits.init (closed_args g p.trees f.init fits.init.within (lists_are_closed _ _ _ fits.closed)) in
    let first = zip_turn (λ n t. ClosedOf g p.trees (sort_of_column kinds n) t) P (λ n t k. closed_on g h p.trees q.trees (sort_of_column kinds n) t up k) (numbered_place places 1) f.init args in
    let needed = unmapped (sort_of_column kinds) (ClosedOf h q.trees) (in_need (length kinds) places f.equations) have.closed c.1 in (
      c.0,
      zip_from_places (λ (k : NameId × SortId) t. ClosedOf h q.trees k.1 t) kinds defaults have.long
          (λ i k t a b.
          subst (λ s. ClosedOf h q.trees s t) (column_sort kinds i k a)
          (default_stands P (in_need (length kinds) places f.equations) have.closed (numbered_place places 1) f.init i t needed first (sym (have.each i (slice_get_within kinds i k a)) ∙ b))),
    )

pub closed_lists : (h : Sig) (us : List Tree) (kinds : List (NameId × SortId)) (ts : List TermId) → AllZip (λ (k : NameId × SortId) t. ClosedOf h us k.1 t) kinds ts → AreTermsOf h us (column_sorts kinds) ts × All (λ t. HasNoVariable (tree_at us t)) ts
closed_lists h us [] [] z = (record { within = All-nil (IsIn us); sorted = tt }, All-nil (λ t. HasNoVariable (tree_at us t)))
closed_lists h us [] (t ∷ ts) z = absurd z
closed_lists h us (k ∷ kinds) [] z = absurd z
closed_lists h us (k ∷ kinds) (t ∷ ts) z =
    let r = closed_lists h us kinds ts z.1 in (
      record { within = All-cons (IsIn us) t ts z.0.term.within r.0.within; sorted = (z.0.term.sorted, r.0.sorted) },
      All-cons (λ t. HasNoVariable (tree_at us t)) t ts z.0.closed r.1,
    )
