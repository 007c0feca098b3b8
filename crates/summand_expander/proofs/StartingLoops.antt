-- Summands with the parameter of the first step, as loops make and count them.
use Rattle.std.proofs.Common.{◌≡◌, ◌<◌, ◌≤◌, ◌+◌, ◌*◌, ℕ, zero, suc, not, Bool, true, false, List, [], ◌∷◌, ◌++◌, map, take, drop, length, get_or, refl, sym, ap, ◌∙◌, subst, arith, Option, Some, None}
use Rattle.std.specs.Prelude.{codes, IfOk, Result, Ok, Err}
use Rattle.std.specs.List.{All, AllZip}
use Rattle.std.proofs.lemmas.List.{map-append, take_more, take_all}
use Rattle.std.proofs.lemmas.List.Elements.{All-nil, All-cons, All-head, All-tail}
use Rattle.data_theory.specs.declared.ids.NameId.{NameId}
use Rattle.data_theory.specs.declared.ids.TermId.{TermId}
use Rattle.data_theory.specs.declared.ids.VarId.{VarId}
use Rattle.data_theory.specs.Fresh.{IsFreshIn}
use Rattle.data_theory.specs.Signature.{Sig, with_variable}
use Rattle.data_theory.specs.Table.{bool_sort}
use Rattle.data_theory.specs.IdTrees.{Tree, variable, none, more, apply_tree}
use Rattle.term_pool.specs.HeadTrees.{tree_at, IsIn}
use Rattle.term_pool.specs.Pools.{Extends}
use Rattle.process_terms.specs.Processes.{Start, left_merge, sync}
use Rattle.lps_core.specs.declared.linears.Summand.{Summand}
use Rattle.lps_core.specs.PlainLinears.{PlainSummand, PlainLinear, plain_summand}
use Rattle.lps_core.specs.TreeConditions.{true_tree}
use Rattle.lps_core.specs.TreeSummands.{IsSummandIn}
use Rattle.lps_core.proofs.NamedSums.{zip_push, zip_weaker}
use Rattle.lps_core.proofs.PoolTrees.{extends_itself, extends_on, tree_kept}
use Rattle.summand_expander.specs.declared.starts.FirstFlag.{FirstFlag}
use Rattle.summand_expander.specs.FirstSteps.{left_may, both_may}
use Rattle.summand_expander.specs.Frames.{not_function}
use Rattle.summand_expander.specs.StartedProducts.{IsFirst, new_first}
use Rattle.summand_expander.specs.StartedTrees.{false_tree, HasFlagTerms, started_condition, IsStartedSummand, AreStarted, times_alone, alone_count, IsStarted}

-- ---- the terms of the parameter
pub flag_terms_made : (us vs ws : List Tree) (x : FirstFlag) → Extends us vs → Extends vs ws → IsIn us x.column → tree_at us x.column ≡ variable x.var → IsIn vs x.begun → tree_at vs x.begun ≡ apply_tree not_function (more (tree_at us x.column) none)
    → IsIn ws x.unset → tree_at ws x.unset ≡ false_tree → HasFlagTerms ws x
flag_terms_made us vs ws x e f ci c bi b ui u =
    let column = tree_kept us ws x.column (extends_on us vs ws e f) ci in
    let begun = tree_kept vs ws x.begun f bi in
    record { column_in = column.1; column = column.0 ∙ c; begun_in = begun.1; begun = begun.0 ∙ b ∙ ap (λ t. apply_tree not_function (more t none)) c; unset_in = ui; unset = u }

pub flag_terms_kept : (ts us : List Tree) (x : FirstFlag) → Extends ts us → HasFlagTerms ts x → HasFlagTerms us x
flag_terms_kept ts us x e h =
    let column = tree_kept ts us x.column e h.column_in in
    let begun = tree_kept ts us x.begun e h.begun_in in
    let unset = tree_kept ts us x.unset e h.unset_in in
    record { column_in = column.1; column = column.0 ∙ h.column; begun_in = begun.1; begun = begun.0 ∙ h.begun; unset_in = unset.1; unset = unset.0 ∙ h.unset }

-- ---- one summand, as the pool grows
pub started_later : (ts t1 us : List Tree) (x : FirstFlag) (may : Bool) → Extends t1 us → (s t : PlainSummand) → IsStartedSummand ts t1 x may s t → IsStartedSummand ts us x may s t
started_later ts t1 us x may e s t h =
    let kept = tree_kept t1 us t.condition e h.condition_in in
    record { sums = h.sums; condition_in = kept.1; condition = kept.0 ∙ h.condition; label = h.label; next = h.next }

pub group_later : (ts t1 us : List Tree) (x : FirstFlag) (may : Bool) (ss made : List PlainSummand) → Extends t1 us → AllZip (IsStartedSummand ts t1 x may) ss made → AllZip (IsStartedSummand ts us x may) ss made
group_later ts t1 us x may ss made e z = zip_weaker (IsStartedSummand ts t1 x may) (IsStartedSummand ts us x may) (started_later ts t1 us x may e) ss made z

-- made from a later pool
started_since : (ts t1 us : List Tree) (x : FirstFlag) (may : Bool) → Extends ts t1 → (s t : PlainSummand) → IsIn ts s.condition → IsStartedSummand t1 us x may s t → IsStartedSummand ts us x may s t
started_since ts t1 us x may e s t i h = record { sums = h.sums; condition_in = h.condition_in; condition = h.condition ∙ ap (started_condition x.var may) (tree_kept ts t1 s.condition e i).0; label = h.label; next = h.next }

pub group_since : (ts t1 us : List Tree) (x : FirstFlag) (may : Bool) → Extends ts t1 → (ss made : List PlainSummand) → All (IsSummandIn ts) ss → AllZip (IsStartedSummand t1 us x may) ss made → AllZip (IsStartedSummand ts us x may) ss made
group_since ts t1 us x may e [] [] h z = tt
group_since ts t1 us x may e [] (t ∷ made) h z = absurd z
group_since ts t1 us x may e (s ∷ ss) [] h z = absurd z
group_since ts t1 us x may e (s ∷ ss) (t ∷ made) h z =
    (started_since ts t1 us x may e s t (All-head (IsSummandIn ts) s ss h).condition z.0, group_since ts t1 us x may e ss made (All-tail (IsSummandIn ts) s ss h) z.1)

-- at the pool in the end
pub group_at_end : (ts us : List Tree) (x : FirstFlag) (may : Bool) → Extends ts us → (ss made : List PlainSummand) → All (IsSummandIn ts) ss → AllZip (IsStartedSummand ts us x may) ss made → AllZip (IsStartedSummand us us x may) ss made
group_at_end ts us x may e [] [] h z = tt
group_at_end ts us x may e [] (t ∷ made) h z = absurd z
group_at_end ts us x may e (s ∷ ss) [] h z = absurd z
group_at_end ts us x may e (s ∷ ss) (t ∷ made) h z = (
  record { sums = z.0.sums; condition_in = z.0.condition_in; condition = z.0.condition ∙ ap (started_condition x.var may) (sym (tree_kept ts us s.condition e (All-head (IsSummandIn ts) s ss h).condition).0); label = z.0.label; next = z.0.next },
  group_at_end ts us x may e ss made (All-tail (IsSummandIn ts) s ss h) z.1,
)

-- ---- the loop over a group
pub record IsStarting (ts : List Tree) (x : FirstFlag) (may : Bool) (items : List Summand) (i : ℕ) (us : List Tree) (made : List Summand) : Type 0 where
  pub kept : Extends ts us
  pub started : AllZip (IsStartedSummand ts us x may) (map plain_summand (take i items)) (map plain_summand made)

pub starting_none : (ts : List Tree) (x : FirstFlag) (may : Bool) (items : List Summand) → IsStarting ts x may items 0 ts []
starting_none ts x may items = record { kept = extends_itself ts; started = tt }

pub starting_more : (ts : List Tree) (x : FirstFlag) (may : Bool) (items : List Summand) (i : ℕ) (us : List Tree) (made : List Summand) (s : Summand) → IsStarting ts x may items i us made → i < length items → s ≡ get_or items i s → IsIn ts s.cond
    → (vs : List Tree) (new : Summand) → Extends us vs → IsStartedSummand us vs x may (plain_summand s) (plain_summand new) → IsStarting ts x may items (i + 1) vs (made ++ new ∷ [])
starting_more ts x may items i us made s p l read old vs new e h = record {
  kept = extends_on ts us vs p.kept e;
  started =
      subst (λ ms. AllZip (IsStartedSummand ts vs x may) (map plain_summand (take (i + 1) items)) ms) (sym (map-append plain_summand made (new ∷ [])))
      (subst (λ ss. AllZip (IsStartedSummand ts vs x may) (map plain_summand ss) (map plain_summand made ++ plain_summand new ∷ [])) (sym (take_more items i s l ∙ ap (λ y. take i items ++ y ∷ []) (sym read)))
      (subst (λ ss. AllZip (IsStartedSummand ts vs x may) ss (map plain_summand made ++ plain_summand new ∷ [])) (sym (map-append plain_summand (take i items) (s ∷ [])))
      (zip_push (IsStartedSummand ts vs x may) (map plain_summand (take i items)) (map plain_summand made) (plain_summand s) (plain_summand new)
      (group_later ts us vs x may (map plain_summand (take i items)) (map plain_summand made) e p.started)
      (started_since ts us vs x may p.kept (plain_summand s) (plain_summand new) old h))));
}

pub starting_all : (ts : List Tree) (x : FirstFlag) (may : Bool) (items : List Summand) (i : ℕ) (us : List Tree) (made : List Summand) → IsStarting ts x may items i us made → length items ≤ i → AllZip (IsStartedSummand ts us x may) (map plain_summand items) (map plain_summand made)
starting_all ts x may items i us made p l = subst (λ ss. AllZip (IsStartedSummand ts us x may) (map plain_summand ss) (map plain_summand made)) (take_all i items l) p.started

-- ---- the three groups
take_plain : (n : ℕ) (items : List Summand) → map plain_summand (take n items) ≡ take n (map plain_summand items)
take_plain n items = sym (take_map n items)
  where
    take_map : (n : ℕ) (items : List Summand) → take n (map plain_summand items) ≡ map plain_summand (take n items)
    take_map zero items = refl
    take_map (suc n) [] = refl
    take_map (suc n) (s ∷ items) = ap (λ z. plain_summand s ∷ z) (take_map n items)

drop_plain : (n : ℕ) (items : List Summand) → map plain_summand (drop n items) ≡ drop n (map plain_summand items)
drop_plain zero items = refl
drop_plain (suc n) [] = refl
drop_plain (suc n) (s ∷ items) = drop_plain n items

taken_in : {A : Type 0} (P : A → Type 0) (n : ℕ) (xs : List A) → All P xs → All P (take n xs)
taken_in P zero xs h = All-nil P
taken_in P (suc n) [] h = All-nil P
taken_in P (suc n) (x ∷ xs) h = All-cons P x (take n xs) (All-head P x xs h) (taken_in P n xs (All-tail P x xs h))

dropped_in : {A : Type 0} (P : A → Type 0) (n : ℕ) (xs : List A) → All P xs → All P (drop n xs)
dropped_in P zero xs h = h
dropped_in P (suc n) [] h = h
dropped_in P (suc n) (x ∷ xs) h = dropped_in P n xs (All-tail P x xs h)

pub front_in : (ts : List Tree) (items front : List Summand) (n : ℕ) → front ≡ take n items → All (IsSummandIn ts) (map plain_summand items) → All (IsSummandIn ts) (map plain_summand front)
front_in ts items front n e h = subst (λ z. All (IsSummandIn ts) z) (sym (ap (map plain_summand) e ∙ take_plain n items)) (taken_in (IsSummandIn ts) n (map plain_summand items) h)

pub back_in : (ts : List Tree) (items back : List Summand) (n : ℕ) → back ≡ drop n items → All (IsSummandIn ts) (map plain_summand items) → All (IsSummandIn ts) (map plain_summand back)
back_in ts items back n e h = subst (λ z. All (IsSummandIn ts) z) (sym (ap (map plain_summand) e ∙ drop_plain n items)) (dropped_in (IsSummandIn ts) n (map plain_summand items) h)

pub both_or_left : (o : Start) (b c : Bool) → b ≡ left_may o → c ≡ not b → c ≡ both_may o
both_or_left left_merge b c p q = q ∙ ap not p
both_or_left sync b c p q = q ∙ ap not p

pub all_groups : (ts t1 t2 us : List Tree) (x : FirstFlag) (o : Start) (b c : Bool) (m n : ℕ) (items left others right both m1 m2 m3 all : List Summand) → Extends ts t1 → Extends t1 t2 → Extends t2 us → All (IsSummandIn ts) (map plain_summand items)
    → left ≡ take m items → others ≡ drop m items → right ≡ take n others → both ≡ drop n others → b ≡ left_may o → c ≡ not b
    → AllZip (IsStartedSummand ts t1 x b) (map plain_summand left) (map plain_summand m1) → AllZip (IsStartedSummand t1 t2 x false) (map plain_summand right) (map plain_summand m2) → AllZip (IsStartedSummand t2 us x c) (map plain_summand both) (map plain_summand m3)
    → all ≡ (m1 ++ m2) ++ m3 → AreStarted ts us x o m n (map plain_summand items) (map plain_summand all)
all_groups ts t1 t2 us x o b c m n items left others right both m1 m2 m3 all e f d h l r rr bb lb cb z1 z2 z3 a =
    let in_others = back_in ts items others m r h in
    let in_right = front_in ts others right n rr in_others in
    let in_both = back_in ts others both n bb in_others in
    let the_others : map plain_summand others ≡ drop m (map plain_summand items) = ap (map plain_summand) r ∙ drop_plain m items in
    record {
      lefts = map plain_summand m1;
      rights = map plain_summand m2;
      boths = map plain_summand m3;
      are = ap (map plain_summand) a ∙ map-append plain_summand (m1 ++ m2) m3 ∙ ap (λ z. z ++ map plain_summand m3) (map-append plain_summand m1 m2);
      left_alone = subst (λ y. AllZip (IsStartedSummand ts us x y) (take m (map plain_summand items)) (map plain_summand m1)) lb
          (subst (λ ss. AllZip (IsStartedSummand ts us x b) ss (map plain_summand m1)) (ap (map plain_summand) l ∙ take_plain m items)
          (group_later ts t1 us x b (map plain_summand left) (map plain_summand m1) (extends_on t1 t2 us f d) z1));
      right_alone = subst (λ ss. AllZip (IsStartedSummand ts us x false) ss (map plain_summand m2)) (ap (map plain_summand) rr ∙ take_plain n others ∙ ap (take n) the_others)
          (group_since ts t1 us x false e (map plain_summand right) (map plain_summand m2) in_right
          (group_later t1 t2 us x false (map plain_summand right) (map plain_summand m2) d z2));
      at_once = subst (λ y. AllZip (IsStartedSummand ts us x y) (drop n (drop m (map plain_summand items))) (map plain_summand m3)) (both_or_left o b c lb cb)
          (subst (λ ss. AllZip (IsStartedSummand ts us x c) ss (map plain_summand m3)) (ap (map plain_summand) bb ∙ drop_plain n others ∙ ap (drop n) the_others)
          (group_since ts t2 us x c (extends_on ts t1 t2 e f) (map plain_summand both) (map plain_summand m3) in_both z3));
    }

-- ---- counting
alone_last : (b : Bool) (ss : List PlainSummand) (s : PlainSummand) → alone_count b (ss ++ s ∷ []) ≡ alone_count b ss + times_alone b s.next
alone_last b [] s = let r : times_alone b s.next + 0 ≡ 0 + times_alone b s.next = omega arith in r
alone_last b (t ∷ ss) s = let r = alone_last b ss s in omega (arith, r)

pub alone_more : (b : Bool) (items : List Summand) (i : ℕ) (s : Summand) → i < length items → s ≡ get_or items i s → alone_count b (map plain_summand (take (i + 1) items)) ≡ alone_count b (map plain_summand (take i items)) + times_alone b (plain_summand s).next
alone_more b items i s l read =
    ap (λ z. alone_count b (map plain_summand z)) (take_more items i s l ∙ ap (λ y. take i items ++ y ∷ []) (sym read))
    ∙ ap (alone_count b) (map-append plain_summand (take i items) (s ∷ []))
    ∙ alone_last b (map plain_summand (take i items)) (plain_summand s)

pub times_few : (b : Bool) (n : Option (List TermId)) → times_alone b n ≤ 2
times_few true None = omega arith
times_few false None = omega arith
times_few b (Some ts) = omega arith

pub alone_few : (b : Bool) (ss : List PlainSummand) → alone_count b ss ≤ 2 * length ss
alone_few b [] = omega arith
alone_few b (s ∷ ss) = let p = times_few b s.next in let q = alone_few b ss in omega (arith, p, q)

pub alone_all : (b : Bool) (items : List Summand) (i : ℕ) → length items ≤ i → alone_count b (map plain_summand (take i items)) ≡ alone_count b (map plain_summand items)
alone_all b items i l = ap (λ z. alone_count b (map plain_summand z)) (take_all i items l)

-- ---- the new variable, in the terms of the call that makes it
pub first_made : (g h k : Sig) (name : NameId) (x : VarId) → IsFreshIn g (codes "first") name h → k ≡ with_variable h (record { name = name; sort = bool_sort }) → x.0 ≡ length h.variables → IsFirst g k x
first_made g h k name x f e n =
    subst (λ z. IsFirst g z x) (sym e)
    (subst (λ (y : VarId). IsFirst g (with_variable h (record { name = name; sort = bool_sort })) y) (ap (λ m. record { 0 = m }) (sym n)) (new_first f))

-- ---- what calls answer
pub if_ok : {T F : Type 0} (r : Result T F) (P Q : T → Type 0) → ((x : T) → P x → Q x) → IfOk r P → IfOk r Q
if_ok (Ok x) P Q f p = f x p
if_ok (Err x) P Q f p = tt

-- ---- as the pool grows on
pub all_started_later : (ts t1 us : List Tree) (x : FirstFlag) (o : Start) (m n : ℕ) (ss made : List PlainSummand) → Extends t1 us → AreStarted ts t1 x o m n ss made → AreStarted ts us x o m n ss made
all_started_later ts t1 us x o m n ss made e a = record {
  lefts = a.lefts;
  rights = a.rights;
  boths = a.boths;
  are = a.are;
  left_alone = group_later ts t1 us x (left_may o) (take m ss) a.lefts e a.left_alone;
  right_alone = group_later ts t1 us x false (take n (drop m ss)) a.rights e a.right_alone;
  at_once = group_later ts t1 us x (both_may o) (drop n (drop m ss)) a.boths e a.at_once;
}

-- from an older pool on
pub all_started_since : (ts t1 us : List Tree) (x : FirstFlag) (o : Start) (m n : ℕ) (ss made : List PlainSummand) → Extends ts t1 → All (IsSummandIn ts) ss → AreStarted t1 us x o m n ss made → AreStarted ts us x o m n ss made
all_started_since ts t1 us x o m n ss made e h a = record {
  lefts = a.lefts;
  rights = a.rights;
  boths = a.boths;
  are = a.are;
  left_alone = group_since ts t1 us x (left_may o) e (take m ss) a.lefts (taken_in (IsSummandIn ts) m ss h) a.left_alone;
  right_alone = group_since ts t1 us x false e (take n (drop m ss)) a.rights (taken_in (IsSummandIn ts) n (drop m ss) (dropped_in (IsSummandIn ts) m ss h)) a.right_alone;
  at_once = group_since ts t1 us x (both_may o) e (drop n (drop m ss)) a.boths (dropped_in (IsSummandIn ts) n (drop m ss) (dropped_in (IsSummandIn ts) m ss h)) a.at_once;
}

-- the product with the parameter: its terms were made first, then the summands, and last `true`
pub with_flag_made : (ts t1 t2 us : List Tree) (x : FirstFlag) (f : VarId) (o : Start) (m n : ℕ) (k made : PlainLinear) (first : TermId) → Extends ts t1 → Extends t1 t2 → Extends t2 us → All (IsSummandIn ts) k.summands → x.var ≡ f → HasFlagTerms t1 x → made.params ≡ k.params ++ f ∷ []
    → made.init ≡ k.init ++ first ∷ [] → IsIn us first → tree_at us first ≡ true_tree → AreStarted t1 t2 x o m n k.summands made.summands → IsStarted ts us f o m n k made
with_flag_made ts t1 t2 us x f o m n k made first e d g within is terms params init first_in first_is a = record {
  flag = x;
  is_flag = is;
  terms = flag_terms_kept t1 us x (extends_on t1 t2 us d g) terms;
  params = params;
  first = first;
  first_in = first_in;
  first_is = first_is;
  init = init;
  summands = all_started_since ts t1 us x o m n k.summands made.summands e within (all_started_later t1 t2 us x o m n k.summands made.summands g a);
}
