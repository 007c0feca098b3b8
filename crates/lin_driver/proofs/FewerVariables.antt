-- An elimination leaves some of the variables. Their names tell them apart as before.
use Rattle.std.proofs.Common.{◌≡◌, ◌⊎◌, inl, inr, ⊎_elim, ℕ, List, [], ◌∷◌, map, Bool, true, false, cond, refl, ap, sym, ◌∙◌, subst}
use Rattle.std.specs.List.{All, AllZip, Contains}
use Rattle.std.proofs.lemmas.List.Elements.{All-nil, All-cons, All-head, All-tail, All-weaker}
use Rattle.data_theory.specs.declared.ids.NameId.{NameId}
use Rattle.data_theory.specs.declared.ids.VarId.{VarId}
use Rattle.data_theory.specs.Environments.{Environment, AreDistinct}
use Rattle.data_theory.specs.Signature.{Sig}
use Rattle.data_theory.specs.Terms.{Term}
use Rattle.data_theory.specs.IdTrees.{Tree}
use Rattle.process_terms.specs.Meanings.{Entries, bound_at}
use Rattle.process_terms.specs.Processes.{Bound}
use Rattle.process_terms.specs.SignatureEntries.{entries_of}
use Rattle.bisim_laws.specs.LinearProcesses.{Summand, Linear}
use Rattle.bisim_laws.specs.BaseStates.{Fate, kept, constant, not_needed}
use Rattle.lps_core.specs.Naming.{name_of, names_of, function_names, IsUsed, HasOwnNames, HaveOwnNames}
use Rattle.lps_core.specs.PlainLinears.{PlainSummand, PlainLinear, summand_of, linear_of}
use Rattle.lps_parelm.specs.Keeping.{keep, kept_summand, kept_linear}
use Rattle.lps_parelm.specs.Needed.{IsWithoutTheUnneeded}
use Rattle.lps_constelm.specs.Constants.{put_summand, putting, without_constants}
use Rattle.lps_constelm.specs.Eliminating.{Eliminates, simplified as first_round, one_more}
use Rattle.lps_constelm.specs.Simplified as simplified
use Rattle.lps_constelm.specs.Simplified.{Becomes}
use Rattle.lps_sumelm.specs.Solutions.{is_among}
use Rattle.lps_sumelm.specs.Solving.{without, used, solve, summand_variables, IsSolvedFrom, nothing_to_solve, one_solved, IsSolvedSummand}
use Rattle.lps_printer.specs.FittingLinears.{HasIdentifier, VariablesHaveOwnNames, NamesAreIdentifiers}
use Rattle.lin_driver.proofs.SomeOf.{AreSomeOf, some_later, all_of, some_of_some, some_in, some_all, some_distinct, some_mapped, some_back, some_tested, some_left}

-- ---- linear processes
abbrev HasFewerSums : Summand → Summand → Type 0
HasFewerSums s t = AreSomeOf t.sums s.sums

pub record HasFewerVariables (l k : Linear) : Type 0 where
  pub params : AreSomeOf k.params l.params
  pub summands : AllZip (λ (s t : Summand). AreSomeOf t.sums s.sums) l.summands k.summands

zip_weaker : {A B : Type 0} (Q R : A → B → Type 0) → ((x : A) (y : B) → Q x y → R x y) → (xs : List A) (ys : List B) → AllZip Q xs ys → AllZip R xs ys
zip_weaker Q R w [] [] h = tt
zip_weaker Q R w [] (y ∷ ys) h = absurd h
zip_weaker Q R w (x ∷ xs) [] h = absurd h
zip_weaker Q R w (x ∷ xs) (y ∷ ys) h = (w x y h.0, zip_weaker Q R w xs ys h.1)

fewer_sums_then : (ss ts us : List Summand) → AllZip HasFewerSums ss ts → AllZip HasFewerSums ts us → AllZip HasFewerSums ss us
fewer_sums_then [] [] [] h k = tt
fewer_sums_then [] [] (u ∷ us) h k = absurd k
fewer_sums_then [] (t ∷ ts) us h k = absurd h
fewer_sums_then (s ∷ ss) [] us h k = absurd h
fewer_sums_then (s ∷ ss) (t ∷ ts) [] h k = absurd k
fewer_sums_then (s ∷ ss) (t ∷ ts) (u ∷ us) h k = (some_of_some u.sums t.sums s.sums k.0 h.0, fewer_sums_then ss ts us h.1 k.1)

pub fewer_then : (l m k : Linear) → HasFewerVariables l m → HasFewerVariables m k → HasFewerVariables l k
fewer_then l m k a b = record { params = some_of_some k.params m.params l.params b.params a.params; summands = fewer_sums_then l.summands m.summands k.summands a.summands b.summands }

-- ---- what is kept
pub keep_some : {A : Type 0} (fates : List Fate) (xs : List A) → AreSomeOf (keep fates xs) xs
keep_some [] xs = tt
keep_some (f ∷ fates) [] = tt
keep_some (kept ∷ fates) (x ∷ xs) = inl (refl, keep_some fates xs)
keep_some (constant t ∷ fates) (x ∷ xs) = some_later (keep fates xs) x xs (keep_some fates xs)
keep_some (not_needed ∷ fates) (x ∷ xs) = some_later (keep fates xs) x xs (keep_some fates xs)

kept_sums : (e : Entries) (fates : List Fate) (ss : List PlainSummand) → AllZip HasFewerSums (map (summand_of e) ss) (map (summand_of e) (map (kept_summand fates) ss))
kept_sums e fates [] = tt
kept_sums e fates (s ∷ ss) = (all_of (map (bound_at e) s.sums), kept_sums e fates ss)

kept_fewer : (e : Entries) (fates : List Fate) (l : PlainLinear) → HasFewerVariables (linear_of e l) (linear_of e (kept_linear fates l))
kept_fewer e fates l = record { params = some_mapped (bound_at e) (keep fates l.params) l.params (keep_some fates l.params); summands = kept_sums e fates l.summands }

pub unneeded_fewer : (g : Sig) (ts : List Tree) (l k : PlainLinear) → IsWithoutTheUnneeded g ts l k → HasFewerVariables (linear_of (entries_of g ts) l) (linear_of (entries_of g ts) k)
unneeded_fewer g ts l k h = subst (λ (z : PlainLinear). HasFewerVariables (linear_of (entries_of g ts) l) (linear_of (entries_of g ts) z)) (sym h.is) (kept_fewer (entries_of g ts) h.fates l)

-- ---- constants that were put in
becomes_fewer : {R : Term → Term → Type 0} {l k : Linear} {init first : List Term} → Becomes R l init k first → HasFewerVariables l k
becomes_fewer {R} {l} {k} h = record {
  params = subst (λ (xs : List Bound). AreSomeOf xs l.params) (sym h.params) (all_of l.params);
  summands = zip_weaker (simplified.SummandBecomes R) HasFewerSums (λ s t b. subst (λ (xs : List Bound). AreSomeOf xs s.sums) (sym b.sums) (all_of s.sums)) l.summands k.summands h.summands;
}

put_sums : (r : Environment) (fates : List Fate) (ss : List Summand) → AllZip HasFewerSums ss (map (put_summand r fates) ss)
put_sums r fates [] = tt
put_sums r fates (s ∷ ss) = (all_of s.sums, put_sums r fates ss)

without_fewer : (set : List Fate) (l : Linear) → HasFewerVariables l (without_constants set l)
without_fewer set l = record { params = keep_some set l.params; summands = put_sums (putting set l) set l.summands }

pub eliminated_fewer : {R : Term → Term → Type 0} {l : Linear} {init : List Term} {k : Linear} {first : List Term} {fates : List Fate} → Eliminates R l init k first fates → HasFewerVariables l k
eliminated_fewer (first_round b) = becomes_fewer b
eliminated_fewer {l = l} (one_more {m = m} {k = k} set h greatest some b) = fewer_then l m k (eliminated_fewer h) (fewer_then m (without_constants set m) k (without_fewer set m) (becomes_fewer b))

-- ---- sums that were solved
without_some : (v : ℕ) (xs : List Bound) → AreSomeOf (without v xs) xs
without_some v [] = tt
without_some v (x ∷ xs) = some_left _ x (without v xs) xs (without_some v xs)

used_some : (vs : List ℕ) (xs : List Bound) → AreSomeOf (used vs xs) xs
used_some vs [] = tt
used_some vs (x ∷ xs) = some_tested (is_among x.var vs) x (used vs xs) xs (used_some vs xs)

solved_from_some : {To : Term → Term → Type 0} {s t : Summand} → IsSolvedFrom To s t → HasFewerSums s t
solved_from_some (nothing_to_solve {s = s} h) = used_some (summand_variables s) s.sums
solved_from_some (one_solved {s = s} {t = t} {u = u} {b = b} {rest = rest} f becomes h) =
    some_of_some u.sums t.sums s.sums (solved_from_some h) (subst (λ (xs : List Bound). AreSomeOf xs s.sums) (sym becomes.sums) (without_some b.var s.sums))

solved_some : {To : Term → Term → Type 0} (s t : Summand) → IsSolvedSummand To s t → HasFewerSums s t
solved_some s t h = subst (λ (xs : List Bound). AreSomeOf t.sums xs) h.becomes.sums (solved_from_some h.solved)

pub solved_fewer : (To : Term → Term → Type 0) (l k : Linear) → k.params ≡ l.params → AllZip (IsSolvedSummand To) l.summands k.summands → HasFewerVariables l k
solved_fewer To l k params summands = record {
  params = subst (λ (xs : List Bound). AreSomeOf xs l.params) (sym params) (all_of l.params);
  summands = zip_weaker (IsSolvedSummand To) HasFewerSums (λ s t h. solved_some s t h) l.summands k.summands summands;
}

-- ---- names
module _ (g : Sig) (ts : List Tree) (l k : PlainLinear) (fewer : HasFewerVariables (linear_of (entries_of g ts) l) (linear_of (entries_of g ts) k)) where
  bounds_apart : (x y : VarId) → bound_at (entries_of g ts) x ≡ bound_at (entries_of g ts) y → x ≡ y
  bounds_apart x y h = ap (λ (b : Bound). record { 0 = b.var }) h

  variables_back : (xs ys : List VarId) → AreSomeOf (map (bound_at (entries_of g ts)) xs) (map (bound_at (entries_of g ts)) ys) → AreSomeOf xs ys
  variables_back xs ys h = some_back (bound_at (entries_of g ts)) bounds_apart xs ys h

  params_some : AreSomeOf k.params l.params
  params_some = variables_back k.params l.params fewer.params

  names_distinct : (xs ys : List VarId) → AreSomeOf xs ys → AreDistinct (map (λ (n : NameId). n.0) (names_of g ys)) → AreDistinct (map (λ (n : NameId). n.0) (names_of g xs))
  names_distinct xs ys h d =
      some_distinct (map (λ (n : NameId). n.0) (names_of g xs)) (map (λ (n : NameId). n.0) (names_of g ys)) (some_mapped (λ (n : NameId). n.0) (names_of g xs) (names_of g ys) (some_mapped (name_of g) xs ys h)) d

  used_before : (n : NameId) → IsUsed g k.params n → IsUsed g l.params n
  used_before n h = ⊎_elim (λ i. inl (some_in (names_of g k.params) (names_of g l.params) (some_mapped (name_of g) k.params l.params params_some) n i)) (λ i. inr i) h

  own_names : (s t : PlainSummand) → AreSomeOf t.sums s.sums → HasOwnNames g l.params s → HasOwnNames g k.params t
  own_names s t h own = (
    All-weaker (λ (x : VarId). ¬ (IsUsed g l.params (name_of g x))) (λ (x : VarId). ¬ (IsUsed g k.params (name_of g x))) (λ x f u. f (used_before (name_of g x) u)) t.sums
        (some_all (λ (x : VarId). ¬ (IsUsed g l.params (name_of g x))) t.sums s.sums h own.0),
    names_distinct t.sums s.sums h own.1,
  )

  all_own_names : (ss us : List PlainSummand) → AllZip HasFewerSums (map (summand_of (entries_of g ts)) ss) (map (summand_of (entries_of g ts)) us) → All (HasOwnNames g l.params) ss → All (HasOwnNames g k.params) us
  all_own_names [] [] h own = All-nil (HasOwnNames g k.params)
  all_own_names [] (u ∷ us) h own = absurd h
  all_own_names (s ∷ ss) [] h own = absurd h
  all_own_names (s ∷ ss) (u ∷ us) h own =
      All-cons (HasOwnNames g k.params) u us (own_names s u (variables_back u.sums s.sums h.0) (All-head (HasOwnNames g l.params) s ss own)) (all_own_names ss us h.1 (All-tail (HasOwnNames g l.params) s ss own))

  pub fewer_have_own_names : VariablesHaveOwnNames g l → VariablesHaveOwnNames g k
  fewer_have_own_names own = record {
    differ = names_distinct k.params l.params params_some own.differ;
    unused = some_all (λ (x : VarId). ¬ (Contains (function_names g) (name_of g x))) k.params l.params params_some own.unused;
    sums = all_own_names l.summands k.summands fewer.summands own.sums;
  }

  all_identifiers : (ss us : List PlainSummand) → AllZip HasFewerSums (map (summand_of (entries_of g ts)) ss) (map (summand_of (entries_of g ts)) us) → All (λ (s : PlainSummand). All (HasIdentifier g) s.sums) ss
      → All (λ (s : PlainSummand). All (HasIdentifier g) s.sums) us
  all_identifiers [] [] h named = All-nil (λ (s : PlainSummand). All (HasIdentifier g) s.sums)
  all_identifiers [] (u ∷ us) h named = absurd h
  all_identifiers (s ∷ ss) [] h named = absurd h
  all_identifiers (s ∷ ss) (u ∷ us) h named =
      let P = λ (z : PlainSummand). All (HasIdentifier g) z.sums in
      All-cons P u us (some_all (HasIdentifier g) u.sums s.sums (variables_back u.sums s.sums h.0) (All-head P s ss named)) (all_identifiers ss us h.1 (All-tail P s ss named))

  pub fewer_have_identifiers : NamesAreIdentifiers g l → NamesAreIdentifiers g k
  fewer_have_identifiers named = record {
    params = some_all (HasIdentifier g) k.params l.params params_some named.params;
    sums = all_identifiers l.summands k.summands fewer.summands named.sums;
    functions = named.functions;
    sorts = named.sorts;
    actions = named.actions;
  }
