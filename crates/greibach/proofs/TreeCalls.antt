-- Calls with the trees that they are wanted with.
use Rattle.std.proofs.Common.{◌≡◌, ◌<◌, ℕ, List, [], ◌∷◌, Vec, None, Some, Option, map, length, get_or, refl, sym, ap, ap₂, ◌∙◌, subst}
use Rattle.std.proofs.lemmas.List.{length-map}
use Rattle.std.specs.Global.{Global}
use Rattle.std.specs.List.{All, Contains}
use Rattle.std.specs.Prelude.{IfOk, Result, Ok, Err}
use Rattle.std.proofs.lemmas.List.Elements.{All-cons, All-weaker, All-contains}
use Rattle.data_theory.specs.declared.ids.VarId.{VarId}
use Rattle.data_theory.specs.declared.ids.TermId.{TermId}
use Rattle.data_theory.specs.IdTrees.{Tree, put_tree}
use Rattle.term_pool.specs.HeadTrees.{trees_at, IsIn, AreIn}
use Rattle.term_pool.specs.Pools.{Extends}
use Rattle.term_pool.specs.Bindings.{listed, listed_terms}
use Rattle.lps_core.proofs.PoolTrees.{listed_kept}
use Rattle.greibach.specs.declared.places.Part.{Part}
use Rattle.greibach.specs.declared.places.Part.TheVariants as parts
use Rattle.greibach.specs.declared.places.Place.{Place}
use Rattle.greibach.specs.declared.places.Entry.{Entry}
use Rattle.greibach.specs.declared.places.Places.{Places}
use Rattle.greibach.specs.MeetingOrder.{IsNumberOf, Meets, none_met}
use Rattle.greibach.specs.PlacesInCode.{plain_calls}
use Rattle.greibach.specs.OnwardCalls.{no_place, part_at, entry_place, params_of_place, rest_trees, kept_trees, first_trees, onward_trees, AreTreeCalls, HasArgumentsIn, HasArgumentsAmong}
use Rattle.greibach.specs.PlacesInCode.{PlainPlace, PlainEntry, PlainPlaces, plain_part, plain_place, plain_entry, plain_places}
use Rattle.greibach.proofs.NumberedOneByOne.{meets_then, number_stays}
use Rattle.greibach.proofs.TablesOfPlaces.{mapped_there}

pub no_rest_calls : (t : PlainPlaces) (by : List (VarId × TermId)) (met : List ℕ) (ts : List Tree) → AreTreeCalls ts (rest_trees t ts by None) met met []
no_rest_calls t by met ts = record { calls_are = tt; met = none_met }

pub no_calls : (t : PlainPlaces) (by : List (VarId × TermId)) (rest : Option ℕ) (met : List ℕ) (calls : List (ℕ × Vec TermId Global)) → rest ≡ None → calls ≡ [] → (ts : List Tree) → AreTreeCalls ts (rest_trees t ts by rest) met met (plain_calls calls)
no_calls t by rest met calls n e ts =
    subst (λ r. AreTreeCalls ts (rest_trees t ts by r) met met (plain_calls calls)) (sym n) (subst (λ cs. AreTreeCalls ts (rest_trees t ts by None) met met (plain_calls cs)) (sym e) (no_rest_calls t by met ts))

pub one_rest_call : (t : PlainPlaces) (by : List (VarId × TermId)) (n : ℕ) (old new : List ℕ) (c : ℕ × Vec TermId Global) (calls : List (ℕ × Vec TermId Global)) → Meets old (n ∷ []) new → IsNumberOf new n c.0
    → ((ts : List Tree) → trees_at ts c.1.items ≡ map (listed ts by) (params_of_place t n)) → calls ≡ c ∷ [] → (ts : List Tree) → AreTreeCalls ts (rest_trees t ts by (Some n)) old new (plain_calls calls)
one_rest_call t by n old new c calls m k a e ts = subst (λ cs. AreTreeCalls ts (rest_trees t ts by (Some n)) old new (plain_calls cs)) (sym e) (record { calls_are = (record { number = k; args = a ts }, tt); met = m })

pub rest_there : (t : Places) (n : ℕ) → n < length (plain_places t).places → n < length t.places.items
rest_there t n l = subst (λ k. n < k) (length-map t.places.items plain_place) l

-- ---- as the pool grows
pub map_along : {A B : Type 0} (f h : A → B) → ((x : A) → f x ≡ h x) → (xs : List A) → map f xs ≡ map h xs
map_along f h w [] = refl
map_along f h w (x ∷ xs) = ap₂ (λ y ys. y ∷ ys) (w x) (map_along f h w xs)

pub rest_kept : (ts us : List Tree) (t : PlainPlaces) (by : List (VarId × TermId)) → Extends ts us → AreIn ts (listed_terms by) → (rest : Option ℕ) → rest_trees t ts by rest ≡ rest_trees t us by rest
rest_kept ts us t by e own None = refl
rest_kept ts us t by e own (Some n) = ap (λ l. (n, l) ∷ []) (map_along (listed ts by) (listed us by) (λ x. sym (listed_kept ts us by e own x)) (params_of_place t n))

-- ---- a call that is kept
pub kept_are : (t : PlainPlaces) (ts us : List Tree) (by : List (VarId × TermId)) (k : ℕ) (ids : List TermId) (rest : Option ℕ) (old mid new : List ℕ) (place number : ℕ) (args : Vec TermId Global) (behind all : List (ℕ × Vec TermId Global)) → Extends ts us → AreIn ts (listed_terms by) → entry_place t k ≡ place → Meets old (place ∷ []) mid
    → IsNumberOf mid place number → trees_at us args.items ≡ map (put_tree (listed ts by)) (trees_at ts ids) → AreTreeCalls us (rest_trees t us by rest) mid new (plain_calls behind) → all ≡ (number, args) ∷ behind → AreTreeCalls us (kept_trees t ts by k ids rest) old new (plain_calls all)
kept_are t ts us by k ids rest old mid new place number args behind all e own at met is trees calls a =
    let w : List (ℕ × List Tree) = (place, map (put_tree (listed ts by)) (trees_at ts ids)) ∷ rest_trees t us by rest in
    subst (λ z. AreTreeCalls us (kept_trees t ts by k ids rest) old new (plain_calls z)) (sym a)
    (subst (λ n. AreTreeCalls us ((n, map (put_tree (listed ts by)) (trees_at ts ids)) ∷ rest_trees t ts by rest) old new (plain_calls ((number, args) ∷ behind))) (sym at)
    (subst (λ z. AreTreeCalls us ((place, map (put_tree (listed ts by)) (trees_at ts ids)) ∷ z) old new (plain_calls ((number, args) ∷ behind))) (sym (rest_kept ts us t by e own rest))
    (record { calls_are = (record { number = number_stays calls.met place number is; args = trees }, calls.calls_are); met = meets_then met calls.met })))

pub among_in : (us : List Tree) (ids : List TermId) (cs : List (ℕ × List TermId)) → AreIn us ids → All (HasArgumentsAmong ids) cs → All (HasArgumentsIn us) cs
among_in us ids cs k w = All-weaker (HasArgumentsAmong ids) (HasArgumentsIn us) (λ c h. All-weaker (Contains ids) (IsIn us) (λ id i. All-contains (IsIn us) ids id k i) c.1 h) cs w

-- a call in code has arguments of the pool
pub kept_in : (us : List Tree) (number : ℕ) (args : Vec TermId Global) (behind all : List (ℕ × Vec TermId Global)) (ids : List TermId) → AreIn us args.items → AreIn us ids → All (HasArgumentsAmong ids) (plain_calls behind) → all ≡ (number, args) ∷ behind → All (HasArgumentsIn us) (plain_calls all)
kept_in us number args behind all ids h k w e =
    subst (λ z. All (HasArgumentsIn us) (plain_calls z)) (sym e)
    (All-cons (HasArgumentsIn us) (number, args.items) (plain_calls behind) h (among_in us ids (plain_calls behind) k w))

-- ---- where it isn't a call
first_else : (t : PlainPlaces) (ts : List Tree) (by : List (VarId × TermId)) (n : ℕ) (p : Part) → ((k : _) (ids : _) → p ≡ parts.Call k ids → ⊥) → first_trees t ts by n (plain_part p) ≡ rest_trees t ts by (Some n)
first_else t ts by n parts.Delta w = refl
first_else t ts by n (parts.Act label) w = refl
first_else t ts by n (parts.Choice operands) w = refl
first_else t ts by n (parts.Cond c i j) w = refl
first_else t ts by n (parts.Sum x i) w = refl
first_else t ts by n (parts.Call k ids) w = absurd (w k ids refl)
first_else t ts by n (parts.Whole i) w = refl

pub first_ok : {E : Type 0} (r : Result (Vec (ℕ × Vec TermId Global) Global) E) (t : PlainPlaces) (ts : List Tree) (by : List (VarId × TermId)) (n : ℕ) (old new : List ℕ) (p : Part) → part_at t n ≡ plain_part p → ((k : _) (ids : _) → p ≡ parts.Call k ids → ⊥)
    → IfOk r (λ cs. (vs : List Tree) → AreTreeCalls vs (rest_trees t vs by (Some n)) old new (plain_calls cs.items)) → IfOk r (λ cs. AreTreeCalls ts (first_trees t ts by n (part_at t n)) old new (plain_calls cs.items))
first_ok (Err e) t ts by n old new p at w h = tt
first_ok (Ok cs) t ts by n old new p at w h = subst (λ z. AreTreeCalls ts z old new (plain_calls cs.items)) (sym (ap (first_trees t ts by n) at ∙ first_else t ts by n p w)) (h ts)

pub within_ok : {E : Type 0} (r : Result (Vec (ℕ × Vec TermId Global) Global) E) (us : List Tree) (ids : List TermId) → AreIn us ids → IfOk r (λ cs. All (HasArgumentsAmong ids) (plain_calls cs.items)) → IfOk r (λ cs. All (HasArgumentsIn us) (plain_calls cs.items))
within_ok (Err e) us ids k h = tt
within_ok (Ok cs) us ids k h = among_in us ids (plain_calls cs.items) k h

pub none_onward : (t : PlainPlaces) (ts : List Tree) (by : List (VarId × TermId)) (rest : Option ℕ) (met : List ℕ) (calls : List (ℕ × Vec TermId Global)) → rest ≡ None → calls ≡ [] → AreTreeCalls ts (onward_trees t ts by rest) met met (plain_calls calls)
none_onward t ts by rest met calls n e =
    subst (λ r. AreTreeCalls ts (onward_trees t ts by r) met met (plain_calls calls)) (sym n) (subst (λ cs. AreTreeCalls ts [] met met (plain_calls cs)) (sym e) (record { calls_are = tt; met = none_met }))

pub part_there : (t : Places) (n : ℕ) (p : Place) → n < length (plain_places t).places → p ≡ get_or t.places.items n p → part_at (plain_places t) n ≡ plain_part p.part
part_there t n p l e = ap (λ (z : PlainPlace). z.part) (mapped_there plain_place t.places.items n p no_place (subst (λ k. n < k) (length-map t.places.items plain_place) l)) ∙ ap (λ (z : Place). plain_part z.part) (sym e)

pub entry_there : (t : Places) (k : ℕ) (e : Entry) → k < length (plain_places t).entries → e ≡ get_or t.entries.items k e → entry_place (plain_places t) k ≡ e.place
entry_there t k e l is = ap (λ (z : PlainEntry). z.place) (mapped_there plain_entry t.entries.items k e _ (subst (λ n. k < n) (length-map t.entries.items plain_entry) l)) ∙ ap (λ (z : Entry). z.place) (sym is)
