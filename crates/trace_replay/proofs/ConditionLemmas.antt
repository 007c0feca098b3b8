-- Conditions that are decided one after the other.
use Rattle.std.specs.Prelude.{◌≡◌, ◌<◌, ◌+◌, ◌++◌, ◌⊎◌, ℕ, Bool, true, false, cond, List, [], ◌∷◌, map, length, take, get_or}
use Rattle.std.proofs.Common.{refl, sym, subst, ap, ◌∙◌, inl, inr}
use Rattle.std.specs.List.{All, AllByRecursion, Contains}
use Rattle.std.proofs.lemmas.List.{map-append, take_more}
use Rattle.std.proofs.lemmas.List.Elements.{All-get_or, Contains-append_left, Contains-append_right, Contains-get_or}
use Rattle.bisim_laws.proofs.Firing.{contains_first}
use Rattle.data_theory.specs.declared.ids.VarId.{VarId}
use Rattle.data_theory.specs.declared.ids.TermId.{TermId}
use Rattle.data_theory.specs.Environments.{term_in}
use Rattle.data_theory.specs.IdData.{data_meant}
use Rattle.data_theory.specs.IdTrees.{Tree}
use Rattle.data_theory.specs.Provable.{Equation}
use Rattle.data_theory.specs.Rewriting.{IsDecided, Decision, yes_decided, no_decided}
use Rattle.data_theory.specs.Signature.{Sig}
use Rattle.data_theory.specs.Terms.{Term, put}
use Rattle.term_pool.specs.Bindings.{listed_terms}
use Rattle.term_pool.specs.Pools.{Extends}
use Rattle.data_rewriter.specs.Standing.{IsTerm, term_at}
use Rattle.data_rewriter.proofs.Standings.{term_kept}
use Rattle.lps_core.proofs.Members.{map_contains}
use Rattle.lps_simulator.specs.Rewritten.{environment_of}
use Rattle.lps_simulator.proofs.Bindings.{environment_kept}
use Rattle.trace_replay.specs.Decidings.{Decides, IsOpen, ComeOut, hold, fail, stay_open, all_hold, one_fails, one_is_open}
use Rattle.trace_replay.specs.DecidedConditions.{conditions_with, setting}
use Rattle.trace_replay.specs.Settings.{Setting}

-- none of them is decided No, and one isn't decided, or all are Yes
abbrev pub HaveNoNo : Setting → List Term → Bool → Type 0
HaveNoNo s cs true = AllByRecursion (λ (d : Term). Decides s yes_decided d ⊎ IsOpen s d) cs × ((c : Term) × (Contains cs c × IsOpen s c))
HaveNoNo s cs false = AllByRecursion (Decides s yes_decided) cs

all_behind : {A : Type 0} (P : A → Type 0) (xs : List A) (y : A) → AllByRecursion P xs → P y → AllByRecursion P (xs ++ y ∷ [])
all_behind P [] y h k = (k, tt)
all_behind P (x ∷ xs) y h k = (h.0, all_behind P xs y h.1 k)

pub all_weaker : {A : Type 0} (P Q : A → Type 0) → ((x : A) → P x → Q x) → (xs : List A) → AllByRecursion P xs → AllByRecursion Q xs
all_weaker P Q f [] h = tt
all_weaker P Q f (x ∷ xs) h = (f x h.0, all_weaker P Q f xs h.1)

yes_more : (s : Setting) (cs : List Term) (c : Term) (unsure : Bool) → HaveNoNo s cs unsure → Decides s yes_decided c → HaveNoNo s (cs ++ c ∷ []) unsure
yes_more s cs c true h d = (all_behind (λ (d : Term). Decides s yes_decided d ⊎ IsOpen s d) cs c h.0 (inl d), (h.1.0, (Contains-append_left cs (c ∷ []) h.1.0 h.1.1.0, h.1.1.1)))
yes_more s cs c false h d = all_behind (Decides s yes_decided) cs c h d

open_more : (s : Setting) (cs : List Term) (c : Term) (unsure : Bool) → HaveNoNo s cs unsure → IsOpen s c → HaveNoNo s (cs ++ c ∷ []) true
open_more s cs c true h d = (
  all_behind (λ (d : Term). Decides s yes_decided d ⊎ IsOpen s d) cs c h.0 (inr d),
  (c, (Contains-append_right cs (c ∷ []) c (contains_first c []), d)),
)
open_more s cs c false h d = (
  all_behind (λ (d : Term). Decides s yes_decided d ⊎ IsOpen s d) cs c (all_weaker (Decides s yes_decided) (λ (d : Term). Decides s yes_decided d ⊎ IsOpen s d) (λ x k. inl k) cs h) (inr d),
  (c, (Contains-append_right cs (c ∷ []) c (contains_first c []), d)),
)

pub without_no_come_out : (s : Setting) (cs : List Term) (unsure : Bool) → HaveNoNo s cs unsure → ComeOut s cs (cond unsure stay_open hold)
without_no_come_out s cs true h = one_is_open h.0 h.1.1.0 h.1.1.1
without_no_come_out s cs false h = all_hold h

-- ---- in code
module _ (g : Sig) (ts us : List Tree) (by : List (VarId × TermId)) (grows : Extends ts us) (listed : All (IsTerm g ts) (listed_terms by)) (conditions : List TermId) (over : All (IsTerm g ts) conditions) (i : ℕ) (d : TermId) (inside : i < length conditions) where
  abbrev this_one : TermId
  this_one = get_or conditions i d

  abbrev meant : TermId → Term
  meant c = put (term_in (environment_of g ts by)) (term_at g ts c)

  -- the condition as it is over the first pool
  pub decided_first : (own : List Equation) (fuel : ℕ) (a : Decision) (c : TermId) → c ≡ this_one → IsDecided (data_meant g) own fuel (put (term_in (environment_of g us by)) (term_at g us c)) a → IsDecided (data_meant g) own fuel (meant this_one) a
  decided_first own fuel a c is h =
      subst (λ z. IsDecided (data_meant g) own fuel (put (term_in (environment_of g ts by)) z) a) (term_kept g ts us this_one grows (All-get_or (IsTerm g ts) conditions i d inside over).inside)
      (subst (λ e. IsDecided (data_meant g) own fuel (put (term_in e) (term_at g us this_one)) a) (environment_kept g ts us by grows listed)
      (subst (λ z. IsDecided (data_meant g) own fuel (put (term_in (environment_of g us by)) (term_at g us z)) a) is h))

  taken_more : conditions_with g ts by (take i conditions) ++ meant this_one ∷ [] ≡ conditions_with g ts by (take (i + 1) conditions)
  taken_more =
      sym (map-append (put (term_in (environment_of g ts by))) (map (term_at g ts) (take i conditions)) (term_at g ts this_one ∷ []))
      ∙ ap (map (put (term_in (environment_of g ts by)))) (sym (map-append (term_at g ts) (take i conditions) (this_one ∷ [])))
      ∙ ap (conditions_with g ts by) (sym (take_more conditions i d inside))

  pub yes_turn : (own : List Equation) (fuel bound : ℕ) (unsure : Bool) → HaveNoNo (setting g own fuel bound) (conditions_with g ts by (take i conditions)) unsure → IsDecided (data_meant g) own fuel (meant this_one) yes_decided
      → HaveNoNo (setting g own fuel bound) (conditions_with g ts by (take (i + 1) conditions)) unsure
  yes_turn own fuel bound unsure h k = subst (λ z. HaveNoNo (setting g own fuel bound) z unsure) taken_more (yes_more (setting g own fuel bound) (conditions_with g ts by (take i conditions)) (meant this_one) unsure h k)

  pub open_turn : (own : List Equation) (fuel bound : ℕ) (unsure : Bool) → HaveNoNo (setting g own fuel bound) (conditions_with g ts by (take i conditions)) unsure → IsOpen (setting g own fuel bound) (meant this_one)
      → HaveNoNo (setting g own fuel bound) (conditions_with g ts by (take (i + 1) conditions)) true
  open_turn own fuel bound unsure h k = subst (λ z. HaveNoNo (setting g own fuel bound) z true) taken_more (open_more (setting g own fuel bound) (conditions_with g ts by (take i conditions)) (meant this_one) unsure h k)

  pub no_turn : (own : List Equation) (fuel bound : ℕ) → IsDecided (data_meant g) own fuel (meant this_one) no_decided → ComeOut (setting g own fuel bound) (conditions_with g ts by conditions) fail
  no_turn own fuel bound h =
      one_fails (map_contains (put (term_in (environment_of g ts by))) (map (term_at g ts) conditions) (term_at g ts this_one) (map_contains (term_at g ts) conditions this_one (Contains-get_or conditions i d inside))) h
