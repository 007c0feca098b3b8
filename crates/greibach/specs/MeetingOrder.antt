-- The equations of a form in the order in which they are met.
use Rattle.std.specs.Prelude.{◌≡◌, ◌≤◌, ◌-◌, ℕ, suc, List, [], ◌∷◌, ◌++◌, map, length, slice_get, Some, Bool, true, false, ◌&&◌, ◌==◌, if◌then◌else◌}
use Rattle.std.specs.List.{Contains}
use Rattle.data_theory.specs.Declarations.{Data, HaveSorts}
use Rattle.data_theory.specs.Terms.{Term}
use Rattle.data_theory.specs.Environments.{bound, terms_of}
use Rattle.data_theory.specs.Signature.{Sig}
use Rattle.data_theory.specs.IdData.{data_meant}
use Rattle.process_terms.specs.Theories.{Theory, AreOfSorts}
use Rattle.process_terms.specs.Processes.{call, close}
use Rattle.bisim_laws.specs.LinearProcesses.{variables, sorts}
use Rattle.bisim_laws.specs.Bisimulations.{Bisimulation}
use Rattle.bisim_laws.specs.Links.{Form, Pairs, IsGood}
use Rattle.lps_core.specs.GoingOn.{IsGoodOver}
use Rattle.greibach.specs.Forms.{form_table}
use Rattle.greibach.specs.Places.{Path, Place, Text, table_in}
use Rattle.greibach.specs.Unfolding.{PlaceCall, Head}
use Rattle.greibach.specs.UnfoldedForms.{UnfoldedEquation, form_with, pieces_in, IsUnfoldedEquation, HasDefinitions}

-- the places that a summand calls, from the left, and those that several call
abbrev pub places_of : Head → List Place
places_of h = map (λ (c : PlaceCall). c.place) h.next

abbrev pub places_called : List Head → List Place
places_called [] = []
places_called (h ∷ hs) = places_of h ++ places_called hs

-- places, or what stands for them, that are met behind others: each one that wasn't there comes last
pub data Meets {A : Type 0} : List A → List A → List A → Type 0 where
  none_met : {ks : List A} → Meets ks [] ks
  met_before : {ks ps ls : List A} {p : A} → Contains ks p → Meets ks ps ls → Meets ks (p ∷ ps) ls
  met_now : {ks ps ls : List A} {p : A} → (Contains ks p → ⊥) → Meets (ks ++ p ∷ []) ps ls → Meets ks (p ∷ ps) ls

-- Of the places ks those from number n on are read, one after another: each has its equation, whose calls are met. In the end
-- the places are `last`.
pub data Collects (g : Data) (t : Text) : List Place → ℕ → List UnfoldedEquation → List Place → Type 0 where
  all_collected : {ks : List Place} {n : ℕ} → n ≡ length ks → Collects g t ks n [] ks
  next_collected : {ks ls last : List Place} {n : ℕ} {form : List UnfoldedEquation} (q : UnfoldedEquation) → slice_get ks n ≡ Some q.place → IsUnfoldedEquation g t q
      → Meets ks (places_called q.heads) ls → Collects g t ls (suc n) form last → Collects g t ks n (q ∷ form) last

-- ---- what doesn't depend on the names and numbers of variables
-- the place of an equation, and for each summand the places that it calls
pub record Shape : Type 0 where
  pub place : Place
  pub next : List (List Place)

abbrev pub shape_of : UnfoldedEquation → Shape
shape_of q = record { place = q.place; next = map places_of q.heads }

-- two forms of one text from one start have one shape
abbrev pub FormsHaveOneShape : Type 0
FormsHaveOneShape =
    (g h : Data) (t u : Text) → t.definitions ≡ u.definitions → t.start ≡ u.start → (start : Place) (form other : List UnfoldedEquation) (last end : List Place)
    → Collects g t (start ∷ []) 0 form last → Collects h u (start ∷ []) 0 other end → map shape_of form ≡ map shape_of other

-- the places of a form are those that were met, and each call leads to one of them
abbrev pub CollectedIsMet : Type 0
CollectedIsMet =
    (g : Data) (t : Text) (start : Place) (form : List UnfoldedEquation) (last : List Place) → Collects g t (start ∷ []) 0 form last
    → (last ≡ map (λ q. q.place) form) × ((q : UnfoldedEquation) (h : Head) (c : PlaceCall) → Contains form q → Contains q.heads h → Contains h.next c → Contains last c.place)

-- ---- numbers of places
-- the place has this number, from 1
abbrev pub IsNumberOf : {A : Type 0} → List A → A → ℕ → Type 0
IsNumberOf ks p n = (1 ≤ n) × (slice_get ks (n - 1) ≡ Some p)

abbrev pub same_step : Bool → Bool → Bool
same_step true true = true
same_step false false = true
same_step _ _ = false

abbrev pub same_path : Path → Path → Bool
same_path [] [] = true
same_path [] (y ∷ ys) = false
same_path (x ∷ xs) [] = false
same_path (x ∷ xs) (y ∷ ys) = same_step x y && same_path xs ys

abbrev pub same_place : Place → Place → Bool
same_place p q = (p.owner == q.owner) && same_path p.path q.path

-- the number of a place among others, from 0
abbrev pub number_in : List Place → Place → ℕ
number_in [] p = 0
number_in (q ∷ qs) p = if same_place q p then 0 else suc (number_in qs p)

-- the form that is collected from a start, with the numbers of its places, is one whose pieces and calls answer each other
abbrev pub CollectedFormsAreGood : Type 0
CollectedFormsAreGood =
    (th : Theory) (t : Text) → HasDefinitions th.declared t → (start : Place) (form : List UnfoldedEquation) (last : List Place) → Collects th.declared t (start ∷ []) 0 form last
    → Bisimulation th (Pairs th (Form (table_in t) (pieces_in t form) (form_table (form_with (number_in last) form))))

-- and the link is good for the start, with arguments, and the call of equation 1 with these
abbrev pub CollectedFormsAreGoodFromTheStart : Type 0
CollectedFormsAreGoodFromTheStart =
    (th : Theory) (t : Text) → HasDefinitions th.declared t → (start : Place) (form : List UnfoldedEquation) (last : List Place) → Collects th.declared t (start ∷ []) 0 form last
    → (us : List Term) → AreOfSorts th (sorts (t.piece start).params) us
    → IsGood th (Form (table_in t) (pieces_in t form) (form_table (form_with (number_in last) form))) (close (table_in t) (bound (variables (t.piece start).params) us) (t.piece start).body) (call (form_table (form_with (number_in last) form)) 0 us)

-- also in each consistent theory whose data go on from those of a signature
abbrev pub CollectedFormsAreGoodOver : Type 0
CollectedFormsAreGoodOver =
    (g : Sig) (t : Text) → HasDefinitions (data_meant g) t → (start : Place) (form : List UnfoldedEquation) (last : List Place) → Collects (data_meant g) t (start ∷ []) 0 form last
    → (us : List Term) → HaveSorts (data_meant g) [] (terms_of us) (sorts (t.piece start).params)
    → IsGoodOver g (Form (table_in t) (pieces_in t form) (form_table (form_with (number_in last) form))) (close (table_in t) (bound (variables (t.piece start).params) us) (t.piece start).body) (call (form_table (form_with (number_in last) form)) 0 us)
