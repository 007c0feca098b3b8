-- A product can end where both sides can.
use Rattle.std.proofs.Common.{◌≡◌, ◌||◌, ◌&&◌, ℕ, Bool, true, false, List, [], ◌∷◌, ◌++◌, map, refl, sym, ap, ap₂, ◌∙◌, is_none, Option, Some, None}
use Rattle.std.specs.Prelude.{flat_map, option_map, is_some}
use Rattle.std.specs.List.{list_any}
use Rattle.data_theory.specs.Terms.{Term}
use Rattle.process_terms.specs.Meanings.{Entries}
use Rattle.bisim_laws.specs.LinearProcesses.{Summand, Linear}
use Rattle.bisim_laws.specs.BaseStates.{Side}
use Rattle.lps_core.specs.Columns.{as_terms}
use Rattle.lps_core.specs.PlainLinears.{PlainSummand, PlainLinear, can_end, summand_of, linear_of}
use Rattle.summand_expander.specs.Product.{columns, alone, lone, own_first, own_last, together, pair, product}
use Rattle.summand_expander.specs.Renewing.{renewed_next, renewed_summand, renewed}

abbrev pub stops : Summand → Bool
stops s = is_none s.next

abbrev pub can_stop : Linear → Bool
can_stop l = list_any stops l.summands

-- ---- lists
pub any_append : {A : Type 0} (f : A → Bool) (xs ys : List A) → list_any f (xs ++ ys) ≡ (list_any f xs || list_any f ys)
any_append f [] ys = refl
any_append f (x ∷ xs) ys = ap (λ b. f x || b) (any_append f xs ys) ∙ sym (or_assoc (f x) (list_any f xs) (list_any f ys))
  where
    or_assoc : (a b c : Bool) → ((a || b) || c) ≡ (a || (b || c))
    or_assoc true b c = refl
    or_assoc false b c = refl

pub any_same : {A B : Type 0} (f : A → Bool) (g : B → Bool) (h : A → B) → ((x : A) → g (h x) ≡ f x) → (xs : List A) → list_any g (map h xs) ≡ list_any f xs
any_same f g h w [] = refl
any_same f g h w (x ∷ xs) = ap₂ (λ a b. a || b) (w x) (any_same f g h w xs)

-- each of some lists has one where its element does, and where b holds
any_each : {A B : Type 0} (f : A → Bool) (g : B → Bool) (h : A → List B) (b : Bool) → ((x : A) → list_any g (h x) ≡ (f x && b)) → (xs : List A) → list_any g (flat_map h xs) ≡ (list_any f xs && b)
any_each f g h b w [] = refl
any_each f g h b w (x ∷ xs) = any_append g (h x) (flat_map h xs) ∙ ap₂ (λ u v. u || v) (w x) (any_each f g h b w xs) ∙ both (f x) (list_any f xs) b
  where
    both : (a c b : Bool) → ((a && b) || (c && b)) ≡ ((a || c) && b)
    both true c true = refl
    both true true false = refl
    both true false false = refl
    both false c b = refl

-- ---- summands
lone_stops : (place : List Term → List Term → List Term) (a : Side) (others : List Term) (s : Summand) (n : Option (List Term)) (g : Option ℕ) → list_any stops (alone place a others s n g) ≡ (is_none n && is_some g)
lone_stops place a others s (Some ts) g = refl
lone_stops place a others s None None = refl
lone_stops place a others s None (Some g) = refl

together_stops : (a b : Side) (m n : Option (List Term)) → is_none (together a b m n) ≡ (is_none m && is_none n)
together_stops a b None None = refl
together_stops a b None (Some us) = refl
together_stops a b (Some ts) None = refl
together_stops a b (Some ts) (Some us) = refl

pairs_stop : (a b : Side) (s : Summand) (ss : List Summand) → list_any stops (map (pair a b s) ss) ≡ (stops s && list_any stops ss)
pairs_stop a b s [] = and_false (stops s)
  where
    and_false : (x : Bool) → false ≡ (x && false)
    and_false true = refl
    and_false false = refl
pairs_stop a b s (t ∷ ss) = ap₂ (λ x y. x || y) (together_stops a b s.next t.next) (pairs_stop a b s ss) ∙ spread (stops s) (stops t) (list_any stops ss)
  where
    spread : (x y z : Bool) → ((x && y) || (x && z)) ≡ (x && (y || z))
    spread true y z = refl
    spread false y z = refl

-- with a flag exactly where it can stop
pub product_stops : (a b : Side) → is_some a.flag ≡ can_stop a.process → is_some b.flag ≡ can_stop b.process → can_stop (product a b) ≡ (can_stop a.process && can_stop b.process)
product_stops a b p q =
    any_append stops (flat_map (lone own_first a b) a.process.summands) (flat_map (lone own_last b a) b.process.summands ++ flat_map (λ s. map (pair a b s) b.process.summands) a.process.summands)
    ∙ ap₂ (λ x y. x || y)
    (any_each stops stops (lone own_first a b) (is_some b.flag) (λ s. lone_stops own_first a (as_terms (columns b)) s s.next b.flag) a.process.summands ∙ ap (λ x. can_stop a.process && x) q)
    (any_append stops (flat_map (lone own_last b a) b.process.summands) (flat_map (λ s. map (pair a b s) b.process.summands) a.process.summands)
    ∙ ap₂ (λ x y. x || y)
    (any_each stops stops (lone own_last b a) (is_some a.flag) (λ s. lone_stops own_last b (as_terms (columns a)) s s.next a.flag) b.process.summands ∙ ap (λ x. can_stop b.process && x) p)
    (any_each stops stops (λ s. map (pair a b s) b.process.summands) (can_stop b.process) (λ s. pairs_stop a b s b.process.summands) a.process.summands))
    ∙ by_cases (can_stop a.process) (can_stop b.process)
  where
    by_cases : (x y : Bool) → ((x && y) || ((y && x) || (x && y))) ≡ (x && y)
    by_cases true true = refl
    by_cases true false = refl
    by_cases false true = refl
    by_cases false false = refl

-- ---- in code
pub none_meant : {A B : Type 0} (f : A → B) (o : Option A) → is_none (option_map f o) ≡ is_none o
none_meant f None = refl
none_meant f (Some x) = refl

pub meant_stops : (e : Entries) (l : PlainLinear) → can_stop (linear_of e l) ≡ can_end l
meant_stops e l = any_same (λ (s : PlainSummand). is_none s.next) stops (summand_of e) (λ s. none_meant (map _) s.next) l.summands

pub renewed_stops : (r : ℕ → ℕ) (l : Linear) → can_stop (renewed r l) ≡ can_stop l
renewed_stops r l = any_same stops stops (λ s. renewed_summand r s) (λ s. by_next s.next) l.summands
  where
    by_next : (n : Option (List Term)) → is_none (renewed_next r n) ≡ is_none n
    by_next None = refl
    by_next (Some ts) = refl
