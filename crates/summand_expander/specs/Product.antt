-- The product of two linear processes, with a flag for each side that can end.
use Rattle.std.specs.Prelude.{ℕ, List, [], ◌∷◌, ◌++◌, map, flat_map, Option, Some, None, Contains}
use Rattle.data_theory.specs.Terms.{Sort, boolean, Term, variable}
use Rattle.data_theory.specs.Declarations.{Data}
use Rattle.data_theory.specs.Equations.{trueᵗ, falseᵗ, !ᵗ◌}
use Rattle.data_theory.specs.Environments.{Apart, AreDistinct}
use Rattle.process_terms.specs.Processes.{Bound}
use Rattle.bisim_laws.specs.LinearProcesses.{Summand, Linear, variables, IsLinear, AreDeclared, IsWellSorted}
use Rattle.bisim_laws.specs.BaseStates.{Side}
use Rattle.lps_core.specs.Columns.{as_terms}
use Rattle.lps_core.specs.Conditions.{parts, conjoined}

-- a flag is a parameter of sort Bool
abbrev pub flag_of : Option ℕ → List Bound
flag_of None = []
flag_of (Some f) = record { var = f; sort = boolean } ∷ []

-- a side's parameters, and then its flag
abbrev pub columns : Side → List Bound
columns a = a.process.params ++ flag_of a.flag

-- the part `!f` of a flag f
abbrev pub running_part : Option ℕ → List Term
running_part None = []
running_part (Some f) = (!ᵗ (variable f)) ∷ []

abbrev pub set : List Bound → List Term
set xs = map (λ x. trueᵗ) xs

-- a side's columns after a summand: it goes on and the flag stays, or it ends and the flag is set
abbrev pub onward : Side → Option (List Term) → List Term
onward a (Some ts) = ts ++ as_terms (flag_of a.flag)
onward a None = as_terms a.process.params ++ set (flag_of a.flag)

-- the summand with these parts in front of those of its condition
abbrev pub guarded : List Term → Summand → Option (List Term) → Summand
guarded ps s next = record { sums = s.sums; condition = conjoined (ps ++ parts s.condition); label = s.label; next = next }

-- a summand of one side alone: an ending one becomes two where the other side has a flag
abbrev pub alone : (List Term → List Term → List Term) → Side → List Term → Summand → Option (List Term) → Option ℕ → List Summand
alone place a others s (Some ts) g = guarded (running_part a.flag) s (Some (place (onward a (Some ts)) others)) ∷ []
alone place a others s None None = guarded (running_part a.flag) s (Some (place (onward a None) others)) ∷ []
alone place a others s None (Some g) =
    guarded (running_part a.flag ++ ((!ᵗ (variable g)) ∷ [])) s (Some (place (onward a None) others))
    ∷ guarded (running_part a.flag ++ (variable g ∷ [])) s None
    ∷ []

abbrev pub own_first : List Term → List Term → List Term
own_first own others = own ++ others

abbrev pub own_last : List Term → List Term → List Term
own_last own others = others ++ own

abbrev pub lone : (List Term → List Term → List Term) → Side → Side → Summand → List Summand
lone place a b s = alone place a (as_terms (columns b)) s s.next b.flag

abbrev pub together : Side → Side → Option (List Term) → Option (List Term) → Option (List Term)
together a b None None = None
together a b None (Some us) = Some (onward a None ++ onward b (Some us))
together a b (Some ts) None = Some (onward a (Some ts) ++ onward b None)
together a b (Some ts) (Some us) = Some (onward a (Some ts) ++ onward b (Some us))

abbrev pub pair : Side → Side → Summand → Summand → Summand
pair a b s t = record {
  sums = s.sums ++ t.sums;
  condition = conjoined ((running_part a.flag ++ running_part b.flag) ++ (parts s.condition ++ parts t.condition));
  label = s.label ++ t.label;
  next = together a b s.next t.next;
}

abbrev pub product : Side → Side → Linear
product a b = record {
  params = columns a ++ columns b;
  summands = flat_map (lone own_first a b) a.process.summands
      ++ (flat_map (lone own_last b a) b.process.summands ++ flat_map (λ s. map (pair a b s) b.process.summands) a.process.summands);
}

-- at first no side has ended
abbrev pub first_flag : Option ℕ → List Term
first_flag None = []
first_flag (Some f) = falseᵗ ∷ []

abbrev pub first_columns : Side → List Term → List Term
first_columns a ts = ts ++ first_flag a.flag

-- ---- what the product asks
-- a summand ends only where its side has a flag
pub data EndsWith : Option (List Term) → Option ℕ → Type 0 where
  need_no_flag : {ts : List Term} {g : Option ℕ} → EndsWith (Some ts) g
  flagged : {f : ℕ} → EndsWith None (Some f)

-- a linear process of sorts, with a flag of sort Bool
pub record IsSide (g : Data) (vs : List Sort) (a : Side) : Type 0 where
  pub linear : IsLinear a.process
  pub sorted : IsWellSorted g vs a.process
  pub flag : AreDeclared vs (flag_of a.flag)
  pub ends : (s : Summand) → Contains a.process.summands s → EndsWith s.next a.flag

-- the variables of both sides are different
pub record Separate (g : Data) (vs : List Sort) (a b : Side) : Type 0 where
  pub left : IsSide g vs a
  pub right : IsSide g vs b
  pub distinct : AreDistinct (variables (columns a ++ columns b))
  pub left_apart : (s : Summand) → Contains a.process.summands s → Apart (variables s.sums) (variables (columns a ++ columns b))
  pub right_apart : (s : Summand) → Contains b.process.summands s → Apart (variables s.sums) (variables (columns a ++ columns b))
  pub sums : (s t : Summand) → Contains a.process.summands s → Contains b.process.summands t → Apart (variables s.sums) (variables t.sums)
