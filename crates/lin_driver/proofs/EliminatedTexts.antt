-- The text of what an elimination leaves stands for the text that it was made of.
use Rattle.std.proofs.Common.{ℕ, List, map, ap}
use Rattle.data_theory.specs.declared.ids.NameId.{NameId}
use Rattle.data_theory.specs.IdTrees.{Tree}
use Rattle.data_theory.specs.Provable.{Equation}
use Rattle.data_theory.specs.Signature.{Sig}
use Rattle.data_rewriter.specs.Simplifying.{IsSimpleWith}
use Rattle.mcrl2_syntax.specs.Declarations.{PlainSpec}
use Rattle.process_terms.specs.Meanings.{bound_at}
use Rattle.process_terms.specs.PlainProcesses.{PlainEquation}
use Rattle.process_terms.specs.Processes.{Process}
use Rattle.process_terms.specs.SignatureEntries.{entries_of}
use Rattle.bisim_laws.specs.Links.{Link, Dropped, Solved}
use Rattle.lps_core.specs.GoingOn.{IsGoodOverEquations}
use Rattle.lps_core.specs.PlainLinears.{PlainLinear, linear_of, linear_state}
use Rattle.lps_sumelm.specs.Simplified.{IsAnswer}
use Rattle.lin_driver.specs.Eliminated.{IsPrintedLeft}
use Rattle.lin_driver.specs.Eliminations.{HasEffect, equations_at}
use Rattle.lin_driver.specs.Headline.{EndsBy, StandsFor}
use Rattle.lin_driver.specs.Linearised.{IsMadeOf}
use Rattle.lin_driver.specs.declared.ending.Ending.{Ending}
use Rattle.lin_driver.specs.declared.ending.Ending.TheVariants.{End, Terminate}
use Rattle.lin_driver.specs.declared.eliminations.Elimination.{Elimination}
use Rattle.lin_driver.specs.declared.eliminations.Elimination.TheVariants.{Constants, Parameters, Sums}
use Rattle.lin_driver.proofs.FewerVariables.{HasFewerVariables, unneeded_fewer, eliminated_fewer, solved_fewer, fewer_have_own_names, fewer_have_identifiers}
use Rattle.lin_driver.proofs.LeftTexts.{linearised, left_stands_for}
use Rattle.lin_driver.proofs.MadeTexts.{made_can_be_printed}
use Rattle.lin_driver.proofs.NeverEnding.{eliminations_make_no_end}

-- ---- what each elimination does
record HasLink (g : Sig) (own : List Equation) (p q : Process) : Type 0 where
  link : Link
  good : IsGoodOverEquations g own link p q

effect_has_link : (e : Elimination) (g : Sig) (own : List Equation) (ts : List Tree) (l k : PlainLinear) → HasEffect e g own ts l k → HasLink g own (linear_state (entries_of g ts) l) (linear_state (entries_of g ts) k)
effect_has_link (Constants fuel) g own ts l k h = record { link = Dropped h.fates (linear_of (entries_of g ts) l) (linear_of (entries_of g ts) k); good = h.bisimilar }
effect_has_link Parameters g own ts l k h = record { link = Dropped h.fates (linear_of (entries_of g ts) l) (linear_of (entries_of g ts) k); good = λ th on among con. h.bisimilar th on con }
effect_has_link (Sums fuel) g own ts l k h = record { link = Solved (linear_of (entries_of g ts) l) (linear_of (entries_of g ts) k); good = h.bisimilar }

effect_leaves_fewer : (e : Elimination) (g : Sig) (own : List Equation) (ts : List Tree) (l k : PlainLinear) → HasEffect e g own ts l k → HasFewerVariables (linear_of (entries_of g ts) l) (linear_of (entries_of g ts) k)
effect_leaves_fewer (Constants fuel) g own ts l k h = eliminated_fewer h.eliminated
effect_leaves_fewer Parameters g own ts l k h = unneeded_fewer g ts l k h
effect_leaves_fewer (Sums fuel) g own ts l k h =
    solved_fewer (IsAnswer g own (IsSimpleWith g own fuel)) (linear_of (entries_of g ts) l) (linear_of (entries_of g ts) k) (ap (λ xs. map (bound_at (entries_of g ts)) xs) h.params) h.summands

-- what never ends stays so
left_ends_by : (ending : Ending) (e : Elimination) (g : Sig) (own : List Equation) (ts : List Tree) (l k : PlainLinear) → HasEffect e g own ts l k → EndsBy ending (linear_of (entries_of g ts) l) → EndsBy ending (linear_of (entries_of g ts) k)
left_ends_by End e g own ts l k h ends = tt
left_ends_by Terminate e g own ts l k h ends = eliminations_make_no_end e g own ts l k h ends

-- ---- texts
-- what is printed of what an elimination leaves
pub printed_left_stands_for : (ending : Ending) (text printed : List ℕ) (spec : PlainSpec) (g : Sig) (ts : List Tree) (equations : List PlainEquation) (x : NameId) (l : PlainLinear) (e : Elimination) → IsMadeOf ending text spec g ts equations x l → IsPrintedLeft e spec g ts equations x l printed → StandsFor ending text printed
printed_left_stands_for ending text printed spec g ts equations x l e made p =
    let us = p.trees in
    let own = equations_at g ts equations in
    let before = made_can_be_printed ending text spec g ts equations x l made in
    let fewer = effect_leaves_fewer e g own us l p.left p.is_left.effect in
    let on = effect_has_link e g own us l p.left p.is_left.effect in
    left_stands_for ending text spec g ts us equations x l made p.is_left.kept printed p.left p.is_left.fits (fewer_have_own_names g us l p.left fewer before.names) (fewer_have_identifiers g us l p.left fewer before.identifiers)
    p.signature p.stands p.is_printed (left_ends_by ending e g own us l p.left p.is_left.effect (linearised ending text spec g ts us equations x l made p.is_left.kept).ends) on.link on.good
