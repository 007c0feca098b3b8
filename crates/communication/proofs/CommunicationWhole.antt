-- The laws of communication.
use Rattle.std.proofs.Common.{List}
use Rattle.data_theory.specs.Terms.{Sort}
use Rattle.data_theory.specs.Declarations.{Data, IsData}
use Rattle.process_terms.specs.Communication.{Rule}
use Rattle.process_terms.specs.Processes.{comm}
use Rattle.bisim_laws.specs.LinearProcesses.{Summand, Linear, IsLinear, IsWellSorted}
use Rattle.lps_core.proofs.Members.{In, in_each, contains_in}
use Rattle.lps_core.proofs.Shapes.{IsSortedSummand, summand_is, summand_sorted, summand_fits}
use Rattle.action_filters.proofs.Filtered.{filter_good}
use Rattle.communication.specs.Communicated.{communicated, communicating}
use Rattle.communication.specs.CommunicationLaws.{CommunicatingIsLinear, CommunicatingIsGood}
use Rattle.communication.proofs.Communicating.{made_fit, communication}

module _ (g : Data) (ok : IsData g) (vs : List Sort) (rules : List Rule) (l : Linear) (linear : IsLinear l) (sorted : IsWellSorted g vs l) where
  all_fit : (y : Summand) → In y (communicating rules l).summands → IsSortedSummand g vs l.params y
  all_fit y i = let r = in_each (communicated rules) l.summands i in made_fit g ok vs rules l.params sorted.params sorted.param_sorts r.0 y (summand_fits g vs l linear sorted r.0 r.1) r.2

  made_linear : IsLinear (communicating rules l)
  made_linear = record { distinct = linear.distinct; summands = λ y i. summand_is (all_fit y (contains_in (communicating rules l).summands i)) }

  made_sorted : IsWellSorted g vs (communicating rules l)
  made_sorted = record { params = sorted.params; param_sorts = sorted.param_sorts; summands = λ y i. summand_sorted (all_fit y (contains_in (communicating rules l).summands i)) }

pub communicating_is_linear : CommunicatingIsLinear
communicating_is_linear g ok vs rules l linear sorted = (made_linear g ok vs rules l linear sorted, made_sorted g ok vs rules l linear sorted)

pub communicating_is_good : CommunicatingIsGood
communicating_is_good th sane ok vs rules l linear sorted ts w =
    filter_good th vs l (comm rules) (communicated rules) (communication th sane ok vs rules l.params sorted.params sorted.param_sorts) linear sorted ts w
