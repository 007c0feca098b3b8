use Rattle.std.proofs.Common.{◌≡◌, List, length, sym, subst, ap, ◌∙◌}
use Rattle.std.specs.Prelude.{Vec, Option, option_map}
use Rattle.std.specs.Global.{Global}
use Rattle.std.specs.List.{AllByRecursion}
use Rattle.data_theory.specs.Terms.{Term}
use Rattle.data_theory.specs.IdTerms.{symbol_under}
use Rattle.sort_table.specs.NamedSorts.{no_lists, sort_count}
use Rattle.data_typing.specs.declared.nodes.Node.{Node}
use Rattle.data_typing.specs.declared.steps.Step.{Step}
use Rattle.data_typing.specs.NodeTypings.{node_typings, typing_at}
use Rattle.data_typing.specs.Making.{wished}
use Rattle.data_typing.specs.NamedSorts.{AreNamedSorts}
use Rattle.data_typing.specs.CodeSteps.{wish_of, AreSteps, IsStepWithin, AreSomeStepsWithin}
use Rattle.data_typing.specs.CodeParts.{term_at}
use Rattle.data_typing.specs.Within.{AreNodesWithin}
use Rattle.data_typing.proofs.MakingLemmas.{ready, wanted_made}
use Rattle.data_typing.proofs.TreesWithin.{kept_over_growth}
use Rattle.data_typing.proofs.elaborating.term_of.Goals as goal

pub parts_of-requires : goal.parts_of-requires
parts_of-requires c =
    let g = c.args.sig.now in
    let many : length c.as_slice-3.result.now ≡ sort_count g = ap length c.as_slice-3.ensures.value ∙ c.requires.tables.all_named in
    let steps : AllByRecursion (IsStepWithin (sort_count g) (length g.functions)) c.in-Some.steps.items =
    subst (AreSomeStepsWithin (sort_count g) (length g.functions)) c.in-Some.is
    (c.in_ok-steps.ensures.within (sort_count g) (length g.functions) (subst (AreNodesWithin (sort_count g) (length g.functions)) (sym c.as_slice.ensures.value) c.requires.reading.within) c.requires.wanted) in
    record {
      named = subst (AreNamedSorts g) (sym c.as_slice-3.ensures.value) c.requires.tables.named;
      there = subst (AllByRecursion (IsStepWithin (length c.as_slice-3.result.now) (length g.functions))) (sym c.as_slice-4.ensures.value) (subst (λ n. AllByRecursion (IsStepWithin n (length g.functions)) c.in-Some.steps.items) (sym many) steps);
    }

pub made_term-requires-clause-make : goal.made_term-requires-clause-make
made_term-requires-clause-make c =
    let y = symbol_under c.args.sig.now in
    let want : Option Term = wished (wish_of c.args.wanted) (typing_at (node_typings y c.as_slice.result.now) c.args.reading.now.at) in
    ready y c.parts_of.new.sig want c.in-Some.steps.items c.as_slice-4.result.now c.as_slice-4.ensures.value c.in_ok-parts.parts.items c.in_ok-parts.ensures.mean
    (subst (λ (o : Option (Vec Step Global)). AreSteps y (option_map (λ (v : Vec Step Global). v.items) o) want) c.in-Some.is (c.in_ok-steps.ensures.steps y))

pub returns-in_err-steps-clause-added : goal.returns-in_err-steps-clause-added
returns-in_err-steps-clause-added c = no_lists

pub returns-in_default-clause-added : goal.returns-in_default-clause-added
returns-in_default-clause-added c = no_lists

pub returns-in_default-clause-means : goal.returns-in_default-clause-means
returns-in_default-clause-means c = λ t is.
    let y = symbol_under c.args.sig.now in
    let want : Option Term = wished (wish_of c.args.wanted) (typing_at (node_typings y c.as_slice.result.now) c.args.reading.now.at) in
    sym (subst (λ (o : Option (Vec Step Global)). AreSteps y (option_map (λ (v : Vec Step Global). v.items) o) want) c.in_default.is (c.in_ok-steps.ensures.steps y))
    ∙ ap (λ (ns : List Node). wished (wish_of c.args.wanted) (typing_at (node_typings y ns) c.args.reading.now.at)) c.as_slice.ensures.value ∙ ap (wished (wish_of c.args.wanted)) is.typing

pub returns-clause-means : goal.returns-clause-means
returns-clause-means c = λ t is.
    let y = symbol_under c.args.sig.now in
    let want : Option Term = wished (wish_of c.args.wanted) (typing_at (node_typings y c.as_slice.result.now) c.args.reading.now.at) in
    wanted_made y c.parts_of.new.sig want c.in-Some.steps.items c.as_slice-4.result.now c.as_slice-4.ensures.value c.in_ok-parts.parts.items c.in_ok-parts.ensures.mean
    (subst (λ (o : Option (Vec Step Global)). AreSteps y (option_map (λ (v : Vec Step Global). v.items) o) want) c.in-Some.is (c.in_ok-steps.ensures.steps y))
    (term_at c.parts_of.new.sig c.made_term.new.pool.trees c.in_ok-term.term) c.in_ok-term.ensures.means
    ∙ ap (λ (ns : List Node). wished (wish_of c.args.wanted) (typing_at (node_typings y ns) c.args.reading.now.at)) c.as_slice.ensures.value ∙ ap (wished (wish_of c.args.wanted)) is.typing

pub returns-clause-trees : goal.returns-clause-trees
returns-clause-trees c = λ all. c.in_ok-term.ensures.trees (kept_over_growth c.args.sig.now c.parts_of.new.sig c.parts_of.ensures.grown c.args.pool.now.trees all)
