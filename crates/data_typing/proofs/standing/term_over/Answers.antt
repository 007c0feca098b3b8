use Rattle.std.proofs.Common.{◌≡◌, List, length, sym, subst, ap, ◌∙◌}
use Rattle.std.specs.Prelude.{Vec, Option, Some, IfSome, Contains, option_map}
use Rattle.std.specs.Global.{Global}
use Rattle.std.specs.List.{AllByRecursion}
use Rattle.data_theory.specs.Terms.{Term}
use Rattle.data_theory.specs.IdTerms.{symbol_under}
use Rattle.term_pool.specs.HeadTrees.{no_tree, tree_at}
use Rattle.sort_table.specs.NamedSorts.{sort_count}
use Rattle.data_typing.specs.declared.making.Part.{Part}
use Rattle.data_typing.specs.declared.nodes.Node.{Node}
use Rattle.data_typing.specs.declared.steps.Step.{Step}
use Rattle.data_typing.specs.NodeTypings.{node_typings, typing_at}
use Rattle.data_typing.specs.Making.{wished}
use Rattle.data_typing.specs.CodeSteps.{wish_of, items_of, AreSteps, IsStepWithin, AreSomeStepsWithin}
use Rattle.data_typing.specs.CodeParts.{part_items, term_at}
use Rattle.data_typing.specs.Within.{AreNodesWithin}
use Rattle.data_typing.proofs.MakingLemmas.{ready, wanted_made}
use Rattle.data_typing.proofs.StandingLemmas.{term_lacks_a_sort, trees_have_their_sorts_in}
use Rattle.data_typing.proofs.standing.term_over.Goals as goal

pub parts_in-requires-clause-there : goal.parts_in-requires-clause-there
parts_in-requires-clause-there c =
    let g = c.args.sig.now in
    let many : length c.as_slice-3.result.now ≡ sort_count g = ap length c.as_slice-3.ensures.value ∙ c.requires.tables.all_named in
    let steps : AllByRecursion (IsStepWithin (sort_count g) (length g.functions)) c.in-Some.steps.items =
    subst (AreSomeStepsWithin (sort_count g) (length g.functions)) c.in-Some.is
    (c.in_ok-steps.ensures.within (sort_count g) (length g.functions) (subst (AreNodesWithin (sort_count g) (length g.functions)) (sym c.as_slice.ensures.value) c.requires.reading.within) c.requires.wanted) in
    subst (AllByRecursion (IsStepWithin (length c.as_slice-3.result.now) (length g.functions))) (sym c.as_slice-4.ensures.value) (subst (λ n. AllByRecursion (IsStepWithin n (length g.functions)) c.in-Some.steps.items) (sym many) steps)

pub returns-in_default-2-clause-means : goal.returns-in_default-2-clause-means
returns-in_default-2-clause-means c = λ t is. λ u s e has in_.
    let g = c.args.sig.now in
    let y = symbol_under g in
    let want : Option Term = wished (wish_of c.args.wanted) (typing_at (node_typings y c.as_slice.result.now) c.args.reading.now.at) in
    let steps : AllByRecursion (IsStepWithin (sort_count g) (length g.functions)) c.in-Some.steps.items =
    subst (AreSomeStepsWithin (sort_count g) (length g.functions)) c.in-Some.is
    (c.in_ok-steps.ensures.within (sort_count g) (length g.functions) (subst (AreNodesWithin (sort_count g) (length g.functions)) (sym c.as_slice.ensures.value) c.requires.reading.within) c.requires.wanted) in
    let lacks = c.in_ok-parts.ensures.absent c.in_default-2.is in
    let its : want ≡ Some u = ap (λ (ns : List Node). wished (wish_of c.args.wanted) (typing_at (node_typings y ns) c.args.reading.now.at)) c.as_slice.ensures.value ∙ ap (wished (wish_of c.args.wanted)) is.typing ∙ e in
    term_lacks_a_sort g c.next_sort.ensures.stands y (length g.functions) c.in-Some.steps.items want
    (subst (λ (o : Option (Vec Step Global)). AreSteps y (option_map (λ (v : Vec Step Global). v.items) o) want) c.in-Some.is (c.in_ok-steps.ensures.steps y))
    steps lacks.0 (subst (λ (hs : List Step). Contains hs lacks.0) c.as_slice-4.ensures.value lacks.1) lacks.2 u s its has in_

pub made_term-requires-clause-make : goal.made_term-requires-clause-make
made_term-requires-clause-make c =
    let g = c.args.sig.now in
    let y = symbol_under g in
    let want : Option Term = wished (wish_of c.args.wanted) (typing_at (node_typings y c.as_slice.result.now) c.args.reading.now.at) in
    let mean = subst (λ (o : Option (Vec Part Global)). IfSome o (λ parts. part_items g parts.items ≡ items_of y c.as_slice-4.result.now)) c.in-Some-2.is c.in_ok-parts.ensures.mean in
    ready y g want c.in-Some.steps.items c.as_slice-4.result.now c.as_slice-4.ensures.value c.in-Some-2.parts.items mean
    (subst (λ (o : Option (Vec Step Global)). AreSteps y (option_map (λ (v : Vec Step Global). v.items) o) want) c.in-Some.is (c.in_ok-steps.ensures.steps y))

pub returns-clause-means : goal.returns-clause-means
returns-clause-means c = λ t is.
    let g = c.args.sig.now in
    let y = symbol_under g in
    let want : Option Term = wished (wish_of c.args.wanted) (typing_at (node_typings y c.as_slice.result.now) c.args.reading.now.at) in
    let mean = subst (λ (o : Option (Vec Part Global)). IfSome o (λ parts. part_items g parts.items ≡ items_of y c.as_slice-4.result.now)) c.in-Some-2.is c.in_ok-parts.ensures.mean in
    let made = wanted_made y g want c.in-Some.steps.items c.as_slice-4.result.now c.as_slice-4.ensures.value c.in-Some-2.parts.items mean
    (subst (λ (o : Option (Vec Step Global)). AreSteps y (option_map (λ (v : Vec Step Global). v.items) o) want) c.in-Some.is (c.in_ok-steps.ensures.steps y))
    (term_at g c.made_term.new.pool.trees c.in_ok-term.term) c.in_ok-term.ensures.means in
    let its = made ∙ ap (λ (ns : List Node). wished (wish_of c.args.wanted) (typing_at (node_typings y ns) c.args.reading.now.at)) c.as_slice.ensures.value ∙ ap (wished (wish_of c.args.wanted)) is.typing in
    (sym its, trees_have_their_sorts_in g c.next_sort.ensures.stands (tree_at c.made_term.new.pool.trees c.in_ok-term.term) (c.in_ok-term.ensures.trees c.requires.trees c.in_ok-term.term.0 no_tree c.in_ok-term.ensures.within))
