use Rattle.std.proofs.Common.{◌<◌, length, get_or, sym, subst, ◌∙◌, arith}
use Rattle.std.proofs.lemmas.List.{length-map}
use Rattle.std.proofs.lemmas.Result.{IfOk-weaker}
use Rattle.mcrl2_syntax.specs.declared.process_tree.Assignment.{Assignment}
use Rattle.mcrl2_syntax.specs.ProcessParts.{assignment_of}
use Rattle.mcrl2_syntax.specs.TreeWords.{IsAssignmentOfWords}
use Rattle.sort_checker.specs.AssignedTrees.{assigned_value}
use Rattle.sort_checker.specs.CodeContexts.{parameter_of, IsWished}
use Rattle.sort_checker.specs.PartTypings.{assigned_or}
use Rattle.sort_checker.proofs.AssignedLists.{value_here}
use Rattle.sort_checker.proofs.ReadLists.{at_mapped, same_there}
use Rattle.sort_checker.proofs.assigned_terms.parameter_term.Goals as goal

pub wished_term-requires-clause-tree : goal.wished_term-requires-clause-tree
wished_term-requires-clause-tree c =
    let as_ = c.args.assignments.now in
    let same = length-map as_ assigned_value in
    let m = c.requires.places.there c.args.parameter.now.name.now c.in-Some.place (sym c.get.ensures ∙ c.in-Some.is) in
    let l : c.in-Some.place < length as_ = omega (arith, same, m) in
    let a : Assignment = get_or as_ c.in-Some.place c.index-assignments-place.result in
    (at_mapped IsAssignmentOfWords assignment_of as_ c.in-Some.place a l (same_there as_ c.in-Some.place c.index-assignments-place.result a l) c.requires.words).1

pub returns-in-Some-clause-means : goal.returns-in-Some-clause-means
returns-in-Some-clause-means c =
    let as_ = c.args.assignments.now in
    let same = length-map as_ assigned_value in
    let place = sym c.get.ensures ∙ c.in-Some.is in
    let m = c.requires.places.there c.args.parameter.now.name.now c.in-Some.place place in
    let l : c.in-Some.place < length as_ = omega (arith, same, m) in
    let a : Assignment = get_or as_ c.in-Some.place c.index-assignments-place.result in
    let value = value_here as_ c.args.places.now c.requires.places c.args.parameter.now.name.now c.in-Some.place place a (same_there as_ c.in-Some.place c.index-assignments-place.result a l) l in
    IfOk-weaker c.wished_term.result _ _ (λ found k v variables sees. subst (λ o. IsWished c.wished_term.new.sig c.wished_term.new.pool (assigned_or v variables (parameter_of c.args.parameter.now) o) found) (sym value) (k v variables sees)) c.wished_term.ensures.means
