use Rattle.std.proofs.Common.{◌≡◌, ◌<◌, ◌++◌, ◌∷◌, [], ◌∙◌, map, take, length, None, refl, sym, ap, subst, arith, rules, append-nil}
use Rattle.std.specs.Prelude.{slice_get, IfSome, OnOk}
use Rattle.std.specs.List.{All, Contains}
use Rattle.std.proofs.lemmas.List.{length-map, map-append}
use Rattle.std.proofs.lemmas.List.Elements.{All-weaker, All-contains, All-get_or, All-nil, All-cons}
use Rattle.std.proofs.lemmas.Option.{slice_get_within}
use Rattle.data_theory.specs.Table.{bool_sort}
use Rattle.term_pool.specs.HeadTrees.{tree_at, trees_at, IsIn, AreIn}
use Rattle.lps_core.specs.TreeConditions.{tree_parts, trees_without_true}
use Rattle.term_pool.specs.Bindings.{listed, listed_terms}
use Rattle.process_terms.specs.PlainProcesses.{plain_label}
use Rattle.lps_core.specs.TreeSummands.{IsActionIn}
use Rattle.lps_core.proofs.NamedSums.{names_none, names_then}
use Rattle.lps_core.proofs.Members.{all_from}
use Rattle.lps_core.proofs.PoolTrees.{extends_itself, extends_on}
use Rattle.proc_unfold.specs.FittingModels.{TermFits, ActionFits}
use Rattle.greibach.specs.PlacesInCode.{PlainEntry, choice, plain_calls, plain_part, plain_place, plain_places, plain_entry}
use Rattle.greibach.specs.ListedVariables.{listed_variables, paired}
use Rattle.greibach.specs.Surroundings.{plain_around, plain_unfolding, BindingFits, IsCovered, CanAdd}
use Rattle.greibach.proofs.GrownFits.{pool_alone, both_by_names, term_grows, variables_grow, can_later, can_in_pool, added_then, added_nothing}
use Rattle.greibach.proofs.PutFitting.{listed_within}
use Rattle.greibach.proofs.ConditionTrees.{parts_fit, not_fits}
use Rattle.greibach.proofs.FittingHeads.{place_fits, listed_terms_fit, onward_listed, onward_stands}
use Rattle.greibach.proofs.HeadArms.{here_stands, covers_here, act_here, choice_here, cond_here, sum_here, call_here, whole_here, rest_here, rest_there, added_ok, added_then_ok, label_ok, guarded_can, bound_can, summed_can, covered_first, cut_back, waiting_can, added_since, holds_fit, entry_here, entered_fit, as_many, paired_listed, paired_fit}
use Rattle.std.proofs.lemmas.List.{take_more, take_all}
use Rattle.greibach.specs.AddedHeads.{Adds, AddsEach, AddsCalled, AddsEntered, Grew, adds_none}
use Rattle.greibach.proofs.AddedArms.{on_ok, none_left, part_is, rest_is, params_is, label_heads, guarded_heads, summed_heads, entered_heads, waited_heads, each_more, branches_heads, choice_heads, whole_heads, sum_heads, cond_heads, call_heads, delta_heads}
use Rattle.greibach.proofs.heads.+heads.Goals as goal

pub add-returns-then-around-eq0-clause-grown : goal.add-returns-then-around-eq0-clause-grown
add-returns-then-around-eq0-clause-grown t c = names_none c.args.sig.now c.requires.can.signature

pub add-returns-in-Delta-clause-grown : goal.add-returns-in-Delta-clause-grown
add-returns-in-Delta-clause-grown t c = names_none c.args.sig.now c.requires.can.signature

pub add-returns-in-Act-clause-grown : goal.add-returns-in-Act-clause-grown
add-returns-in-Act-clause-grown t c = names_none c.args.sig.now c.requires.can.signature

pub add_branches-returns-in_err-holds-clause-grown : goal.add_branches-returns-in_err-holds-clause-grown
add_branches-returns-in_err-holds-clause-grown t c = names_none c.args.sig.now c.requires.can.signature

pub add_called-returns-in_err-behind-clause-grown : goal.add_called-returns-in_err-behind-clause-grown
add_called-returns-in_err-behind-clause-grown t c = names_none c.args.sig.now c.requires.can.signature

pub add_entered-returns-in_err-args-clause-grown : goal.add_entered-returns-in_err-args-clause-grown
add_entered-returns-in_err-args-clause-grown t c = names_none c.args.sig.now c.requires.can.signature

pub add_guarded-returns-in_err-parts-clause-grown : goal.add_guarded-returns-in_err-parts-clause-grown
add_guarded-returns-in_err-parts-clause-grown t c = names_none c.args.sig.now c.requires.can.signature

pub add_guarded-returns-in_err-parts_of-clause-grown : goal.add_guarded-returns-in_err-parts_of-clause-grown
add_guarded-returns-in_err-parts_of-clause-grown t c = names_none c.args.sig.now c.requires.can.signature

pub add_called-returns-in_err-push-clause-grown : goal.add_called-returns-in_err-push-clause-grown
add_called-returns-in_err-push-clause-grown t c = names_none c.args.sig.now c.requires.can.signature

pub add_entered-returns-in_err-by-clause-grown : goal.add_entered-returns-in_err-by-clause-grown
add_entered-returns-in_err-by-clause-grown t c = names_none c.args.sig.now c.requires.can.signature

pub add-index-here-requires : goal.add-index-here-requires
add-index-here-requires t c =
    let w = slice_get_within (map plain_place c.args.places.now.places.items) c.args.place c.requires.place.place c.requires.place.stands in
    let m = length-map c.args.places.now.places.items plain_place in
    let l : c.args.place < length c.args.places.now.places.items = omega (arith, w, m) in
    search rules

pub add-add_label-requires-clause-parts : goal.add-add_label-requires-clause-parts
add-add_label-requires-clause-parts t c = All-weaker (TermFits c.args.sig.now c.args.pool.now.trees (c.args.around.sums.now ++ c.args.around.params.now) bool_sort) (IsIn c.args.pool.now.trees) (λ id f. f.term.within) c.args.around.parts.now c.requires.can.around.parts

pub add-add_label-requires-clause-listed : goal.add-add_label-requires-clause-listed
add-add_label-requires-clause-listed t c = listed_within c.args.sig.now c.args.pool.now.trees (c.args.around.sums.now ++ c.args.around.params.now) c.args.around.by.now c.requires.can.around.listed

pub add-add_label-requires-clause-label : goal.add-add_label-requires-clause-label
add-add_label-requires-clause-label t c =
    let l : c.args.place < length c.args.places.now.places.items = let w = slice_get_within (map plain_place c.args.places.now.places.items) c.args.place c.requires.place.place c.requires.place.stands in let m = length-map c.args.places.now.places.items plain_place in omega (arith, w, m) in
    let e = here_stands c.args.places.now.places.items c.args.place c.index-here.result.now (search rules) l in
    let w = covers_here c.args.places.now.places.items c.args.place c.index-here.result.now c.args.around.by.now c.requires.place e in
    All-weaker (ActionFits c.args.sig.now c.args.pool.now.trees c.index-here.result.now.params.items) (IsActionIn c.args.pool.now.trees) (λ a f. f.action.args.within) (plain_label c.in-Act.label.now) (act_here c.args.sig.now c.args.pool.now.trees (plain_places c.args.places.now) c.requires.can.table c.args.around.by.now c.args.place c.index-here.result.now e w c.in-Act.label c.in-Act.is)

pub add-add_label-requires-clause-onward : goal.add-add_label-requires-clause-onward
add-add_label-requires-clause-onward t c =
    let l : c.args.place < length c.args.places.now.places.items = let w = slice_get_within (map plain_place c.args.places.now.places.items) c.args.place c.requires.place.place c.requires.place.stands in let m = length-map c.args.places.now.places.items plain_place in omega (arith, w, m) in
    let e = here_stands c.args.places.now.places.items c.args.place c.index-here.result.now (search rules) l in
    let w = covers_here c.args.places.now.places.items c.args.place c.index-here.result.now c.args.around.by.now c.requires.place e in
    onward_listed c.args.sig.now c.args.pool.now.trees (plain_places c.args.places.now) c.args.around.by.now c.index-here.result.now.rest (onward_stands c.args.sig.now c.args.pool.now.trees (plain_places c.args.places.now) c.requires.can.table c.args.around.by.now c.index-here.result.now.params.items c.index-here.result.now.rest w (rest_there c.args.sig.now c.args.pool.now.trees (plain_places c.args.places.now) c.requires.can.table c.args.around.by.now c.args.place c.index-here.result.now e w))

pub add-add_operands-requires : goal.add-add_operands-requires
add-add_operands-requires t c =
    let l : c.args.place < length c.args.places.now.places.items = let w = slice_get_within (map plain_place c.args.places.now.places.items) c.args.place c.requires.place.place c.requires.place.stands in let m = length-map c.args.places.now.places.items plain_place in omega (arith, w, m) in
    let e = here_stands c.args.places.now.places.items c.args.place c.index-here.result.now (search rules) l in
    let w = covers_here c.args.places.now.places.items c.args.place c.index-here.result.now c.args.around.by.now c.requires.place e in
    let some = c.if-around-eq0.false in (
      omega (arith, some, c.decreases),
      (c.requires.can, subst (All (IsCovered (map plain_place c.args.places.now.places.items) c.args.around.by.now)) (sym c.as_slice.ensures.value) (choice_here c.args.sig.now c.args.pool.now.trees (plain_places c.args.places.now) c.requires.can.table c.args.around.by.now c.args.place c.index-here.result.now e w c.in-Choice.operands c.in-Choice.is)),
    )

pub add-add_branches-requires : goal.add-add_branches-requires
add-add_branches-requires t c =
    let l : c.args.place < length c.args.places.now.places.items = let w = slice_get_within (map plain_place c.args.places.now.places.items) c.args.place c.requires.place.place c.requires.place.stands in let m = length-map c.args.places.now.places.items plain_place in omega (arith, w, m) in
    let e = here_stands c.args.places.now.places.items c.args.place c.index-here.result.now (search rules) l in
    let w = covers_here c.args.places.now.places.items c.args.place c.index-here.result.now c.args.around.by.now c.requires.place e in
    let h = cond_here c.args.sig.now c.args.pool.now.trees (plain_places c.args.places.now) c.requires.can.table c.args.around.by.now c.args.place c.index-here.result.now e w c.in-Cond.condition c.in-Cond.then c.in-Cond.other c.in-Cond.is in
    let some = c.if-around-eq0.false in (
      omega (arith, some, c.decreases),
      (c.requires.can, (h.0, (h.1, h.2))),
    )

pub add-add_summed-requires : goal.add-add_summed-requires
add-add_summed-requires t c =
    let l : c.args.place < length c.args.places.now.places.items = let w = slice_get_within (map plain_place c.args.places.now.places.items) c.args.place c.requires.place.place c.requires.place.stands in let m = length-map c.args.places.now.places.items plain_place in omega (arith, w, m) in
    let e = here_stands c.args.places.now.places.items c.args.place c.index-here.result.now (search rules) l in
    let w = covers_here c.args.places.now.places.items c.args.place c.index-here.result.now c.args.around.by.now c.requires.place e in
    let some = c.if-around-eq0.false in (
      omega (arith, some, c.decreases),
      (c.requires.can, sum_here c.args.sig.now c.args.pool.now.trees (plain_places c.args.places.now) c.requires.can.table c.args.around.by.now c.args.place c.index-here.result.now e w c.in-Sum.var c.in-Sum.operand c.in-Sum.is),
    )

pub add-add_called-requires : goal.add-add_called-requires
add-add_called-requires t c =
    let l : c.args.place < length c.args.places.now.places.items = let w = slice_get_within (map plain_place c.args.places.now.places.items) c.args.place c.requires.place.place c.requires.place.stands in let m = length-map c.args.places.now.places.items plain_place in omega (arith, w, m) in
    let e = here_stands c.args.places.now.places.items c.args.place c.index-here.result.now (search rules) l in
    let w = covers_here c.args.places.now.places.items c.args.place c.index-here.result.now c.args.around.by.now c.requires.place e in
    let some = c.if-around-eq0.false in (
      omega (arith, some, c.decreases),
      (c.requires.can, (call_here c.args.sig.now c.args.pool.now.trees (plain_places c.args.places.now) c.requires.can.table c.args.around.by.now c.args.place c.index-here.result.now e w c.in-Call.callee c.in-Call.args c.in-Call.is, rest_here c.args.sig.now c.args.pool.now.trees (plain_places c.args.places.now) c.requires.can.table c.args.around.by.now c.args.place c.index-here.result.now e w)),
    )

pub add-add-requires : goal.add-add-requires
add-add-requires t c =
    let l : c.args.place < length c.args.places.now.places.items = let w = slice_get_within (map plain_place c.args.places.now.places.items) c.args.place c.requires.place.place c.requires.place.stands in let m = length-map c.args.places.now.places.items plain_place in omega (arith, w, m) in
    let e = here_stands c.args.places.now.places.items c.args.place c.index-here.result.now (search rules) l in
    let w = covers_here c.args.places.now.places.items c.args.place c.index-here.result.now c.args.around.by.now c.requires.place e in
    let some = c.if-around-eq0.false in (
      omega (arith, some, c.decreases),
      (c.requires.can, whole_here c.args.sig.now c.args.pool.now.trees (plain_places c.args.places.now) c.requires.can.table c.args.around.by.now c.args.place c.index-here.result.now e w c.in-Whole.body c.in-Whole.is),
    )

pub add-returns-in-Delta-clause-added : goal.add-returns-in-Delta-clause-added
add-returns-in-Delta-clause-added t c = added_nothing c.args.sig.now c.args.pool.now.trees (plain_places c.args.places.now) (plain_around c.args.around) (plain_unfolding c.args.under_way.now) c.requires.can

pub add-returns-in-Act-clause-added : goal.add-returns-in-Act-clause-added
add-returns-in-Act-clause-added t c =
    let l : c.args.place < length c.args.places.now.places.items = let w = slice_get_within (map plain_place c.args.places.now.places.items) c.args.place c.requires.place.place c.requires.place.stands in let m = length-map c.args.places.now.places.items plain_place in omega (arith, w, m) in
    let e = here_stands c.args.places.now.places.items c.args.place c.index-here.result.now (search rules) l in
    let w = covers_here c.args.places.now.places.items c.args.place c.index-here.result.now c.args.around.by.now c.requires.place e in
    label_ok c.add_label.result c.args.sig.now c.args.pool.now.trees c.add_label.new.pool.trees (plain_places c.args.places.now) (plain_around c.args.around) (plain_unfolding c.args.under_way.now) (plain_unfolding c.add_label.new.under_way) (plain_label c.in-Act.label.now) c.index-here.result.now.rest c.index-here.result.now.params.items c.requires.can c.add_label.ensures.kept (act_here c.args.sig.now c.args.pool.now.trees (plain_places c.args.places.now) c.requires.can.table c.args.around.by.now c.args.place c.index-here.result.now e w c.in-Act.label c.in-Act.is) w (rest_there c.args.sig.now c.args.pool.now.trees (plain_places c.args.places.now) c.requires.can.table c.args.around.by.now c.args.place c.index-here.result.now e w) c.add_label.ensures.added

pub add_branches-subst-requires-clause-within : goal.add_branches-subst-requires-clause-within
add_branches-subst-requires-clause-within t c = c.requires.condition.term.within

pub add_branches-subst-requires-clause-terms : goal.add_branches-subst-requires-clause-terms
add_branches-subst-requires-clause-terms t c = listed_within c.args.sig.now c.args.pool.now.trees (c.args.around.sums.now ++ c.args.around.params.now) c.args.around.by.now c.requires.can.around.listed

pub add_branches-add_guarded-requires : goal.add_branches-add_guarded-requires
add_branches-add_guarded-requires t c =
    let us = c.subst.new.self.trees in
    let can = can_in_pool c.args.sig.now c.args.pool.now.trees us (plain_places c.args.places.now) (plain_around c.args.around) (plain_unfolding c.args.under_way.now) c.requires.can c.subst.ensures.kept in
    let now = term_grows c.args.sig.now c.args.sig.now c.args.pool.now.trees us c.requires.can.signature (pool_alone c.args.sig.now c.args.pool.now.trees us c.subst.ensures.kept) (listed_variables c.args.around.by.now) bool_sort c.args.condition c.requires.condition in
    let holds : TermFits c.args.sig.now us (c.args.around.sums.now ++ c.args.around.params.now) bool_sort c.in_ok-holds.holds = holds_fit c.args.sig.now c.requires.can.signature c.args.pool.now.trees us c.args.around.by.now (c.args.around.sums.now ++ c.args.around.params.now) c.args.condition c.in_ok-holds.holds c.requires.can.around.listed can.around.listed c.subst.ensures.kept c.in_ok-holds.ensures.within c.in_ok-holds.ensures.tree c.requires.condition in (
      omega (arith, c.decreases),
      (can, (holds, c.requires.then)),
    )

pub add_branches-intern-requires-clause-within : goal.add_branches-intern-requires-clause-within
add_branches-intern-requires-clause-within t c =
    let us = c.subst.new.self.trees in
    let can = can_in_pool c.args.sig.now c.args.pool.now.trees us (plain_places c.args.places.now) (plain_around c.args.around) (plain_unfolding c.args.under_way.now) c.requires.can c.subst.ensures.kept in
    let now = term_grows c.args.sig.now c.args.sig.now c.args.pool.now.trees us c.requires.can.signature (pool_alone c.args.sig.now c.args.pool.now.trees us c.subst.ensures.kept) (listed_variables c.args.around.by.now) bool_sort c.args.condition c.requires.condition in
    let holds : TermFits c.args.sig.now us (c.args.around.sums.now ++ c.args.around.params.now) bool_sort c.in_ok-holds.holds = holds_fit c.args.sig.now c.requires.can.signature c.args.pool.now.trees us c.args.around.by.now (c.args.around.sums.now ++ c.args.around.params.now) c.args.condition c.in_ok-holds.holds c.requires.can.around.listed can.around.listed c.subst.ensures.kept c.in_ok-holds.ensures.within c.in_ok-holds.ensures.tree c.requires.condition in
    let d = c.in_ok-add_guarded.ensures.added in
    let later = can_later c.args.sig.now c.add_guarded.new.sig us c.add_guarded.new.pool.trees (plain_places c.args.places.now) (plain_around c.args.around) (plain_unfolding c.args.under_way.now) (plain_unfolding c.add_guarded.new.under_way) can c.in_ok-add_guarded.ensures.grown c.in_ok-add_guarded.ensures.kept d in
    let held = term_grows c.args.sig.now c.add_guarded.new.sig us c.add_guarded.new.pool.trees c.requires.can.signature (both_by_names c.args.sig.now c.add_guarded.new.sig us c.add_guarded.new.pool.trees c.in_ok-add_guarded.ensures.grown c.in_ok-add_guarded.ensures.kept) (c.args.around.sums.now ++ c.args.around.params.now) bool_sort c.in_ok-holds.holds holds in
    All-cons (IsIn c.add_guarded.new.pool.trees) c.in_ok-holds.holds [] held.term.within (All-nil (IsIn c.add_guarded.new.pool.trees))

pub add_branches-add_guarded-requires-2 : goal.add_branches-add_guarded-requires-2
add_branches-add_guarded-requires-2 t c =
    let us = c.subst.new.self.trees in
    let can = can_in_pool c.args.sig.now c.args.pool.now.trees us (plain_places c.args.places.now) (plain_around c.args.around) (plain_unfolding c.args.under_way.now) c.requires.can c.subst.ensures.kept in
    let now = term_grows c.args.sig.now c.args.sig.now c.args.pool.now.trees us c.requires.can.signature (pool_alone c.args.sig.now c.args.pool.now.trees us c.subst.ensures.kept) (listed_variables c.args.around.by.now) bool_sort c.args.condition c.requires.condition in
    let holds : TermFits c.args.sig.now us (c.args.around.sums.now ++ c.args.around.params.now) bool_sort c.in_ok-holds.holds = holds_fit c.args.sig.now c.requires.can.signature c.args.pool.now.trees us c.args.around.by.now (c.args.around.sums.now ++ c.args.around.params.now) c.args.condition c.in_ok-holds.holds c.requires.can.around.listed can.around.listed c.subst.ensures.kept c.in_ok-holds.ensures.within c.in_ok-holds.ensures.tree c.requires.condition in
    let d = c.in_ok-add_guarded.ensures.added in
    let later = can_later c.args.sig.now c.add_guarded.new.sig us c.add_guarded.new.pool.trees (plain_places c.args.places.now) (plain_around c.args.around) (plain_unfolding c.args.under_way.now) (plain_unfolding c.add_guarded.new.under_way) can c.in_ok-add_guarded.ensures.grown c.in_ok-add_guarded.ensures.kept d in
    let held = term_grows c.args.sig.now c.add_guarded.new.sig us c.add_guarded.new.pool.trees c.requires.can.signature (both_by_names c.args.sig.now c.add_guarded.new.sig us c.add_guarded.new.pool.trees c.in_ok-add_guarded.ensures.grown c.in_ok-add_guarded.ensures.kept) (c.args.around.sums.now ++ c.args.around.params.now) bool_sort c.in_ok-holds.holds holds in
    let last = can_in_pool c.add_guarded.new.sig c.add_guarded.new.pool.trees c.intern.new.self.trees (plain_places c.args.places.now) (plain_around c.args.around) (plain_unfolding c.add_guarded.new.under_way) later c.intern.ensures.kept in (
      omega (arith, c.decreases),
      (last, (not_fits c.add_guarded.new.sig later.signature.complete (c.args.around.sums.now ++ c.args.around.params.now) c.add_guarded.new.pool.trees c.intern.new.self.trees c.in_ok-holds.holds c.in_ok-fails.fails held c.in_ok-fails.ensures.within c.in_ok-fails.ensures.tree, c.requires.other)),
    )

pub add_branches-returns-clause-added : goal.add_branches-returns-clause-added
add_branches-returns-clause-added t c = added_then_ok c.add_guarded-2.result c.args.sig.now c.add_guarded.new.sig c.add_guarded-2.new.sig c.args.pool.now.trees c.add_guarded.new.pool.trees c.add_guarded-2.new.pool.trees (plain_places c.args.places.now) c.args.around.params.now (plain_unfolding c.args.under_way.now) (plain_unfolding c.add_guarded.new.under_way) (plain_unfolding c.add_guarded-2.new.under_way) (added_since c.args.sig.now c.args.sig.now c.add_guarded.new.sig c.args.pool.now.trees c.subst.new.self.trees c.add_guarded.new.pool.trees (plain_places c.args.places.now) c.args.around.params.now (plain_unfolding c.args.under_way.now) (plain_unfolding c.add_guarded.new.under_way) c.in_ok-add_guarded.ensures.added) (added_ok c.add_guarded-2.result c.add_guarded.new.sig c.add_guarded.new.sig c.add_guarded-2.new.sig c.add_guarded.new.pool.trees c.intern.new.self.trees c.add_guarded-2.new.pool.trees (plain_places c.args.places.now) c.args.around.params.now (plain_unfolding c.add_guarded.new.under_way) (plain_unfolding c.add_guarded-2.new.under_way) c.add_guarded-2.ensures.added)

pub add_guarded-parts_of-requires : goal.add_guarded-parts_of-requires
add_guarded-parts_of-requires t c = c.requires.condition.term.within

pub add_guarded-add-requires : goal.add_guarded-add-requires
add_guarded-add-requires t c =
    let old : c.in_ok-parts.parts.items ≡ c.args.around.parts.now = search rules in
    let own : AreIn c.args.pool.now.trees c.args.around.parts.now = All-weaker (TermFits c.args.sig.now c.args.pool.now.trees (c.args.around.sums.now ++ c.args.around.params.now) bool_sort) (IsIn c.args.pool.now.trees) (λ id f. f.term.within) c.args.around.parts.now c.requires.can.around.parts in
    let within = c.in_ok-parts_of.ensures.within (subst (AreIn c.args.pool.now.trees) (sym old) own) in
    let parts = parts_fit c.args.sig.now c.requires.can.signature.complete (c.args.around.sums.now ++ c.args.around.params.now) c.args.pool.now.trees c.in_ok-parts.parts.items c.parts_of.new.found.items c.args.cond (subst (All (TermFits c.args.sig.now c.args.pool.now.trees (c.args.around.sums.now ++ c.args.around.params.now) bool_sort)) (sym old) c.requires.can.around.parts) c.requires.condition c.in_ok-parts_of.ensures.parts within in (
      omega (arith, c.decreases),
      (guarded_can c.args.sig.now c.args.pool.now.trees (plain_places c.args.places.now) (plain_around c.args.around) (plain_unfolding c.args.under_way.now) c.as_slice.result.now c.requires.can (subst (All (TermFits c.args.sig.now c.args.pool.now.trees (c.args.around.sums.now ++ c.args.around.params.now) bool_sort)) (sym c.as_slice.ensures.value) parts), c.requires.place),
    )

pub add_summed-renew-requires-clause-variable : goal.add_summed-renew-requires-clause-variable
add_summed-renew-requires-clause-variable t c = c.requires.variable

pub add_summed-renew-requires-clause-stands : goal.add_summed-renew-requires-clause-stands
add_summed-renew-requires-clause-stands t c = c.requires.can.signature

pub add_summed-add-requires : goal.add_summed-add-requires
add_summed-add-requires t c =
    let sums : c.as_slice.result.now ≡ c.args.around.sums.now ++ c.in_ok-other.other ∷ [] = c.as_slice.ensures.value ∙ c.in_ok-sums.ensures in
    let by : c.as_slice-2.result.now ≡ (c.args.var, c.in_ok-term.term) ∷ c.args.around.by.now = c.as_slice-2.ensures.value ∙ c.in_ok-by.ensures in (
      omega (arith, c.decreases),
      (
        subst (λ z. CanAdd c.renew.new.sig c.variable_term.new.pool.trees (plain_places c.args.places.now) (record { params = c.args.around.params.now; sums = z; by = c.as_slice-2.result.now; parts = c.args.around.parts.now }) (plain_unfolding c.args.under_way.now)) (sym sums)
            (subst (λ z. CanAdd c.renew.new.sig c.variable_term.new.pool.trees (plain_places c.args.places.now) (record { params = c.args.around.params.now; sums = c.args.around.sums.now ++ c.in_ok-other.other ∷ []; by = z; parts = c.args.around.parts.now }) (plain_unfolding c.args.under_way.now)) (sym by)
            (summed_can c.args.sig.now c.renew.new.sig c.args.pool.now.trees c.variable_term.new.pool.trees (plain_places c.args.places.now) (plain_around c.args.around) (plain_unfolding c.args.under_way.now) c.args.var c.in_ok-other.other c.in_ok-term.term c.requires.can c.requires.variable c.in_ok-other.ensures.grown c.in_ok-other.ensures.renewed c.in_ok-term.ensures.kept c.in_ok-term.ensures.within c.in_ok-term.ensures.tree)),
        subst (λ z. IsCovered (map plain_place c.args.places.now.places.items) z c.args.place) (sym by) (covered_first (map plain_place c.args.places.now.places.items) c.args.around.by.now c.args.var c.in_ok-term.term c.args.place c.requires.place),
      ),
    )

pub add_summed-returns-clause-added : goal.add_summed-returns-clause-added
add_summed-returns-clause-added t c = added_ok c.add.result c.args.sig.now c.renew.new.sig c.add.new.sig c.args.pool.now.trees c.variable_term.new.pool.trees c.add.new.pool.trees (plain_places c.args.places.now) c.args.around.params.now (plain_unfolding c.args.under_way.now) (plain_unfolding c.add.new.under_way) c.add.ensures.added

pub add_entered-index-entry-requires : goal.add_entered-index-entry-requires
add_entered-index-entry-requires t c =
    let w = slice_get_within (map plain_entry c.args.places.now.entries.items) c.args.callee c.requires.call.entry c.requires.call.stands in
    let m = length-map c.args.places.now.entries.items plain_entry in
    let l : c.args.callee < length c.args.places.now.entries.items = omega (arith, w, m) in
    search rules

pub add_entered-put_all-requires-clause-within : goal.add_entered-put_all-requires-clause-within
add_entered-put_all-requires-clause-within t c = c.requires.call.args.terms.within

pub add_entered-put_all-requires-clause-listed : goal.add_entered-put_all-requires-clause-listed
add_entered-put_all-requires-clause-listed t c = listed_within c.args.sig.now c.args.pool.now.trees (c.args.around.sums.now ++ c.args.around.params.now) c.args.around.by.now c.requires.can.around.listed

pub add_entered-bound_to-requires : goal.add_entered-bound_to-requires
add_entered-bound_to-requires t c =
    let us = c.put_all.new.pool.trees in
    let k = c.requires.call in
    let same = entry_here c.args.places.now.entries.items c.args.callee c.index-entry.result.now k.entry (search rules) k.stands in
    let fit = entered_fit c.args.sig.now c.args.pool.now.trees us (plain_places c.args.places.now) (plain_around c.args.around) (plain_unfolding c.args.under_way.now) c.args.callee c.args.args.now c.in_ok-args.args.items c.requires.can k c.put_all.ensures.kept c.in_ok-args.ensures.within c.in_ok-args.ensures.terms in
    let long : length c.as_slice.result.now ≡ length c.index-entry.result.now.params.now = ap length c.as_slice.ensures.value ∙ as_many c.args.sig.now us (c.args.around.sums.now ++ c.args.around.params.now) k.entry.params c.in_ok-args.args.items fit ∙ ap (λ (z : PlainEntry). length z.params) (sym same) in
    long

pub add_entered-add-requires : goal.add_entered-add-requires
add_entered-add-requires t c =
    let us = c.put_all.new.pool.trees in
    let k = c.requires.call in
    let same = entry_here c.args.places.now.entries.items c.args.callee c.index-entry.result.now k.entry (search rules) k.stands in
    let fit = entered_fit c.args.sig.now c.args.pool.now.trees us (plain_places c.args.places.now) (plain_around c.args.around) (plain_unfolding c.args.under_way.now) c.args.callee c.args.args.now c.in_ok-args.args.items c.requires.can k c.put_all.ensures.kept c.in_ok-args.ensures.within c.in_ok-args.ensures.terms in
    let long : length c.as_slice.result.now ≡ length c.index-entry.result.now.params.now = ap length c.as_slice.ensures.value ∙ as_many c.args.sig.now us (c.args.around.sums.now ++ c.args.around.params.now) k.entry.params c.in_ok-args.args.items fit ∙ ap (λ (z : PlainEntry). length z.params) (sym same) in
    let by : c.as_slice-2.result.now ≡ paired k.entry.params c.in_ok-args.args.items = c.as_slice-2.ensures.value ∙ c.in_ok-by.ensures ∙ ap (λ (z : PlainEntry). paired z.params c.as_slice.result.now) same ∙ ap (paired k.entry.params) c.as_slice.ensures.value in
    let can = can_in_pool c.args.sig.now c.args.pool.now.trees us (plain_places c.args.places.now) (plain_around c.args.around) (plain_unfolding c.args.under_way.now) c.requires.can c.put_all.ensures.kept in (
      omega (arith, c.decreases),
      (
        bound_can c.args.sig.now us (plain_places c.args.places.now) (plain_around c.args.around) (plain_unfolding c.args.under_way.now) c.as_slice-2.result.now can (subst (All (BindingFits c.args.sig.now us (c.args.around.sums.now ++ c.args.around.params.now))) (sym by) (paired_fit c.args.sig.now us (c.args.around.sums.now ++ c.args.around.params.now) k.entry.params c.in_ok-args.args.items k.variables fit)),
        record {
          place = k.place;
          stands = ap (λ (z : PlainEntry). slice_get (map plain_place c.args.places.now.places.items) z.place) same ∙ k.at;
          covers = λ x i. subst (λ z. Contains (listed_variables z) x) (sym by) (subst (λ z. Contains z x) (sym (paired_listed k.entry.params c.in_ok-args.args.items (as_many c.args.sig.now us (c.args.around.sums.now ++ c.args.around.params.now) k.entry.params c.in_ok-args.args.items fit))) (subst (λ z. Contains z x) k.all i));
        },
      ),
    )

pub add_entered-returns-clause-added : goal.add_entered-returns-clause-added
add_entered-returns-clause-added t c = added_ok c.add.result c.args.sig.now c.args.sig.now c.add.new.sig c.args.pool.now.trees c.put_all.new.pool.trees c.add.new.pool.trees (plain_places c.args.places.now) c.args.around.params.now (plain_unfolding c.args.under_way.now) (plain_unfolding c.add.new.under_way) c.add.ensures.added

pub add_called-add_entered-requires : goal.add_called-add_entered-requires
add_called-add_entered-requires t c = (
  omega (arith, c.decreases),
  (c.requires.can, c.requires.call),
)

pub add_called-index-requires : goal.add_called-index-requires
add_called-index-requires t c =
    let o = subst (λ z. IfSome z (IsCovered (map plain_place c.args.places.now.places.items) c.args.around.by.now)) c.in-Some.is c.requires.rest in
    let w = slice_get_within (map plain_place c.args.places.now.places.items) c.in-Some.place o.place o.stands in
    let m = length-map c.args.places.now.places.items plain_place in
    let l : c.in-Some.place < length c.args.places.now.places.items = omega (arith, w, m) in
    search rules

pub add_called-terms_for-requires : goal.add_called-terms_for-requires
add_called-terms_for-requires t c =
    let o = subst (λ z. IfSome z (IsCovered (map plain_place c.args.places.now.places.items) c.args.around.by.now)) c.in-Some.is c.requires.rest in
    let range = slice_get_within (map plain_place c.args.places.now.places.items) c.in-Some.place o.place o.stands in
    let m = length-map c.args.places.now.places.items plain_place in
    let l : c.in-Some.place < length c.args.places.now.places.items = omega (arith, range, m) in
    let e = here_stands c.args.places.now.places.items c.in-Some.place c.index.result.now c.index.ensures l in
    let w = covers_here c.args.places.now.places.items c.in-Some.place c.index.result.now c.args.around.by.now o e in
    subst (All (Contains (listed_variables c.args.around.by.now))) (sym c.as_slice-params.ensures.value) (all_from (Contains (listed_variables c.args.around.by.now)) c.index.result.now.params.items w)

pub add_called-add_entered-requires-2 : goal.add_called-add_entered-requires-2
add_called-add_entered-requires-2 t c =
    let o = subst (λ z. IfSome z (IsCovered (map plain_place c.args.places.now.places.items) c.args.around.by.now)) c.in-Some.is c.requires.rest in
    let range = slice_get_within (map plain_place c.args.places.now.places.items) c.in-Some.place o.place o.stands in
    let m = length-map c.args.places.now.places.items plain_place in
    let l : c.in-Some.place < length c.args.places.now.places.items = omega (arith, range, m) in
    let e = here_stands c.args.places.now.places.items c.in-Some.place c.index.result.now c.index.ensures l in
    let w = covers_here c.args.places.now.places.items c.in-Some.place c.index.result.now c.args.around.by.now o e in
    let waits : plain_calls c.push.new.self.items ≡ plain_calls c.args.under_way.now.waiting.items ++ (c.in-Some.place, c.in_ok-behind.behind.items) ∷ [] = ap plain_calls c.in_ok-push.ensures.items ∙ map-append (λ z. (z.0, z.1.items)) c.args.under_way.now.waiting.items _ in
    let can = c.requires.can in
    let params = c.as_slice-params.ensures.value in
    let within : AreIn c.args.pool.now.trees c.in_ok-behind.behind.items = All-weaker (Contains (listed_terms c.args.around.by.now)) (IsIn c.args.pool.now.trees) (λ id i. All-contains (IsIn c.args.pool.now.trees) (listed_terms c.args.around.by.now) id (listed_within c.args.sig.now c.args.pool.now.trees (c.args.around.sums.now ++ c.args.around.params.now) c.args.around.by.now can.around.listed) i) c.in_ok-behind.behind.items c.in_ok-behind.ensures.among in
    let args = listed_terms_fit c.args.sig.now can.signature c.args.pool.now.trees (c.args.around.sums.now ++ c.args.around.params.now) c.args.around.by.now can.around.listed c.index.result.now.params.items c.in_ok-behind.behind.items w (c.in_ok-behind.ensures.terms c.args.pool.now.trees ∙ ap (map (listed c.args.pool.now.trees c.args.around.by.now)) params) within in
    let vars = variables_grow can.table.old c.args.sig.now can.table.trees c.args.pool.now.trees can.table.signature can.table.grown c.index.result.now.params.items (place_fits c.args.sig.now c.args.pool.now.trees (plain_places c.args.places.now) can.table c.args.around.by.now c.in-Some.place (plain_place c.index.result.now) e).params in (
      omega (arith, c.decreases),
      (
        waiting_can c.args.sig.now c.args.pool.now.trees (plain_places c.args.places.now) (plain_around c.args.around) (plain_unfolding c.args.under_way.now) (plain_unfolding (record { met = c.args.under_way.now.met; waiting = c.push.new.self; summands = c.args.under_way.now.summands })) (c.in-Some.place, c.in_ok-behind.behind.items) can
            (record { place = plain_place c.index.result.now; stands = e; variables = vars; args = args }) refl refl waits,
        c.requires.call,
      ),
    )

pub add_called-returns-clause-added : goal.add_called-returns-clause-added
add_called-returns-clause-added t c =
    let waits : plain_calls c.push.new.self.items ≡ plain_calls c.args.under_way.now.waiting.items ++ (c.in-Some.place, c.in_ok-behind.behind.items) ∷ [] = ap plain_calls c.in_ok-push.ensures.items ∙ map-append (λ z. (z.0, z.1.items)) c.args.under_way.now.waiting.items _ in
    let d = c.in_ok-add_entered.ensures.added in
    let depth : c.len-depth.result ≡ length c.args.under_way.now.waiting.items = search rules in
    record {
      names = d.names;
      waiting = cut_back (λ z. (z.0, z.1.items)) c.args.under_way.now.waiting.items c.add_entered-2.new.under_way.waiting.items c.truncate.new.self.items (c.in-Some.place, c.in_ok-behind.behind.items) c.len-depth.result (d.waiting ∙ waits) c.truncate.ensures.items depth;
      met = d.met;
      standing = record { met_there = d.standing.met_there; summands = d.standing.summands };
    }

pub add_operands-loop-operand-init : goal.add_operands-loop-operand-init
add_operands-loop-operand-init t c = (
  names_none c.args.sig.now c.requires.can.signature,
  extends_itself c.args.pool.now.trees,
  refl,
  added_nothing c.args.sig.now c.args.pool.now.trees (plain_places c.args.places.now) (plain_around c.args.around) (plain_unfolding c.args.under_way.now) c.requires.can,
  λ k ws sk grow. ([], sym (append-nil (plain_unfolding c.args.under_way.now).summands), adds_none),
)

pub add_operands-add-requires : goal.add_operands-add-requires
add_operands-add-requires t c =
    let i = c.loop-operand.invariant in (
      omega (arith, c.decreases),
      (can_later c.args.sig.now c.loop-operand.sig c.args.pool.now.trees c.loop-operand.pool.trees (plain_places c.args.places.now) (plain_around c.args.around) (plain_unfolding c.args.under_way.now) (plain_unfolding c.loop-operand.under_way) c.requires.can i.0 i.1 i.3, All-get_or (IsCovered (map plain_place c.args.places.now.places.items) c.args.around.by.now) c.args.operands.now c.loop-operand.operand-index _ c.loop-operand-test.true c.requires.operands),
    )

pub add_operands-loop-operand-preserved : goal.add_operands-loop-operand-preserved
add_operands-loop-operand-preserved t c =
    let i = c.loop-operand.invariant in (
      names_then c.args.sig.now c.loop-operand.sig c.add.new.sig i.0 c.in_ok-add.ensures.grown,
      extends_on c.args.pool.now.trees c.loop-operand.pool.trees c.add.new.pool.trees i.1 c.in_ok-add.ensures.kept,
      c.in_ok-add.ensures.constants ∙ i.2,
      added_then c.args.sig.now c.loop-operand.sig c.add.new.sig c.args.pool.now.trees c.loop-operand.pool.trees c.add.new.pool.trees (plain_places c.args.places.now) c.args.around.params.now (plain_unfolding c.args.under_way.now) (plain_unfolding c.loop-operand.under_way) (plain_unfolding c.add.new.under_way) i.3 c.in_ok-add.ensures.added,
      subst (λ ns. Grew c.add.new.sig c.add.new.pool.trees (plain_unfolding c.args.under_way.now) (plain_unfolding c.add.new.under_way) (λ e. AddsEach e (plain_places c.args.places.now) (plain_around c.args.around) (plain_unfolding c.args.under_way.now).waiting ns)) (sym (take_more c.args.operands.now c.loop-operand.operand-index _ c.loop-operand-test.true))
          (each_more c.loop-operand.sig c.add.new.sig c.loop-operand.pool.trees c.add.new.pool.trees (plain_places c.args.places.now) (plain_around c.args.around) (plain_unfolding c.args.under_way.now) (plain_unfolding c.loop-operand.under_way) (plain_unfolding c.add.new.under_way) (take c.loop-operand.operand-index c.args.operands.now) _
          c.in_ok-add.ensures.grown c.in_ok-add.ensures.kept i.3.waiting i.4 c.in_ok-add.ensures.heads),
    )

pub add_operands-returns-clause-heads : goal.add_operands-returns-clause-heads
add_operands-returns-clause-heads t c = subst (λ ns. Grew c.loop-operand.sig c.loop-operand.pool.trees (plain_unfolding c.args.under_way.now) (plain_unfolding c.loop-operand.under_way) (λ e. AddsEach e (plain_places c.args.places.now) (plain_around c.args.around) (plain_unfolding c.args.under_way.now).waiting ns)) (take_all c.loop-operand.operand-index c.args.operands.now (search rules)) c.loop-operand.invariant.4

pub add_guarded-returns-clause-heads : goal.add_guarded-returns-clause-heads
add_guarded-returns-clause-heads t c =
    let old : c.in_ok-parts.parts.items ≡ c.args.around.parts.now = search rules in
    let own : AreIn c.args.pool.now.trees c.args.around.parts.now = All-weaker (TermFits c.args.sig.now c.args.pool.now.trees (c.args.around.sums.now ++ c.args.around.params.now) bool_sort) (IsIn c.args.pool.now.trees) (λ id f. f.term.within) c.args.around.parts.now c.requires.can.around.parts in
    let within = c.in_ok-parts_of.ensures.within (subst (AreIn c.args.pool.now.trees) (sym old) own) in
    on_ok c.add.result c.add.ensures.heads
    (guarded_heads c.args.sig.now c.args.pool.now.trees c.add.new.pool.trees (plain_places c.args.places.now) (plain_around c.args.around) (plain_unfolding c.args.under_way.now) c.requires.can c.add.new.sig (plain_unfolding c.add.new.under_way) c.args.cond c.args.place c.as_slice.result.now c.add.ensures.grown c.add.ensures.kept c.requires.condition
    (subst (AreIn c.args.pool.now.trees) (sym c.as_slice.ensures.value) within)
    (ap (trees_at c.args.pool.now.trees) c.as_slice.ensures.value ∙ c.in_ok-parts_of.ensures.parts ∙ ap (λ l. trees_at c.args.pool.now.trees l ++ trees_without_true (tree_parts (tree_at c.args.pool.now.trees c.args.cond))) old))

pub add_summed-returns-clause-heads : goal.add_summed-returns-clause-heads
add_summed-returns-clause-heads t c =
    let sums : c.as_slice.result.now ≡ c.args.around.sums.now ++ c.in_ok-other.other ∷ [] = c.as_slice.ensures.value ∙ c.in_ok-sums.ensures in
    let by : c.as_slice-2.result.now ≡ (c.args.var, c.in_ok-term.term) ∷ c.args.around.by.now = c.as_slice-2.ensures.value ∙ c.in_ok-by.ensures in
    on_ok c.add.result
    (subst (λ z. OnOk c.add.result (Grew c.add.new.sig c.add.new.pool.trees (plain_unfolding c.args.under_way.now) (plain_unfolding c.add.new.under_way) (λ e. Adds e (plain_places c.args.places.now) (record { params = c.args.around.params.now; sums = c.args.around.sums.now ++ c.in_ok-other.other ∷ []; by = z; parts = c.args.around.parts.now }) (plain_unfolding c.args.under_way.now).waiting c.args.place))) by
    (subst (λ z. OnOk c.add.result (Grew c.add.new.sig c.add.new.pool.trees (plain_unfolding c.args.under_way.now) (plain_unfolding c.add.new.under_way) (λ e. Adds e (plain_places c.args.places.now) (record { params = c.args.around.params.now; sums = z; by = c.as_slice-2.result.now; parts = c.args.around.parts.now }) (plain_unfolding c.args.under_way.now).waiting c.args.place))) sums c.add.ensures.heads))
    (summed_heads c.args.sig.now c.args.pool.now.trees c.add.new.pool.trees (plain_places c.args.places.now) (plain_around c.args.around) (plain_unfolding c.args.under_way.now) c.requires.can c.renew.new.sig c.add.new.sig c.variable_term.new.pool.trees (plain_unfolding c.add.new.under_way) c.args.var c.in_ok-other.other c.in_ok-term.term c.args.place
    c.requires.variable c.in_ok-other.ensures.grown c.add.ensures.grown c.in_ok-other.ensures.renewed c.add.ensures.kept c.in_ok-term.ensures.within c.in_ok-term.ensures.tree)

pub add_entered-returns-clause-heads : goal.add_entered-returns-clause-heads
add_entered-returns-clause-heads t c =
    let us = c.put_all.new.pool.trees in
    let k = c.requires.call in
    let same = entry_here c.args.places.now.entries.items c.args.callee c.index-entry.result.now k.entry (search rules) k.stands in
    let fit = entered_fit c.args.sig.now c.args.pool.now.trees us (plain_places c.args.places.now) (plain_around c.args.around) (plain_unfolding c.args.under_way.now) c.args.callee c.args.args.now c.in_ok-args.args.items c.requires.can k c.put_all.ensures.kept c.in_ok-args.ensures.within c.in_ok-args.ensures.terms in
    let by : c.as_slice-2.result.now ≡ paired k.entry.params c.in_ok-args.args.items = c.as_slice-2.ensures.value ∙ c.in_ok-by.ensures ∙ ap (λ (z : PlainEntry). paired z.params c.as_slice.result.now) same ∙ ap (paired k.entry.params) c.as_slice.ensures.value in
    on_ok c.add.result c.add.ensures.heads
    (entered_heads c.args.sig.now c.args.pool.now.trees c.add.new.pool.trees (plain_places c.args.places.now) (plain_around c.args.around) (plain_unfolding c.args.under_way.now) c.requires.can c.add.new.sig us (plain_unfolding c.add.new.under_way) c.args.callee c.args.args.now c.in_ok-args.args.items c.as_slice-2.result.now c.index-entry.result.now.place k
    (ap (λ (z : PlainEntry). z.place) same) by (as_many c.args.sig.now us (c.args.around.sums.now ++ c.args.around.params.now) k.entry.params c.in_ok-args.args.items fit) c.put_all.ensures.kept c.add.ensures.kept c.in_ok-args.ensures.within c.in_ok-args.ensures.terms)

pub add_called-returns-clause-heads : goal.add_called-returns-clause-heads
add_called-returns-clause-heads t c =
    let o = subst (λ z. IfSome z (IsCovered (map plain_place c.args.places.now.places.items) c.args.around.by.now)) c.in-Some.is c.requires.rest in
    let range = slice_get_within (map plain_place c.args.places.now.places.items) c.in-Some.place o.place o.stands in
    let m = length-map c.args.places.now.places.items plain_place in
    let l : c.in-Some.place < length c.args.places.now.places.items = omega (arith, range, m) in
    let e = here_stands c.args.places.now.places.items c.in-Some.place c.index.result.now c.index.ensures l in
    let w = covers_here c.args.places.now.places.items c.in-Some.place c.index.result.now c.args.around.by.now o e in
    let waits : plain_calls c.push.new.self.items ≡ plain_calls c.args.under_way.now.waiting.items ++ (c.in-Some.place, c.in_ok-behind.behind.items) ∷ [] = ap plain_calls c.in_ok-push.ensures.items ∙ map-append (λ z. (z.0, z.1.items)) c.args.under_way.now.waiting.items _ in
    let can = c.requires.can in
    let params = c.as_slice-params.ensures.value in
    let within : AreIn c.args.pool.now.trees c.in_ok-behind.behind.items = All-weaker (Contains (listed_terms c.args.around.by.now)) (IsIn c.args.pool.now.trees) (λ id i. All-contains (IsIn c.args.pool.now.trees) (listed_terms c.args.around.by.now) id (listed_within c.args.sig.now c.args.pool.now.trees (c.args.around.sums.now ++ c.args.around.params.now) c.args.around.by.now can.around.listed) i) c.in_ok-behind.behind.items c.in_ok-behind.ensures.among in
    subst (λ z. Grew c.add_entered-2.new.sig c.add_entered-2.new.pool.trees (plain_unfolding c.args.under_way.now) (plain_unfolding c.add_entered-2.new.under_way) (λ e. AddsCalled e (plain_places c.args.places.now) (plain_around c.args.around) (plain_unfolding c.args.under_way.now).waiting c.args.callee c.args.args.now z)) (sym c.in-Some.is)
    (waited_heads c.args.sig.now c.args.pool.now.trees c.add_entered-2.new.pool.trees (plain_places c.args.places.now) (plain_around c.args.around) (plain_unfolding c.args.under_way.now) can c.add_entered-2.new.sig (plain_unfolding c.add_entered-2.new.under_way) c.args.callee c.args.args.now c.in-Some.place c.in_ok-behind.behind.items c.index.result.now.params.items
    (params_is (plain_places c.args.places.now) c.in-Some.place (plain_place c.index.result.now) e) range (all_from (Contains (listed_variables c.args.around.by.now)) c.index.result.now.params.items w) c.in_ok-add_entered.ensures.kept within (c.in_ok-behind.ensures.terms c.args.pool.now.trees ∙ ap (map (listed c.args.pool.now.trees c.args.around.by.now)) params)
    (subst (λ z. Grew c.add_entered-2.new.sig c.add_entered-2.new.pool.trees (plain_unfolding c.args.under_way.now) (plain_unfolding c.add_entered-2.new.under_way) (λ e. AddsEntered e (plain_places c.args.places.now) (plain_around c.args.around) z c.args.callee c.args.args.now)) waits c.in_ok-add_entered.ensures.heads))

pub add_branches-returns-clause-heads : goal.add_branches-returns-clause-heads
add_branches-returns-clause-heads t c =
    let us = c.subst.new.self.trees in
    let can = can_in_pool c.args.sig.now c.args.pool.now.trees us (plain_places c.args.places.now) (plain_around c.args.around) (plain_unfolding c.args.under_way.now) c.requires.can c.subst.ensures.kept in
    let holds : TermFits c.args.sig.now us (c.args.around.sums.now ++ c.args.around.params.now) bool_sort c.in_ok-holds.holds = holds_fit c.args.sig.now c.requires.can.signature c.args.pool.now.trees us c.args.around.by.now (c.args.around.sums.now ++ c.args.around.params.now) c.args.condition c.in_ok-holds.holds c.requires.can.around.listed can.around.listed c.subst.ensures.kept c.in_ok-holds.ensures.within c.in_ok-holds.ensures.tree c.requires.condition in
    let held = term_grows c.args.sig.now c.add_guarded.new.sig us c.add_guarded.new.pool.trees c.requires.can.signature (both_by_names c.args.sig.now c.add_guarded.new.sig us c.add_guarded.new.pool.trees c.in_ok-add_guarded.ensures.grown c.in_ok-add_guarded.ensures.kept) (c.args.around.sums.now ++ c.args.around.params.now) bool_sort c.in_ok-holds.holds holds in
    on_ok c.add_guarded-2.result c.add_guarded-2.ensures.heads
    (branches_heads c.args.sig.now c.add_guarded.new.sig c.add_guarded-2.new.sig c.args.pool.now.trees us c.add_guarded.new.pool.trees c.intern.new.self.trees c.add_guarded-2.new.pool.trees (plain_places c.args.places.now) (plain_around c.args.around) (plain_unfolding c.args.under_way.now) (plain_unfolding c.add_guarded.new.under_way) (plain_unfolding c.add_guarded-2.new.under_way)
    c.args.condition c.in_ok-holds.holds c.in_ok-fails.fails c.args.then c.args.other c.requires.can c.requires.condition c.subst.ensures.kept c.in_ok-holds.ensures.within c.in_ok-holds.ensures.tree c.in_ok-add_guarded.ensures.grown c.in_ok-add_guarded.ensures.kept c.in_ok-add_guarded.ensures.added.waiting c.in_ok-add_guarded.ensures.heads c.intern.ensures.kept held.term.within c.in_ok-fails.ensures.within c.in_ok-fails.ensures.tree c.add_guarded-2.ensures.grown c.add_guarded-2.ensures.kept)

pub add-returns-in-Choice-clause-heads : goal.add-returns-in-Choice-clause-heads
add-returns-in-Choice-clause-heads t c =
    let l : c.args.place < length c.args.places.now.places.items = let w = slice_get_within (map plain_place c.args.places.now.places.items) c.args.place c.requires.place.place c.requires.place.stands in let m = length-map c.args.places.now.places.items plain_place in omega (arith, w, m) in
    let e = here_stands c.args.places.now.places.items c.args.place c.index-here.result.now (search rules) l in
    let part = part_is (plain_places c.args.places.now) c.args.place (plain_place c.index-here.result.now) e in
    on_ok c.add_operands.result c.add_operands.ensures.heads (choice_heads c.add_operands.new.sig c.add_operands.new.pool.trees (plain_places c.args.places.now) (plain_around c.args.around) (plain_unfolding c.args.under_way.now) (plain_unfolding c.add_operands.new.under_way) c.args.place c.as_slice.result.now (part ∙ ap plain_part c.in-Choice.is ∙ ap choice (sym c.as_slice.ensures.value)))

pub add-returns-in-Cond-clause-heads : goal.add-returns-in-Cond-clause-heads
add-returns-in-Cond-clause-heads t c =
    let l : c.args.place < length c.args.places.now.places.items = let w = slice_get_within (map plain_place c.args.places.now.places.items) c.args.place c.requires.place.place c.requires.place.stands in let m = length-map c.args.places.now.places.items plain_place in omega (arith, w, m) in
    let e = here_stands c.args.places.now.places.items c.args.place c.index-here.result.now (search rules) l in
    let part = part_is (plain_places c.args.places.now) c.args.place (plain_place c.index-here.result.now) e in
    on_ok c.add_branches.result c.add_branches.ensures.heads (cond_heads c.add_branches.new.sig c.add_branches.new.pool.trees (plain_places c.args.places.now) (plain_around c.args.around) (plain_unfolding c.args.under_way.now) (plain_unfolding c.add_branches.new.under_way) c.args.place c.in-Cond.condition c.in-Cond.then c.in-Cond.other (part ∙ ap plain_part c.in-Cond.is))

pub add-returns-in-Sum-clause-heads : goal.add-returns-in-Sum-clause-heads
add-returns-in-Sum-clause-heads t c =
    let l : c.args.place < length c.args.places.now.places.items = let w = slice_get_within (map plain_place c.args.places.now.places.items) c.args.place c.requires.place.place c.requires.place.stands in let m = length-map c.args.places.now.places.items plain_place in omega (arith, w, m) in
    let e = here_stands c.args.places.now.places.items c.args.place c.index-here.result.now (search rules) l in
    let part = part_is (plain_places c.args.places.now) c.args.place (plain_place c.index-here.result.now) e in
    on_ok c.add_summed.result c.add_summed.ensures.heads (sum_heads c.add_summed.new.sig c.add_summed.new.pool.trees (plain_places c.args.places.now) (plain_around c.args.around) (plain_unfolding c.args.under_way.now) (plain_unfolding c.add_summed.new.under_way) c.args.place c.in-Sum.var c.in-Sum.operand (part ∙ ap plain_part c.in-Sum.is))

pub add-returns-in-Call-clause-heads : goal.add-returns-in-Call-clause-heads
add-returns-in-Call-clause-heads t c =
    let l : c.args.place < length c.args.places.now.places.items = let w = slice_get_within (map plain_place c.args.places.now.places.items) c.args.place c.requires.place.place c.requires.place.stands in let m = length-map c.args.places.now.places.items plain_place in omega (arith, w, m) in
    let e = here_stands c.args.places.now.places.items c.args.place c.index-here.result.now (search rules) l in
    let part = part_is (plain_places c.args.places.now) c.args.place (plain_place c.index-here.result.now) e in
    on_ok c.add_called.result c.add_called.ensures.heads (call_heads c.add_called.new.sig c.add_called.new.pool.trees (plain_places c.args.places.now) (plain_around c.args.around) (plain_unfolding c.args.under_way.now) (plain_unfolding c.add_called.new.under_way) c.args.place c.in-Call.callee c.in-Call.args.now c.index-here.result.now.rest (part ∙ ap plain_part c.in-Call.is) (rest_is (plain_places c.args.places.now) c.args.place (plain_place c.index-here.result.now) e))

pub add-returns-in-Whole-clause-heads : goal.add-returns-in-Whole-clause-heads
add-returns-in-Whole-clause-heads t c =
    let l : c.args.place < length c.args.places.now.places.items = let w = slice_get_within (map plain_place c.args.places.now.places.items) c.args.place c.requires.place.place c.requires.place.stands in let m = length-map c.args.places.now.places.items plain_place in omega (arith, w, m) in
    let e = here_stands c.args.places.now.places.items c.args.place c.index-here.result.now (search rules) l in
    let part = part_is (plain_places c.args.places.now) c.args.place (plain_place c.index-here.result.now) e in
    on_ok c.add.result c.add.ensures.heads (whole_heads c.add.new.sig c.add.new.pool.trees (plain_places c.args.places.now) (plain_around c.args.around) (plain_unfolding c.args.under_way.now) (plain_unfolding c.add.new.under_way) c.args.place c.in-Whole.body (part ∙ ap plain_part c.in-Whole.is))

pub add-returns-in-Delta-clause-heads : goal.add-returns-in-Delta-clause-heads
add-returns-in-Delta-clause-heads t c =
    let l : c.args.place < length c.args.places.now.places.items = let w = slice_get_within (map plain_place c.args.places.now.places.items) c.args.place c.requires.place.place c.requires.place.stands in let m = length-map c.args.places.now.places.items plain_place in omega (arith, w, m) in
    let e = here_stands c.args.places.now.places.items c.args.place c.index-here.result.now (search rules) l in
    let part = part_is (plain_places c.args.places.now) c.args.place (plain_place c.index-here.result.now) e in
    delta_heads c.args.sig.now c.args.pool.now.trees (plain_places c.args.places.now) (plain_around c.args.around) (plain_unfolding c.args.under_way.now) (plain_unfolding c.args.under_way.now) c.args.place (part ∙ ap plain_part c.in-Delta.is) refl refl

pub add-returns-in-Act-clause-heads : goal.add-returns-in-Act-clause-heads
add-returns-in-Act-clause-heads t c =
    let l : c.args.place < length c.args.places.now.places.items = let w = slice_get_within (map plain_place c.args.places.now.places.items) c.args.place c.requires.place.place c.requires.place.stands in let m = length-map c.args.places.now.places.items plain_place in omega (arith, w, m) in
    let e = here_stands c.args.places.now.places.items c.args.place c.index-here.result.now (search rules) l in
    let part = part_is (plain_places c.args.places.now) c.args.place (plain_place c.index-here.result.now) e in
    let w = covers_here c.args.places.now.places.items c.args.place c.index-here.result.now c.args.around.by.now c.requires.place e in
    on_ok c.add_label.result c.add_label.ensures.added
    (label_heads c.args.sig.now c.args.pool.now.trees c.add_label.new.pool.trees (plain_places c.args.places.now) (plain_around c.args.around) (plain_unfolding c.args.under_way.now) c.requires.can (plain_unfolding c.add_label.new.under_way) (plain_label c.in-Act.label.now) c.index-here.result.now.rest c.args.place c.index-here.result.now.params.items c.add_label.ensures.kept
    (act_here c.args.sig.now c.args.pool.now.trees (plain_places c.args.places.now) c.requires.can.table c.args.around.by.now c.args.place c.index-here.result.now e w c.in-Act.label c.in-Act.is)
    (onward_listed c.args.sig.now c.args.pool.now.trees (plain_places c.args.places.now) c.args.around.by.now c.index-here.result.now.rest (onward_stands c.args.sig.now c.args.pool.now.trees (plain_places c.args.places.now) c.requires.can.table c.args.around.by.now c.index-here.result.now.params.items c.index-here.result.now.rest w (rest_there c.args.sig.now c.args.pool.now.trees (plain_places c.args.places.now) c.requires.can.table c.args.around.by.now c.args.place c.index-here.result.now e w)))
    (part ∙ ap plain_part c.in-Act.is) (rest_is (plain_places c.args.places.now) c.args.place (plain_place c.index-here.result.now) e))

pub add_called-returns-in_default-clause-heads : goal.add_called-returns-in_default-clause-heads
add_called-returns-in_default-clause-heads t c =
    let none : c.args.rest ≡ None = none_left c.args.rest c.in_default.not-Some in
    subst (λ z. OnOk c.add_entered.result (Grew c.add_entered.new.sig c.add_entered.new.pool.trees (plain_unfolding c.args.under_way.now) (plain_unfolding c.add_entered.new.under_way) (λ e. AddsCalled e (plain_places c.args.places.now) (plain_around c.args.around) (plain_unfolding c.args.under_way.now).waiting c.args.callee c.args.args.now z))) (sym none) c.add_entered.ensures.heads
