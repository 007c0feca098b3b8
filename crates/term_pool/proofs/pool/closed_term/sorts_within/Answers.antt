use Rattle.std.proofs.Common.{◌≡◌, ◌<◌, ◌++◌, ◌∷◌, [], List, ap, sym, ◌∙◌, subst, arith, length}
use Rattle.std.specs.List.{All, Contains}
use Rattle.data_theory.specs.declared.ids.SortId.{SortId}
use Rattle.term_pool.specs.FirstTerms.{sorts_under}
use Rattle.term_pool.proofs.SortSearch.{Descends, IsSearch, search_left, search_begun, search_ended, search_deeper, deeper_is_less, search_on, on_is_less, put_behind, next_has_entry}
use Rattle.term_pool.proofs.Lists.{none_left}
use Rattle.term_pool.proofs.FirstTermLemmas.{has_entry, table_descends, root_within, under_root, none_outside}
use Rattle.term_pool.proofs.pool.closed_term.sorts_within.Goals as goal
use Rattle.term_pool.proofs.pool.closed_term.sorts_within.Goals.{In_ok-insert, In_ok-push-3}

pub loop-next-init : goal.loop-next-init
loop-next-init c =
    let waits : c.push.new.self.items ≡ c.args.sort ∷ [] = c.in_ok-push.ensures.items ∙ ap (λ l. l ++ c.args.sort ∷ []) c.new-waiting.ensures.items in
    rw (c.new-sorts.ensures.empty, waits) (search_begun c.args.sig.now.functions c.args.firsts.now c.args.sort (has_entry c.args.sig.now c.requires.stands c.args.firsts.now c.requires.first c.args.sort c.requires.inhabited))

pub root_of-requires : goal.root_of-requires
root_of-requires c = next_has_entry _ _ (table_descends c.args.sig.now c.requires.stands c.args.firsts.now c.requires.first) _ _ _ _ _ c.in-Some.ensures.items c.loop-next.invariant

pub argument_sorts-args-requires : goal.argument_sorts-args-requires
argument_sorts-args-requires c = root_within c.args.sig.now c.requires.stands c.args.firsts.now c.requires.first c.in-Some.next c.root_of.result c.root_of.ensures

-- ---- all arguments are there
all_there : (c : In_ok-insert) → All (Contains c.loop-next.sorts.keys) (sorts_under c.args.sig.now.functions c.args.firsts.now c.in-Some.next)
all_there c =
    let args = c.argument_sorts-args.ensures ∙ sym (under_root c.args.sig.now.functions c.args.firsts.now c.in-Some.next c.root_of.result c.root_of.ensures) in
    subst (All (Contains c.loop-next.sorts.keys)) args (none_outside c.loop-next.sorts.keys c.argument_sorts-args.result.now c.first_outside.result c.in_default-first_outside.not-Some c.first_outside.ensures)

descends : (c : In_ok-insert) → Descends c.args.sig.now.functions c.args.firsts.now
descends c = table_descends c.args.sig.now c.requires.stands c.args.firsts.now c.requires.first

keys : (c : In_ok-insert) → c.insert.new.self.keys ≡ c.loop-next.sorts.keys ++ c.in-Some.next ∷ []
keys c = c.in_ok-insert.ensures.keys ∙ put_behind _ _ (descends c) c.args.sort _ _ _ _ c.in-Some.ensures.items c.loop-next.invariant (all_there c)

pub loop-next-smaller-in_default-first_outside : goal.loop-next-smaller-in_default-first_outside
loop-next-smaller-in_default-first_outside c =
    subst (λ (l : List SortId). search_left (length c.args.firsts.now) l c.pop.new.self.items < search_left (length c.args.firsts.now) c.loop-next.sorts.keys c.loop-next.waiting.items) (sym (keys c))
    (on_is_less _ _ (descends c) c.args.sort _ _ _ _ c.in-Some.ensures.items c.loop-next.invariant (all_there c))

pub loop-next-preserved-in_default-first_outside : goal.loop-next-preserved-in_default-first_outside
loop-next-preserved-in_default-first_outside c =
    subst (λ (l : List SortId). IsSearch c.args.sig.now.functions c.args.firsts.now c.args.sort l c.pop.new.self.items) (sym (keys c))
    (search_on _ _ (descends c) c.args.sort _ _ _ _ c.in-Some.ensures.items c.loop-next.invariant (all_there c))

-- ---- an argument is met that isn't there yet
under : (c : In_ok-push-3) → Contains (sorts_under c.args.sig.now.functions c.args.firsts.now c.in-Some.next) c.in-Some-first_outside.arg
under c =
    let args = c.argument_sorts-args.ensures ∙ sym (under_root c.args.sig.now.functions c.args.firsts.now c.in-Some.next c.root_of.result c.root_of.ensures) in
    subst (λ (l : List SortId). Contains l c.in-Some-first_outside.arg) args c.in-Some-first_outside.ensures.0

waits : (c : In_ok-push-3) → c.push-in-Some-2.new.self.items ≡ (c.pop.new.self.items ++ c.in-Some.next ∷ []) ++ c.in-Some-first_outside.arg ∷ []
waits c = c.in_ok-push-3.ensures.items ∙ ap (λ l. l ++ c.in-Some-first_outside.arg ∷ []) c.in_ok-push-2.ensures.items

pub loop-next-smaller : goal.loop-next-smaller
loop-next-smaller c =
    let falls = table_descends c.args.sig.now c.requires.stands c.args.firsts.now c.requires.first in
    subst (λ (l : List SortId). search_left (length c.args.firsts.now) c.loop-next.sorts.keys l < search_left (length c.args.firsts.now) c.loop-next.sorts.keys c.loop-next.waiting.items) (sym (waits c))
    (deeper_is_less _ _ falls c.args.sort _ _ _ _ c.in-Some.ensures.items c.loop-next.invariant c.in-Some-first_outside.arg (under c) c.in-Some-first_outside.ensures.1)

pub loop-next-preserved : goal.loop-next-preserved
loop-next-preserved c =
    let falls = table_descends c.args.sig.now c.requires.stands c.args.firsts.now c.requires.first in
    subst (λ (l : List SortId). IsSearch c.args.sig.now.functions c.args.firsts.now c.args.sort c.loop-next.sorts.keys l) (sym (waits c))
    (search_deeper _ _ falls c.args.sort _ _ _ _ c.in-Some.ensures.items c.loop-next.invariant c.in-Some-first_outside.arg (under c) c.in-Some-first_outside.ensures.1)

pub returns : goal.returns
returns c =
    let none : c.loop-next.waiting.items ≡ [] = none_left c.loop-next.waiting.items (λ some. let wrong = c.in_default.ensures.variant.1 (omega (arith, some, c.loop-next.waiting.ok.0)) in cc) in
    search_ended _ _ _ _ (subst (IsSearch c.args.sig.now.functions c.args.firsts.now c.args.sort c.loop-next.sorts.keys) none c.loop-next.invariant)
