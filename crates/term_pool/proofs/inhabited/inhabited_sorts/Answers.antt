use Rattle.std.proofs.Common.{◌≡◌, [], List, refl, sym, ap, ◌∙◌, subst, arith, length, set}
use Rattle.data_theory.specs.declared.ids.SortId.{SortId}
use Rattle.term_pool.specs.declared.inhabited.Candidate.{Candidate}
use Rattle.term_pool.specs.Inhabited.{IsSearch, waiting_at}
use Rattle.term_pool.proofs.InhabitedSearch.{search_begun, sort_taken, search_ended, taken_below, waiting_read, no_sort_left}
use Rattle.term_pool.proofs.inhabited.inhabited_sorts.Goals as goal

pub place_all-requires-clause-search : goal.place_all-requires-clause-search
place_all-requires-clause-search c =
    search_begun c.args.sig.now c.in_ok-all.ensures.stands _ _ _ _ c.in_ok-marks.ensures.marks c.new-ready.ensures.items (omega (arith, c.in_ok-waiting.ensures.size, c.len.ensures, c.in_ok-marks.marks.ok.0)) c.in_ok-waiting.ensures.none (c.as_slice.ensures.value ∙ c.in_ok-all.ensures.all)

pub index_mut-requires : goal.index_mut-requires
index_mut-requires c = omega (arith, taken_below _ _ _ _ c.in-Some.sort _ c.in-Some.ensures.items c.loop-sort.invariant, c.loop-sort.waiting.ok.0)

pub place_all-requires-in-Some-clause-search : goal.place_all-requires-in-Some-clause-search
place_all-requires-in-Some-clause-search c =
    let below = taken_below _ _ _ _ c.in-Some.sort _ c.in-Some.ensures.items c.loop-sort.invariant in
    let so = sort_taken c.args.sig.now _ c.pop.new.self.items _ c.in-Some.sort _ _ c.replace-candidates.new.dest c.in-Some.ensures.items c.loop-sort.invariant below refl (ap (λ v. v.items) c.replace-candidates.ensures.after ∙ c.new.ensures.items) in
    let read : waiting_at c.loop-sort.waiting.items c.in-Some.sort.0 ≡ c.as_slice-in-Some.result.now =
    waiting_read c.loop-sort.waiting.items c.in-Some.sort.0 c.index_mut.result.now below c.index_mut.ensures.value ∙ ap (λ v. v.items) (sym c.replace-candidates.ensures.value) ∙ sym c.as_slice-in-Some.ensures.value in
    subst (IsSearch c.args.sig.now c.loop-sort.marks.items c.pop.new.self.items (set c.loop-sort.waiting.items c.in-Some.sort.0 c.replace-candidates.new.dest)) read so

pub returns-clause-marks : goal.returns-clause-marks
returns-clause-marks c = search_ended c.args.sig.now c.in_ok-all.ensures.stands _ _ _ (no_sort_left c.loop-sort.ready.items (λ some. let wrong = c.in_default.ensures.variant.1 (omega (arith, some, c.loop-sort.ready.ok.0)) in cc)) c.loop-sort.invariant
