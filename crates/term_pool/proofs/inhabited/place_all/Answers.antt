use Rattle.std.proofs.Common.{◌≡◌, ◌+◌, ◌<◌, ◌++◌, ◌∷◌, List, [], Some, Bool, length, get_or, set, drop, refl, sym, ap, ◌∙◌, subst, arith}
use Rattle.std.specs.Prelude.{slice_get}
use Rattle.std.specs.List.{All}
use Rattle.std.specs.Global.{Vec}
use Rattle.std.proofs.lemmas.Option.{slice_get_within, slice_get-get_or, get_or_from_slice_get}
use Rattle.data_theory.specs.declared.ids.SortId.{SortId}
use Rattle.term_pool.specs.declared.inhabited.Candidate.{Candidate}
use Rattle.term_pool.specs.Inhabited.{IsMarked, IsSearch, IsCandidate, IsFirstUnmarked, AreMarkedUpTo, AreAllMarked, unmarked_count}
use Rattle.term_pool.proofs.InhabitedSearch.{candidate_waits, candidate_counts, candidate_stands, arguments_are_marks, known_arguments, result_is_mark, entry_told, both_told, first_left, first_is, none_left, same_left, waiting_read}
use Rattle.term_pool.proofs.inhabited.place_all.Goals as goal
use Rattle.term_pool.proofs.inhabited.place_all.Goals.{in-Some+in_ok-push-in-Some, in-None+in_ok-mark-in-None}

abbrev none : Candidate
none = record { fun = record { 0 = 0 }; known = 0 }

pub args_of-args-requires : goal.args_of-args-requires
args_of-args-requires c =
    let g = c.args.sig.now in
    let s = c.loop-candidate.invariant.search in
    candidate_stands g c.requires.signature _ _ (first_is g _ _ _ c.args.candidates.now c.loop-candidate.candidate-index none c.loop-candidate-test.true s) s.size

pub first_unmarked-requires-clause-within : goal.first_unmarked-requires-clause-within
first_unmarked-requires-clause-within c =
    let g = c.args.sig.now in
    let s = c.loop-candidate.invariant.search in
    subst (λ (l : List Bool). All (λ (a : SortId). a.0 < length l) c.args_of-args.result.now) (sym c.as_slice.ensures.value)
    (arguments_are_marks g c.requires.signature _ _ (first_is g _ _ _ c.args.candidates.now c.loop-candidate.candidate-index none c.loop-candidate-test.true s) s.size c.args_of-args.result.now c.args_of-args.ensures)

pub first_unmarked-requires-clause-known : goal.first_unmarked-requires-clause-known
first_unmarked-requires-clause-known c =
    let g = c.args.sig.now in
    let s = c.loop-candidate.invariant.search in
    let cand = get_or c.args.candidates.now c.loop-candidate.candidate-index none in
    subst (λ (l : List Bool). AreMarkedUpTo l c.args_of-args.result.now cand.known) (sym c.as_slice.ensures.value)
    (known_arguments g c.requires.signature _ _ (first_is g _ _ _ c.args.candidates.now c.loop-candidate.candidate-index none c.loop-candidate-test.true s) s.size c.args_of-args.result.now c.args_of-args.ensures)

pub bounds-args-place : goal.bounds-args-place
bounds-args-place c = slice_get_within c.args_of-args.result.now c.in-Some.place c.in-Some.ensures.1.0 c.in-Some.ensures.1.1

pub offset_bounds-args-place : goal.offset_bounds-args-place
offset_bounds-args-place c = let below = slice_get_within c.args_of-args.result.now c.in-Some.place c.in-Some.ensures.1.0 c.in-Some.ensures.1.1 in omega (arith, below)

pub index_mut-requires : goal.index_mut-requires
index_mut-requires c =
    let g = c.args.sig.now in
    let s = c.loop-candidate.invariant.search in
    let all = arguments_are_marks g c.requires.signature _ _ (first_is g _ _ _ c.args.candidates.now c.loop-candidate.candidate-index none c.loop-candidate-test.true s) s.size c.args_of-args.result.now c.args_of-args.ensures in
    let within = all c.in-Some.place (record { 0 = 0 }) (slice_get_within c.args_of-args.result.now c.in-Some.place c.in-Some.ensures.1.0 c.in-Some.ensures.1.1) in
    omega (arith, within, s.size, s.lists, c.loop-candidate.waiting.ok.0)

pub sort_of-requires : goal.sort_of-requires
sort_of-requires c =
    let g = c.args.sig.now in
    let s = c.loop-candidate.invariant.search in
    candidate_stands g c.requires.signature _ _ (first_is g _ _ _ c.args.candidates.now c.loop-candidate.candidate-index none c.loop-candidate-test.true s) s.size

pub mark-requires : goal.mark-requires
mark-requires c =
    let g = c.args.sig.now in
    let s = c.loop-candidate.invariant.search in
    result_is_mark g c.requires.signature _ _ (first_is g _ _ _ c.args.candidates.now c.loop-candidate.candidate-index none c.loop-candidate-test.true s) s.size c.sort_of.result c.sort_of.ensures

pub loop-candidate-preserved : goal.loop-candidate-preserved
loop-candidate-preserved c =
    let g = c.args.sig.now in
    let s = c.loop-candidate.invariant.search in
    let cs = c.args.candidates.now in
    let i = c.loop-candidate.candidate-index in
    let args = c.args_of-args.result.now in
    let cand = get_or cs i none in
    let front = first_left cs i none c.loop-candidate-test.true in
    let is = first_is g _ _ _ cs i none c.loop-candidate-test.true s in
    elim c.match-first_unmarked.branch [
      | in-Some+in_ok-push-in-Some w ↦
          let p = w.in-Some.place in
          let first : IsFirstUnmarked c.loop-candidate.marks.items args p = subst (λ (l : List Bool). IsFirstUnmarked l args p) c.as_slice.ensures.value w.in-Some.ensures in
          let below = slice_get_within args p first.1.0 first.1.1 in
          let a : SortId = get_or args p (record { 0 = 0 }) in
          let at : slice_get args p ≡ Some a = slice_get-get_or args p (record { 0 = 0 }) below in
          let same : a ≡ first.1.0 = get_or_from_slice_get args p first.1.0 (record { 0 = 0 }) first.1.1 in
          let within = arguments_are_marks g c.requires.signature _ _ is s.size args c.args_of-args.ensures p (record { 0 = 0 }) below in
          let list_below : a.0 < length c.loop-candidate.waiting.items = omega (arith, within, s.size, s.lists) in
          let so = candidate_waits g _ _ _ _ _ cand front s args p a (set c.loop-candidate.waiting.items a.0 w.push.new.self) w.push.new.self (entry_told g cand.fun args c.args_of-args.ensures) first.0 at (λ marked. first.1.2 (subst (λ (x : SortId). IsMarked c.loop-candidate.marks.items x.0) same marked)) list_below refl (w.in_ok-push-in-Some.ensures.items ∙ ap (λ l. l ++ record { fun = cand.fun; known = p } ∷ []) (sym (waiting_read c.loop-candidate.waiting.items a.0 w.index_mut.result.now list_below w.index_mut.ensures.value))) in
          record {
            search = rw (w.marks-is, w.ready-is, w.waiting-is) so;
            left = omega (arith, ap (λ v. unmarked_count v.items) w.marks-is, ap (λ v. length v.items) w.ready-is, c.loop-candidate.invariant.left);
          }
      | in-None+in_ok-mark-in-None w ↦
          let all : AreAllMarked c.loop-candidate.marks.items args = subst (λ (l : List Bool). AreAllMarked l args) c.as_slice.ensures.value w.in-None.ensures in
          let below = result_is_mark g c.requires.signature _ _ is s.size w.sort_of.result w.sort_of.ensures in
          let so = candidate_counts g _ _ _ _ _ cand front s args w.sort_of.result w.mark.new.marks.items w.mark.new.ready.items (both_told g cand.fun args w.sort_of.result c.args_of-args.ensures w.sort_of.ensures) all below w.in_ok-mark-in-None.ensures in
          record {
            search = rw (w.marks-is, w.ready-is, w.waiting-is) so;
            left = omega (arith, ap (λ v. unmarked_count v.items) w.marks-is, ap (λ v. length v.items) w.ready-is, c.loop-candidate.invariant.left, same_left w.sort_of.result _ _ _ _ below w.in_ok-mark-in-None.ensures);
          }
    ]

pub returns-clause-search : goal.returns-clause-search
returns-clause-search c = subst (IsSearch c.args.sig.now c.loop-candidate.marks.items c.loop-candidate.ready.items c.loop-candidate.waiting.items) (none_left c.args.candidates.now c.loop-candidate.candidate-index c.loop-candidate-test.false) c.loop-candidate.invariant.search
