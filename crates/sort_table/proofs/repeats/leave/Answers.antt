use Rattle.std.proofs.Common.{◌≡◌, ◌<◌, ◌≤◌, ℕ, List, cond, sym, ap, ◌∙◌, arith}
use Rattle.std.specs.Prelude.{Some, bytes_eq}
use Rattle.std.specs.Option.{option_copied}
use Rattle.std.proofs.lemmas.Option.{none-some, same_Some}
use Rattle.std.proofs.lemmas.Map.Text.{btree_map_updates_str}
use Rattle.sort_table.specs.SortIndexes.{place_under}
use Rattle.sort_table.specs.Repeats.{mark_of}
use Rattle.sort_table.proofs.MeetingMarks.{known_kept, known_put}
use Rattle.sort_table.proofs.repeats.leave.Goals.{in-Some+else-number-entry, in_default}
use Rattle.sort_table.proofs.repeats.leave.Goals as goal

pub returns-then-number-entry : goal.returns-then-number-entry
returns-then-number-entry c = λ ms place at known.
    known_kept c.args.least.now ms place (mark_of c.args.entry.now) c.in-Some.number.now at (sym (c.in-Some.ensures.value ∙ ap (place_under c.args.least.now) c.as_slice.ensures.value)) c.if-number-entry.true known

pub returns : goal.returns
returns c = λ ms place at known.
    let left : List ℕ = c.args.entry.now.left.items in
    let low : (k : ℕ) → place_under c.args.least.now left ≡ Some k → c.args.entry.now.number ≤ k = λ k under. elim c.match-get.branch [
      | in-Some+else-number-entry w ↦
          let same : w.in-Some.number.now ≡ k = same_Some w.in-Some.number.now k (w.in-Some.ensures.value ∙ (ap (place_under c.args.least.now) c.as_slice.ensures.value ∙ under)) in
          let less : c.args.entry.now.number < w.in-Some.number.now = w.if-number-entry.false in
          omega (arith, same, less)
      | in_default w ↦ absurd (none-some k (sym (ap option_copied w.in_default.is) ∙ (c.get.ensures.value ∙ (ap (place_under c.args.least.now) c.as_slice.ensures.value ∙ under))))
    ] in
    known_put c.args.least.now c.insert.new.self ms place (mark_of c.args.entry.now) at low
    (λ key. btree_map_updates_str c.as_slice-2.result.now c.args.least.now c.insert.new.self (Some c.args.entry.now.number) c.in_ok-insert.ensures.updates key
    ∙ ap (λ (bs : List ℕ). cond (bytes_eq bs key) (Some c.args.entry.now.number) (place_under c.args.least.now key)) c.as_slice-2.ensures.value) known
