-- Rows of answers, one action after another.
use Rattle.std.specs.Prelude.{◌≡◌, ◌<◌, ◌+◌, ◌++◌, ℕ, List, [], ◌∷◌, length, map, take, slice_index_or}
use Rattle.std.proofs.Common.{sym, subst, ap, ◌∙◌}
use Rattle.std.specs.Global.{Vec}
use Rattle.std.specs.List.{All}
use Rattle.std.proofs.lemmas.List.{length-map, map-append}
use Rattle.std.proofs.lemmas.List.Elements.{All-contains, Contains-get_or}
use Rattle.std.specs.List.{Contains}
use Rattle.data_theory.specs.IdTrees.{Tree}
use Rattle.data_theory.specs.Signature.{Sig}
use Rattle.data_theory.specs.WholeSignatures.{IsSignature}
use Rattle.term_pool.specs.Pools.{Extends}
use Rattle.process_terms.specs.declared.labels.Action.{Action as CodeAction}
use Rattle.process_terms.specs.Labels.{Action, Label}
use Rattle.process_terms.specs.Meanings.{action_of, label_of}
use Rattle.process_terms.specs.PlainProcesses.{PlainAction, plain_action}
use Rattle.process_terms.specs.SignatureEntries.{entries_of}
use Rattle.lps_core.proofs.Members.{map_contains}
use Rattle.trace_replay.specs.declared.deciding.Answer.{Answer as CodeAnswer}
use Rattle.trace_replay.specs.DecidedConditions.{answer_of}
use Rattle.trace_replay.specs.Decidings.{Answer}
use Rattle.trace_replay.specs.Settings.{Setting}
use Rattle.aut_check.specs.Comparing.{ActionsCome, AreActionRows, IsActionRow, IsClosedIn}
use Rattle.aut_check.specs.Tables.{answers_of, tables_of}
use Rattle.aut_check.proofs.ClosedTerms.{action_means, closed_label_means, label_taken}
use Rattle.aut_check.proofs.TableLaws.{zip_push}

pub closed_at : (g : Sig) (ts : List Tree) (xs : List CodeAction) (i : ℕ) (x : CodeAction) → i < length xs → x ≡ slice_index_or xs i x → All (IsClosedIn g ts) (map plain_action xs) → IsClosedIn g ts (plain_action x)
closed_at g ts xs i x l e h = All-contains (IsClosedIn g ts) (map plain_action xs) (plain_action x) h (map_contains plain_action xs x (subst (λ (z : CodeAction). Contains xs z) (sym e) (Contains-get_or xs i x l)))

pub label_length : (g : Sig) (ts : List Tree) (xs : List PlainAction) → length (label_of (entries_of g ts) xs) ≡ length xs
label_length g ts xs = length-map xs (action_of (entries_of g ts))

pub sliced : (xs ys : List CodeAction) → length xs ≡ length ys → length (map plain_action xs) ≡ length (map plain_action ys)
sliced xs ys e = length-map xs plain_action ∙ e ∙ sym (length-map ys plain_action)

pub same_length : (g : Sig) (ts : List Tree) (xs ys : List CodeAction) → length (label_of (entries_of g ts) (map plain_action xs)) ≡ length (label_of (entries_of g ts) (map plain_action ys)) → length xs ≡ length ys
same_length g ts xs ys e = sym (length-map xs plain_action) ∙ sym (label_length g ts (map plain_action xs)) ∙ e ∙ label_length g ts (map plain_action ys) ∙ length-map ys plain_action

module _ (g : Sig) (stands : IsSignature g) (ts us : List Tree) (grows : Extends ts us) (s : Setting) where
  pub action_turn : (action : PlainAction) (others : List CodeAction) (i : ℕ) (other : CodeAction) → i < length others → other ≡ slice_index_or others i other → IsClosedIn g ts action → IsClosedIn g ts (plain_action other) → (row new : List CodeAnswer) (a : CodeAnswer) → new ≡ row ++ a ∷ []
      → IsActionRow s (label_of (entries_of g ts) (map plain_action (take i others))) (action_of (entries_of g ts) action) (answers_of row) → ActionsCome s (action_of (entries_of g us) action) (action_of (entries_of g us) (plain_action other)) (answer_of a)
      → IsActionRow s (label_of (entries_of g ts) (map plain_action (take (i + 1) others))) (action_of (entries_of g ts) action) (answers_of new)
  action_turn action others i other l e h k row new a pushed so_far comes =
      subst (λ (z : List Answer). IsActionRow s (label_of (entries_of g ts) (map plain_action (take (i + 1) others))) (action_of (entries_of g ts) action) z) (sym (ap answers_of pushed ∙ map-append answer_of row (a ∷ [])))
      (subst (λ (z : Label). IsActionRow s z (action_of (entries_of g ts) action) (answers_of row ++ answer_of a ∷ [])) (sym (label_taken g ts others i other l e))
      (zip_push (ActionsCome s (action_of (entries_of g ts) action)) (label_of (entries_of g ts) (map plain_action (take i others))) (answers_of row) (action_of (entries_of g ts) (plain_action other)) (answer_of a) so_far
      (subst (λ (z : Action). ActionsCome s z (action_of (entries_of g ts) (plain_action other)) (answer_of a)) (action_means g stands ts us grows action h.stands)
      (subst (λ (z : Action). ActionsCome s (action_of (entries_of g us) action) z (answer_of a)) (action_means g stands ts us grows (plain_action other) k.stands) comes))))

  pub row_turn : (actions others : List CodeAction) (i : ℕ) (action : CodeAction) → i < length actions → action ≡ slice_index_or actions i action → IsClosedIn g ts (plain_action action) → All (IsClosedIn g ts) (map plain_action others) → (rows new : List (Vec CodeAnswer)) (row : Vec CodeAnswer) → new ≡ rows ++ row ∷ []
      → AreActionRows s (label_of (entries_of g ts) (map plain_action (take i actions))) (label_of (entries_of g ts) (map plain_action others)) (tables_of rows)
      → IsActionRow s (label_of (entries_of g us) (map plain_action others)) (action_of (entries_of g us) (plain_action action)) (answers_of row.items)
      → AreActionRows s (label_of (entries_of g ts) (map plain_action (take (i + 1) actions))) (label_of (entries_of g ts) (map plain_action others)) (tables_of new)
  row_turn actions others i action l e h k rows new row pushed so_far comes =
      let n : Label = label_of (entries_of g ts) (map plain_action others) in
      subst (λ (z : List (List Answer)). AreActionRows s (label_of (entries_of g ts) (map plain_action (take (i + 1) actions))) n z) (sym (ap tables_of pushed ∙ map-append (λ (v : Vec CodeAnswer). answers_of v.items) rows (row ∷ [])))
      (subst (λ (z : Label). AreActionRows s z n (tables_of rows ++ answers_of row.items ∷ [])) (sym (label_taken g ts actions i action l e))
      (zip_push (IsActionRow s n) (label_of (entries_of g ts) (map plain_action (take i actions))) (tables_of rows) (action_of (entries_of g ts) (plain_action action)) (answers_of row.items) so_far
      (subst (λ (z : Action). IsActionRow s n z (answers_of row.items)) (action_means g stands ts us grows (plain_action action) h.stands)
      (subst (λ (z : Label). IsActionRow s z (action_of (entries_of g us) (plain_action action)) (answers_of row.items)) (closed_label_means g stands ts us grows (map plain_action others) k) comes))))
