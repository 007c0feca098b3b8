-- Reading choices line by line.
use Rattle.std.proofs.Common.{◌≡◌, ◌+◌, ℕ, suc, Bool, true, false, List, [], ◌∷◌, ◌++◌, length, Option, Some, None, sym, subst, ◌∙◌, append_assoc, append-nil, add-one}
use Rattle.std.proofs.lemmas.List.{nil_from_length}
use Rattle.trace_replay.specs.Lines.{lines_of}
use Rattle.chosen_moves.specs.declared.choices.Choice.{Choice}
use Rattle.chosen_moves.specs.Choices.{HaveChoices, no_more_lines, other_line, blank_line, number_line, IsReadLine, nothing_chosen, one_chosen, other_there}

-- what the lines that are left choose is chosen behind what was read of all
abbrev pub ReadsTo : List (List ℕ) → ℕ → List (List ℕ) → List Choice → Type 0
ReadsTo all k left read = (cs : List Choice) (bad : Option ℕ) → HaveChoices k left cs bad → HaveChoices 1 all (read ++ cs) bad

pub nothing_read : (all : List (List ℕ)) (read : List Choice) → read ≡ [] → ReadsTo all 1 all read
nothing_read all read none cs bad h = subst (λ (xs : List Choice). HaveChoices 1 all (xs ++ cs) bad) (sym none) h

module _ (all : List (List ℕ)) (k : ℕ) (here : List (List ℕ)) (line : List ℕ) (lines : List (List ℕ)) (old new : List Choice) (good : Bool) (so_far : ReadsTo all k here old) (is : here ≡ line ∷ lines) where
  at_the_line : (cs : List Choice) (bad : Option ℕ) → HaveChoices k (line ∷ lines) cs bad → HaveChoices 1 all (old ++ cs) bad
  at_the_line cs bad h = so_far cs bad (subst (λ (ls : List (List ℕ)). HaveChoices k ls cs bad) (sym is) h)

  -- a line that is blank or a number is behind
  pub line_read : IsReadLine line k old new good → good ≡ true → ReadsTo all (k + 1) lines new
  line_read read fine = rw (add-one k) (by_line read)
    where
      by_line : IsReadLine line k old new good → ReadsTo all (suc k) lines new
      by_line (nothing_chosen blank same fine_too) = λ cs bad h. subst (λ (xs : List Choice). HaveChoices 1 all (xs ++ cs) bad) (sym same) (at_the_line cs bad (blank_line blank h))
      by_line (one_chosen number is_number same fine_too) = λ cs bad h.
          subst (λ (xs : List Choice). HaveChoices 1 all (xs ++ cs) bad) (sym same)
          (subst (λ (xs : List Choice). HaveChoices 1 all xs bad) (sym (append_assoc old (record { line = k; number = number } ∷ []) cs))
          (at_the_line (record { line = k; number = number } ∷ cs) bad (number_line is_number h)))
      by_line (other_there other same bad_line) = let never : true ≡ false = sym fine ∙ bad_line in absurd cc

  -- another line ends the reading
  pub other_read : IsReadLine line k old new good → good ≡ false → HaveChoices 1 all new (Some k)
  other_read (nothing_chosen blank same fine_too) bad_line = let never : true ≡ false = sym fine_too ∙ bad_line in absurd cc
  other_read (one_chosen number is_number same fine_too) bad_line = let never : true ≡ false = sym fine_too ∙ bad_line in absurd cc
  other_read (other_there other same is_bad) bad_line =
      subst (λ (xs : List Choice). HaveChoices 1 all xs (Some k)) (sym same)
      (subst (λ (xs : List Choice). HaveChoices 1 all xs (Some k)) (append-nil old) (at_the_line [] (Some k) (other_line other)))

-- where no line is left, all were read
pub all_read : (text rest : List ℕ) (k : ℕ) (read : List Choice) → length rest ≡ 0 → ReadsTo (lines_of text) k (lines_of rest) read → HaveChoices 1 (lines_of text) read None
unfolding lines_of
all_read text rest k read none so_far =
    let empty : rest ≡ [] = nil_from_length rest none in
    let last : ReadsTo (lines_of text) k (lines_of []) read = subst (λ (r : List ℕ). ReadsTo (lines_of text) k (lines_of r) read) empty so_far in
    subst (λ (xs : List Choice). HaveChoices 1 (lines_of text) xs None) (append-nil read) (last [] None no_more_lines)
