-- The drafts of a product that are kept within what is allowed.
use Rattle.std.specs.Prelude.{◌≡◌, Bool, false, ◌&&◌, ◌||◌, List, [], ◌∷◌, ◌++◌, is_none, is_some, if◌then◌else◌}
use Rattle.std.specs.List.{All, list_any}
use Rattle.data_theory.specs.Signature.{Sig}
use Rattle.action_filters.specs.Filters.{AreActionsIn}
use Rattle.summand_expander.specs.declared.sides.Move.{Move}
use Rattle.summand_expander.specs.declared.sides.Draft.{Draft}
use Rattle.summand_expander.specs.Drafts.{PlainMove, PlainSide, PlainDraft}
use Rattle.summand_expander.specs.Pruned.{kept}
use Rattle.summand_expander.specs.PlainAllowed.{PlainAllowed}
use Rattle.summand_expander.specs.WithinProducts.{label_stays}

-- whether the names of a draft's label can be completed
abbrev pub draft_stays : Sig → PlainAllowed → PlainDraft → Bool
draft_stays g a d = label_stays g a d.label

-- whether it ends
abbrev pub is_last : PlainDraft → Bool
is_last d = is_none d.next

-- whether one that ends is still to be spared behind these
abbrev pub still_spares : {A : Type 0} → (A → Bool) → (A → Bool) → Bool → List A → Bool
still_spares passes ends spare [] = spare
still_spares passes ends spare (x ∷ xs) = if passes x then still_spares passes ends spare xs else (if spare && ends x then still_spares passes ends false xs else still_spares passes ends spare xs)

-- what is kept of these comes behind the old ones
pub record Keeps {A : Type 0} (passes ends : A → Bool) (xs : List A) (spare left : Bool) (old new : List A) : Type 0 where
  pub added : new ≡ old ++ kept passes ends spare xs
  pub spares : left ≡ still_spares passes ends spare xs

-- the actions of a side's summands are those of the signature
abbrev pub HasMovesIn : Sig → PlainSide → Type 0
HasMovesIn g x = All (λ (m : PlainMove). AreActionsIn g m.label) x.moves

-- a draft of both sides ends only where each of them has a flag, or a summand that ends
abbrev pub can_stop : PlainSide → Bool
can_stop x = is_some x.flag || list_any (λ (m : PlainMove). m.ends) x.moves

-- the same of what stands in memory
abbrev pub step_ends : Move → Bool
step_ends m = m.ends

abbrev pub draft_ends : Draft → Bool
draft_ends d = is_none d.next
