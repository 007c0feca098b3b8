-- Terms in which empty lists are still to be looked for.
use Rattle.std.specs.Prelude.{◌≡◌, ◌<◌, ◌+◌, ℕ, Bool, List, [], ◌∷◌, ◌++◌}
use Rattle.std.specs.List.{All}
use Rattle.data_theory.specs.declared.ids.FunId.{FunId}
use Rattle.data_theory.specs.Terms as terms
use Rattle.data_theory.specs.Terms.{Sort, Terms}
use Rattle.lps_printer.specs.declared.needs.Unseen.{Unseen}
use Rattle.lps_printer.specs.declared.term_writer.TermWriter as code
use Rattle.lps_printer.specs.Wordings.{Wording}
use Rattle.lps_printer.specs.CodeWordings.{terms_by, IsTermBy}
use Rattle.lps_printer.specs.NeededConstants.{nils, all_nils, FindsBy}
use Rattle.lps_printer.specs.PendingParts.{sizes}

-- the first one in a place of one kind, and the others in places of one kind
abbrev pub mixed_nils : (ℕ → Bool) → Bool → Bool → Terms → List Sort
mixed_nils o b d terms.none = []
mixed_nils o b d (terms.more t ts) = nils o b t ++ all_nils o d ts

abbrev pub unseen_nils : code.TermWriter → (ℕ → Bool) → Unseen → List Sort
unseen_nils c o u = mixed_nils o u.first_placed u.others_placed (terms_by c u.ids.now)

-- those of all that is left, the last ones first
abbrev pub nils_left : code.TermWriter → (ℕ → Bool) → List Unseen → List Sort
nils_left c o [] = []
nils_left c o (u ∷ us) = nils_left c o us ++ unseen_nils c o u

abbrev pub IsUnseen : code.TermWriter → Unseen → Type 0
IsUnseen c u = All (IsTermBy c) u.ids.now

abbrev pub unseen_weight : code.TermWriter → Unseen → ℕ
unseen_weight c u = 1 + sizes (terms_by c u.ids.now)

abbrev pub unseen_left : code.TermWriter → List Unseen → ℕ
unseen_left c [] = 0
unseen_left c (u ∷ us) = unseen_weight c u + unseen_left c us

-- Some terms are left behind the earlier ones, which weigh less than the limit. Where what they have is found next, whatever comes behind,
-- what is met has been found.
pub record LooksInto (c : code.TermWriter) (limit : ℕ) (old new : List FunId) (before after : List Unseen) (met : Wording → List Sort) : Type 0 where
  pub left : List Unseen
  pub are : after ≡ before ++ left
  pub stand : All (IsUnseen c) left
  pub less : unseen_left c left < limit
  pub finds : (final : List FunId) (rest : Wording → List Sort) → FindsBy c new final (λ w. nils_left c w.names.once left ++ rest w) → FindsBy c old final (λ w. met w ++ rest w)
