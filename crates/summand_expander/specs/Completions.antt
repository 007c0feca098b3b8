-- Names on the way to be completed by a set, as plain data.
use Rattle.std.specs.Prelude.{◌≡◌, ◌+◌, ◌<◌, ℕ, Bool, List, [], ◌∷◌, ◌++◌, length, Contains, Option, Some, None, MatchOption}
use Rattle.std.specs.List.{list_any}
use Rattle.data_theory.specs.declared.ids.NameId.{NameId}
use Rattle.action_filters.specs.NameTests.{where_some, without_one}
use Rattle.action_filters.specs.Filters.{same_name}
use Rattle.communication.specs.Ways.{Joining}
use Rattle.summand_expander.specs.CompletableTests.{is_contained, all_opened}
use Rattle.summand_expander.specs.declared.completions.Completion.{Completion}

-- wanted names, names that were given, and members of the set that stand for nothing, or for a name that is wanted no more
pub record PlainCompletion : Type 0 where
  pub wanted : List NameId
  pub given : List NameId
  pub free : List NameId
  pub kept : List NameId

abbrev pub plain_completion : Completion → PlainCompletion
plain_completion s = record { wanted = s.wanted.items; given = s.given.items; free = s.free.items; kept = s.kept.items }

-- how many members there are
abbrev pub members : PlainCompletion → ℕ
members s = length s.free + length s.kept

-- the names, with those that members stand for, are among what was given and what the members may have come from
abbrev pub completes_behind : List (Joining NameId) → PlainCompletion → Bool
completes_behind rules s = list_any (λ os. is_contained same_name (s.wanted ++ s.kept) (s.given ++ os)) (all_opened same_name rules (s.free ++ s.kept))

-- ---- a name that something stands for
abbrev pub by_member : NameId → PlainCompletion → Option (List NameId) → Option PlainCompletion
by_member n s None = None
by_member n s (Some free) = Some (record { wanted = s.wanted; given = s.given; free = free; kept = s.kept ++ n ∷ [] })

abbrev pub by_given : NameId → PlainCompletion → Option (List NameId) → Option PlainCompletion
by_given n s None = by_member n s (without_one same_name n s.free)
by_given n s (Some given) = Some (record { wanted = s.wanted; given = given; free = s.free; kept = s.kept })

abbrev pub stood_for : NameId → PlainCompletion → Option PlainCompletion
stood_for n s = by_given n s (without_one same_name n s.given)

-- nothing stands for a name that is wanted
pub record IsMissing (s : PlainCompletion) (n : NameId) : Type 0 where
  pub wanted : Contains s.wanted n
  pub not_given : without_one same_name n s.given ≡ None
  pub not_free : without_one same_name n s.free ≡ None

abbrev pub missing_or_done : PlainCompletion → Option NameId → Type 0
missing_or_done s found = MatchOption found (s.wanted ≡ []) (IsMissing s)

-- ---- a member that is opened
-- without a member, for which a name is wanted again where it stood for one
abbrev pub without_kept : NameId → PlainCompletion → Option (List NameId) → Option PlainCompletion
without_kept n s None = None
without_kept n s (Some kept) = Some (record { wanted = s.wanted ++ n ∷ []; given = s.given; free = s.free; kept = kept })

abbrev pub without_free : NameId → PlainCompletion → Option (List NameId) → Option PlainCompletion
without_free n s None = without_kept n s (without_one same_name n s.kept)
without_free n s (Some free) = Some (record { wanted = s.wanted; given = s.given; free = free; kept = s.kept })

abbrev pub with_member_out : NameId → PlainCompletion → Option PlainCompletion
with_member_out n s = without_free n s (without_one same_name n s.free)

abbrev pub giving : List NameId → Option PlainCompletion → Option PlainCompletion
giving left None = None
giving left (Some s) = Some (record { wanted = s.wanted; given = s.given ++ left; free = s.free; kept = s.kept })

abbrev pub opened : Joining NameId → PlainCompletion → Option PlainCompletion
opened c s = giving c.left (with_member_out c.result s)

-- the names are completed once a member is opened by this rule
abbrev pub opens_behind : List (Joining NameId) → PlainCompletion → Joining NameId → Bool
opens_behind rules s c = where_some (completes_behind rules) (opened c s)

-- an answer, or another completion of fewer members with the same answer
abbrev pub goes_on : List (Joining NameId) → PlainCompletion → PlainCompletion → Option Bool → Type 0
goes_on rules s t answer = MatchOption answer ((completes_behind rules s ≡ completes_behind rules t) × (members t < members s)) (λ can. can ≡ completes_behind rules s)
