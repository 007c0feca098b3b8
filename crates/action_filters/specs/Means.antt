-- What a filtered process in code means: what comes of the meaning of the first one.
use Rattle.std.specs.Prelude.{◌≡◌, List, map}
use Rattle.data_theory.specs.declared.ids.NameId.{NameId}
use Rattle.data_theory.specs.Signature.{Sig}
use Rattle.data_theory.specs.IdTrees.{Tree}
use Rattle.process_terms.specs.Meanings.{name_at, renaming_of}
use Rattle.process_terms.specs.SignatureEntries.{entries_of}
use Rattle.bisim_laws.specs.LinearProcesses.{Linear}
use Rattle.lps_core.specs.PlainLinears.{PlainLinear, linear_of}
use Rattle.lps_core.specs.Fitting.{Fits}
use Rattle.action_filters.specs.Filtering.{allowing, blocking, hiding, renaming}

-- over each pool that the first one fits, the second one means what f makes of the meaning of the first one
abbrev pub Means : Sig → (List Tree → Linear → Linear) → PlainLinear → PlainLinear → Type 0
Means g f l k = (ts : List Tree) → Fits g ts l → linear_of (entries_of g ts) k ≡ f ts (linear_of (entries_of g ts) l)

abbrev pub MeansAllowing : Sig → List (List NameId) → PlainLinear → PlainLinear → Type 0
MeansAllowing g sets = Means g (λ ts. allowing (map (map (name_at (entries_of g ts))) sets))

abbrev pub MeansBlocking : Sig → List NameId → PlainLinear → PlainLinear → Type 0
MeansBlocking g names = Means g (λ ts. blocking (map (name_at (entries_of g ts)) names))

abbrev pub MeansHiding : Sig → List NameId → PlainLinear → PlainLinear → Type 0
MeansHiding g names = Means g (λ ts. hiding (map (name_at (entries_of g ts)) names))

abbrev pub MeansRenaming : Sig → List (NameId × NameId) → PlainLinear → PlainLinear → Type 0
MeansRenaming g pairs = Means g (λ ts. renaming (map (renaming_of (entries_of g ts)) pairs))
