-- What stands under the numbers of a signature and of a pool over it.
use Rattle.std.specs.Prelude.{List, [], map, get_or}
use Rattle.data_theory.specs.Keys.{Key}
use Rattle.data_theory.specs.Signature.{Sig}
use Rattle.data_theory.specs.Complete.{BeginsWith}
use Rattle.data_theory.specs.IdTrees.{Tree}
use Rattle.data_theory.specs.IdTerms.{sort_under, term_under, variable_sorts, IsGrown}
use Rattle.process_terms.specs.Meanings.{ActionEntry, Entries}

abbrev pub action_entry : Sig → Key → ActionEntry
action_entry g a = record { name = get_or g.texts a.name.0 []; sorts = map (sort_under g) a.sorts }

-- the entries of a signature and of the trees of a pool
abbrev pub entries_of : Sig → List Tree → Entries
entries_of g ts = record { texts = g.texts; actions = map (action_entry g) g.actions; variables = variable_sorts g; terms = map (term_under g) ts }

-- what is new comes behind the old ones in the tables of the signature, and behind the old trees in the pool
pub record BothGrow (g h : Sig) (ts us : List Tree) : Type 0 where
  pub signature : IsGrown g h
  pub pool : BeginsWith ts us
