-- The entries of a signature and of a pool that grow.
use Rattle.std.proofs.Common.{◌≡◌, ◌<◌, List, [], ◌++◌, map, length, sym, ap, ap₂, ◌∙◌}
use Rattle.std.specs.List.{All}
use Rattle.std.proofs.lemmas.List.{append-nil, map-append}
use Rattle.data_theory.specs.declared.ids.SortId.{SortId}
use Rattle.data_theory.specs.declared.signature.Variable.{Variable}
use Rattle.data_theory.specs.Keys.{Key}
use Rattle.data_theory.specs.Signature.{Sig}
use Rattle.data_theory.specs.Complete.{BeginsWith, IsActionWithin}
use Rattle.data_theory.specs.IdTerms.{sort_under, term_under, IsTreeWithin, IsGrown}
use Rattle.data_theory.proofs.IdSortLemmas.{growth_keeps_meant_sorts}
use Rattle.data_theory.proofs.IdTermLemmas.{growth_keeps_meant_terms}
use Rattle.process_terms.specs.SignatureEntries.{action_entry}
use Rattle.process_terms.specs.MeaningLaws.{PoolsAddEntries, SignaturesAddEntries}
use Rattle.process_terms.proofs.MeaningLemmas.{entry_stays, all_same}

-- the numbers stand in the tables of the signature
abbrev HasSortNumber : Sig → SortId → Type 0
HasSortNumber g s = s.0 < length g.sorts

abbrev HasActionNumbers : Sig → Key → Type 0
HasActionNumbers g a = IsActionWithin (length g.texts) (length g.sorts) a

abbrev HasVariableNumbers : Sig → Variable → Type 0
HasVariableNumbers g v = (v.name.0 < length g.texts) × HasSortNumber g v.sort

unchanged : {A : Type 0} (xs : List A) → BeginsWith xs xs
unchanged xs = ([], sym (append-nil xs))

-- what is read of longer lists, where the old elements are read as before
mapped_begins : {A B : Type 0} (P : A → Type 0) (f g : A → B) → ((x : A) → P x → g x ≡ f x) → (xs ys : List A) → BeginsWith xs ys → All P xs → BeginsWith (map f xs) (map g ys)
mapped_begins P f g same xs ys e h = (map g e.0, ap (map g) e.1 ∙ map-append g xs e.0 ∙ ap (λ zs. zs ++ map g e.0) (all_same P f g same xs h))

pub pools_add_entries : PoolsAddEntries
pools_add_entries g ts us e = record {
  texts = unchanged g.texts;
  actions = unchanged _;
  variables = unchanged _;
  terms = (map (term_under g) e.0, ap (map (term_under g)) e.1 ∙ map-append (term_under g) ts e.0);
}

sorts_stay : (g h : Sig) → IsGrown g h → (ss : List SortId) → All (HasSortNumber g) ss → map (sort_under h) ss ≡ map (sort_under g) ss
sorts_stay g h grown ss within = all_same (HasSortNumber g) (sort_under g) (sort_under h) (growth_keeps_meant_sorts g h grown) ss within

action_stays : (g h : Sig) → IsGrown g h → (a : Key) → HasActionNumbers g a → action_entry h a ≡ action_entry g a
action_stays g h grown a within =
    let name = entry_stays g.texts h.texts [] a.name.0 (grown.new_texts, grown.texts) within.named in
    ap₂ (λ n ss. record { name = n; sorts = ss }) name.0 (sorts_stay g h grown a.sorts within.takes)

pub signatures_add_entries : SignaturesAddEntries
signatures_add_entries g h ts us table complete within grow = record {
  texts = (grow.signature.new_texts, grow.signature.texts);
  actions = mapped_begins (HasActionNumbers g) (action_entry g) (action_entry h) (action_stays g h grow.signature) g.actions h.actions (grow.signature.new_actions, grow.signature.actions) complete.within.actions;
  variables = mapped_begins (HasVariableNumbers g) (λ (v : Variable). sort_under g v.sort) (λ (v : Variable). sort_under h v.sort) (λ v known. growth_keeps_meant_sorts g h grow.signature v.sort known.1) g.variables h.variables
      (grow.signature.new_variables, grow.signature.variables) complete.within.variables;
  terms = mapped_begins (IsTreeWithin g) (term_under g) (term_under h) (growth_keeps_meant_terms g h table grow.signature) ts us grow.pool within;
}
