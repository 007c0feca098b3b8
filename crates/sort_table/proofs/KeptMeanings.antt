-- What the names and numbers of sorts mean stays the same.
use Rattle.std.proofs.Common.{◌≡◌, ◌<◌, List, length, ap, sym, ◌∙◌, arith}
use Rattle.std.specs.Prelude.{Some}
use Rattle.data_theory.specs.declared.ids.SortId.{SortId}
use Rattle.data_theory.specs.IdTerms.{sort_under}
use Rattle.data_theory.specs.Signature.{Sig}
use Rattle.sort_table.specs.Expressions.{Name}
use Rattle.sort_table.specs.NamedLists.{first_named}
use Rattle.sort_table.specs.BareSorts.{SortExpression}
use Rattle.sort_table.specs.Vocabularies.{sort_in}
use Rattle.sort_table.specs.NamedSorts.{IsNamed, sort_names_of}
use Rattle.sort_table.specs.EnteredFunctions.{HasSortOf, HaveSortsOf, IsReadable, Keeps}
use Rattle.sort_table.specs.EnteredActions.{no_actions}
use Rattle.sort_table.specs.TakenTexts.{TakesTexts}
use Rattle.sort_table.specs.WrittenLists.{IsPartSort}
use Rattle.sort_table.proofs.Growing.{pairs_with}

pub record KeepsMeanings (g h : Sig) : Type 0 where
  pub names : sort_names_of h ≡ sort_names_of g
  pub sorts : (s : SortId) → s.0 < length g.sorts → (s.0 < length h.sorts) × (sort_under h s ≡ sort_under g s)

pub meanings_then : (g h k : Sig) → KeepsMeanings g h → KeepsMeanings h k → KeepsMeanings g k
meanings_then g h k a b = record {
  names = b.names ∙ a.names;
  sorts = λ s l. (let first = a.sorts s l in let then = b.sorts s first.0 in (then.0, then.1 ∙ first.1));
}

pub by_kept : (g h : Sig) → Keeps g h → KeepsMeanings g h
by_kept g h keeps = record { names = keeps.names; sorts = keeps.sorts }

pub by_actions : (g h : Sig) → Keeps (no_actions g) (no_actions h) → KeepsMeanings g h
by_actions g h keeps = record { names = keeps.names; sorts = keeps.sorts }

pub by_texts : (g h : Sig) (ts : List Name) → TakesTexts ts g h → KeepsMeanings g h
by_texts g h ts takes = record {
  names = ap sort_names_of takes.same;
  sorts = λ s l. (let long = ap (λ (x : Sig). length x.sorts) takes.same in omega (arith, l, long), ap (λ (x : Sig). sort_under x s) takes.same);
}

module _ (g h : Sig) (keeps : KeepsMeanings g h) where
  pub sort_stays : (e : SortExpression) (s : SortId) → HasSortOf g e s → HasSortOf h e s
  sort_stays e s has =
      let there = keeps.sorts s has.within in
      record { within = there.0; meant = ap (λ ns. sort_in ns e) keeps.names ∙ (has.meant ∙ ap Some (sym there.1)) }

  pub sorts_stay : (es : List SortExpression) (ss : List SortId) → HaveSortsOf g es ss → HaveSortsOf h es ss
  sorts_stay es ss have = pairs_with (HasSortOf g) (HasSortOf h) sort_stays es ss have

  pub readable_stays : (e : SortExpression) → IsReadable g e → IsReadable h e
  readable_stays e is = (is.0, sort_stays e is.0 is.1)

  pub named_stays : (n : Name) → IsNamed g n → IsNamed h n
  named_stays n is = (is.0, ap (first_named n) keeps.names ∙ is.1)

  pub part_stays : (e : SortExpression) (l : SortId) → l.0 < length g.sorts → IsPartSort e g l → IsPartSort e h l
  part_stays e l low p = record { part = p.part; within = p.within; meant = ap (λ ns. sort_in ns p.part) keeps.names ∙ (p.meant ∙ ap Some (sym (keeps.sorts l low).1)) }
