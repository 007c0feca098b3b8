-- Lists with a separator, read one item after the other: an item, and as long as a separator stands behind it, a further one.
use Rattle.std.proofs.Common.{◌≡◌, List, [], ◌∷◌, ◌++◌, map, refl, sym, ap, ◌∙◌, subst, append_assoc}
use Rattle.mcrl2_lexer.specs.declared.kind.Kind.{Kind}
use Rattle.mcrl2_lexer.specs.declared.token.Token.{Token}
use Rattle.mcrl2_syntax.specs.Words.{Begins}
use Rattle.mcrl2_syntax.specs.SpelledWords.{SpellsList, last_item, more_items}
use Rattle.mcrl2_syntax.proofs.Lists.{tails, moved}

-- a tree that is pushed stands last among the plain ones
map_pushed : {Tree Item : Type 0} (plain : Tree → Item) (xs : List Tree) (x : Tree) → map plain (xs ++ x ∷ []) ≡ map plain xs ++ plain x ∷ []
map_pushed plain [] x = refl
map_pushed plain (y ∷ ys) x = ap (λ zs. plain y ∷ zs) (map_pushed plain ys x)

-- Trees of type `Tree` are read, `plain` is what is said of them, and `Stop` says what can't follow an item.
module _ {Tree Item : Type 0} (plain : Tree → Item) (spells : Item → List Token → List Token → Type 0) (separator : Kind) (Stop : List Token → Type 0) where
  abbrev pub IsList : List Item → List Token → List Token → Type 0
  IsList = SpellsList spells separator

  -- What spells the rest spells the whole, with the trees in front, and the other way round.
  pub record ListLeft (tokens : List Token) (front : List Tree) (rest : List Token) : Type 0 where
    pub whole : (items : List Item) (after : List Token) → IsList items rest after → IsList (map plain front ++ items) tokens after
    pub only : (items : List Item) (after : List Token) → IsList items tokens after → Stop after → (Begins separator after → ⊥)
        → (others : List Item) × (items ≡ map plain front ++ others) × IsList others rest after

  -- the one reading of a front of the tokens
  abbrev pub IsOnly : List Token → Tree → List Token → Type 0
  IsOnly tokens tree rest = (item : Item) (after : List Token) → spells item tokens after → Stop after → (plain tree ≡ item) × (rest ≡ after)

  -- a separator stops an item
  abbrev pub Separates : Type 0
  Separates = (sign : Token) (after : List Token) → sign.kind ≡ separator → Stop (sign ∷ after)

  pub list_begins : (tokens : List Token) → ListLeft tokens [] tokens
  list_begins tokens = record { whole = λ items after spelled. spelled; only = λ items after spelled stops ends. (items, refl, spelled) }

  -- the trees in front, and a further one
  pushed_front : (front : List Tree) (tree : Tree) {longer : List Tree} (items : List Item) → longer ≡ front ++ tree ∷ [] → map plain front ++ plain tree ∷ items ≡ map plain longer ++ items
  pushed_front front tree items pushed =
      sym (append_assoc (map plain front) (plain tree ∷ []) items) ∙ ap (λ (x : List Item). x ++ items) (sym (ap (map plain) pushed ∙ map_pushed plain front tree))

  -- the rest of a list behind a tree that was read, where a separator stands behind that
  more_behind : {rest behind next after : List Token} {tree : Tree} {sign : Token} {items : List Item} → Separates → IsOnly rest tree behind → behind ≡ sign ∷ next → sign.kind ≡ separator
      → IsList items rest after → Stop after → (Begins separator after → ⊥) → (others : List Item) × (items ≡ plain tree ∷ others) × IsList others next after
  more_behind {next = next} {after = after} {sign = sign} separates only is kind (last_item {item = item} read) stops ends =
      let same = only item after read stops in
      absurd (ends (moved separator {q = sign ∷ next} {r = after} (sym is ∙ same.1) kind))
  more_behind {behind = behind} {next = next} {after = after} separates only is kind (more_items {item = item} {items = items} {sign = other} {us = us} read is_other spelled) stops ends =
      let same = only item (other ∷ us) read (separates other us is_other) in
      (items, ap (λ (x : Item). x ∷ items) (sym same.0), subst (λ (x : List Token). IsList items x after) (sym (tails (sym is ∙ same.1))) spelled)

  pub goes_on : {tokens rest behind next : List Token} {front longer : List Tree} {tree : Tree} {sign : Token} → Separates → ListLeft tokens front rest → longer ≡ front ++ tree ∷ []
      → behind ≡ sign ∷ next → sign.kind ≡ separator → spells (plain tree) rest behind → IsOnly rest tree behind → ListLeft tokens longer next
  goes_on {tokens = tokens} {rest = rest} {behind = behind} {next = next} {front = front} {longer = longer} {tree = tree} {sign = sign} separates left pushed is kind read only = record {
    whole = λ items after spelled. subst (λ (x : List Item). IsList x tokens after) (pushed_front front tree items pushed)
        (left.whole (plain tree ∷ items) after (more_items (subst (λ (x : List Token). spells (plain tree) rest x) is read) kind spelled));
    only = λ items after spelled stops ends.
        let here = left.only items after spelled stops ends in
        let more = more_behind separates only is kind here.2 stops ends in
        (more.0, here.1 ∙ ap (λ (x : List Item). map plain front ++ x) more.1 ∙ pushed_front front tree more.0 pushed, more.2);
  }

  pub ends_found : {tokens rest behind : List Token} {front longer : List Tree} {tree : Tree} → ListLeft tokens front rest → longer ≡ front ++ tree ∷ [] → spells (plain tree) rest behind
      → IsList (map plain longer) tokens behind
  ends_found {tokens = tokens} {behind = behind} {front = front} {tree = tree} left pushed read =
      subst (λ (x : List Item). IsList x tokens behind) (sym (ap (map plain) pushed ∙ map_pushed plain front tree)) (left.whole (plain tree ∷ []) behind (last_item read))

  -- behind a tree that was read no separator stands
  last_behind : {rest behind after : List Token} {tree : Tree} {items : List Item} → Separates → IsOnly rest tree behind → (Begins separator behind → ⊥)
      → IsList items rest after → Stop after → (items ≡ plain tree ∷ []) × (behind ≡ after)
  last_behind {after = after} separates only none (last_item {item = item} read) stops =
      let same = only item after read stops in (ap (λ (x : Item). x ∷ []) (sym same.0), same.1)
  last_behind {behind = behind} separates only none (more_items {item = item} {sign = other} {us = us} read is_other spelled) stops =
      let same = only item (other ∷ us) read (separates other us is_other) in
      absurd (none (moved separator {q = other ∷ us} {r = behind} (sym same.1) is_other))

  pub ends_only : {tokens rest behind : List Token} {front longer : List Tree} {tree : Tree} → Separates → ListLeft tokens front rest → longer ≡ front ++ tree ∷ []
      → (Begins separator behind → ⊥) → IsOnly rest tree behind
      → (items : List Item) (after : List Token) → IsList items tokens after → Stop after → (Begins separator after → ⊥) → (map plain longer ≡ items) × (behind ≡ after)
  ends_only {front = front} {tree = tree} separates left pushed none only items after spelled stops ends =
      let here = left.only items after spelled stops ends in
      let last = last_behind separates only none here.2 stops in
      (ap (map plain) pushed ∙ map_pushed plain front tree ∙ sym (here.1 ∙ ap (λ (x : List Item). map plain front ++ x) last.0), last.1)

  -- what holds wherever an item stands at the front of the rest
  at_first : {Goal : Type 0} {rest after : List Token} {items : List Item} → Separates → ((item : Item) (behind : List Token) → spells item rest behind → Stop behind → Goal)
      → IsList items rest after → Stop after → Goal
  at_first {after = after} separates each (last_item {item = item} read) stops = each item after read stops
  at_first separates each (more_items {item = item} {sign = sign} {us = us} read is spelled) stops = each item (sign ∷ us) read (separates sign us is)

  -- the fault of an item is that of the list
  pub faults : {Goal : Type 0} {tokens rest : List Token} {front : List Tree} → Separates → ListLeft tokens front rest → ((item : Item) (behind : List Token) → spells item rest behind → Stop behind → Goal)
      → (items : List Item) (after : List Token) → IsList items tokens after → Stop after → (Begins separator after → ⊥) → Goal
  faults separates left each items after spelled stops ends = at_first separates each (left.only items after spelled stops ends).2 stops
