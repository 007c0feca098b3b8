-- Expressions with commas between them are a list.
use Rattle.std.proofs.Common.{◌≡◌, ℕ, List, [], ◌∷◌, map, refl}
use Rattle.mcrl2_lexer.specs.declared.kind.Kind.TheVariants.{Comma}
use Rattle.mcrl2_lexer.specs.declared.token.Token.{Token}
use Rattle.mcrl2_syntax.specs.declared.data_tree.DataTree.{DataTree}
use Rattle.mcrl2_syntax.specs.DataTrees.{PlainData, plain_data}
use Rattle.mcrl2_syntax.specs.Follow.{Stops}
use Rattle.mcrl2_syntax.specs.SpelledWords.{SpellsList, last_item, more_items}
use Rattle.mcrl2_syntax.specs.SpelledData.{SpellsItems, SpellsData, items_last, items_more}
use Rattle.mcrl2_syntax.proofs.DataOnce.{stops_comma}
use Rattle.mcrl2_parser.proofs.ListLeft.{ListLeft, IsOnly, list_begins, goes_on}

pub list_of_items : {text : List ℕ} {ds : List PlainData} {ts r : List Token} → SpellsItems text ds ts r → SpellsList (SpellsData text) Comma ds ts r
list_of_items (items_last a) = last_item a
list_of_items (items_more a h b) = more_items a h (list_of_items b)

pub items_of_list : {text : List ℕ} {ds : List PlainData} {ts r : List Token} → SpellsList (SpellsData text) Comma ds ts r → SpellsItems text ds ts r
items_of_list (last_item a) = items_last a
items_of_list (more_items a h b) = items_more a h (items_of_list b)

-- what is left of them behind a first one and a comma
pub behind_first : {text : List ℕ} {tokens rest next : List Token} {first : DataTree} {sign : Token} → rest ≡ sign ∷ next → sign.kind ≡ Comma → SpellsData text (plain_data first) tokens rest
    → IsOnly plain_data (SpellsData text) Comma (Stops 11) tokens first rest → ListLeft plain_data (SpellsData text) Comma (Stops 11) tokens (first ∷ []) next
behind_first {text = text} {tokens = tokens} is kind read only =
    goes_on plain_data (SpellsData text) Comma (Stops 11) (λ sign after comma. stops_comma 11 sign after comma) (list_begins plain_data (SpellsData text) Comma (Stops 11) tokens) refl is kind read only

pub led_items : {text : List ℕ} {tokens next after : List Token} {first : DataTree} {all others : List DataTree} → all ≡ first ∷ others
    → ListLeft plain_data (SpellsData text) Comma (Stops 11) tokens (first ∷ []) next → SpellsItems text (map plain_data others) next after → SpellsItems text (map plain_data all) tokens after
led_items {after = after} {others = others} is left read = rw is (items_of_list (left.whole (map plain_data others) after (list_of_items read)))
