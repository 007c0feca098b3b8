-- Where a condition begins, and the table that tells it: which brackets close in front of an arrow.
use Rattle.std.specs.Prelude.{◌≡◌, Bool, true, false, List, [], ◌∷◌, ◌++◌, ◌&&◌, ◌||◌, length, drop, get_or}
use Rattle.mcrl2_lexer.specs.declared.kind.Kind.{Kind}
use Rattle.mcrl2_lexer.specs.declared.kind.Kind.TheVariants.{Identifier, LeftParen, Arrow, Delta, Tau, Allow, Block, Hide, Rename, Comm}
use Rattle.mcrl2_lexer.specs.declared.token.Token.{Token}
use Rattle.mcrl2_parser.specs.declared.levels.Effect.{Effect}
use Rattle.mcrl2_parser.specs.declared.levels.Effect.TheVariants.{Opens, Closes}
use Rattle.mcrl2_parser.specs.Levels.{effect_of}

abbrev pub is_arrow : Kind → Bool
is_arrow Arrow = true
is_arrow _ = false

abbrev pub begins_arrow : List Token → Bool
begins_arrow [] = false
begins_arrow (token ∷ tokens) = is_arrow token.kind

abbrev pub closes : Effect → Bool
closes Closes = true
closes _ = false

-- whether a bracket ends in front of an arrow
abbrev pub closes_at_arrow : List Token → Bool
closes_at_arrow [] = false
closes_at_arrow (token ∷ tokens) = closes (effect_of token.kind) && begins_arrow tokens || closes_at_arrow tokens

-- Tokens may close brackets that were opened in front of them, the innermost first. For each such bracket: whether an arrow
-- stands behind its end.
abbrev pub with_closer : Effect → Bool → List Bool → List Bool
with_closer Opens arrow ends = drop 1 ends
with_closer Closes arrow ends = arrow ∷ ends
with_closer _ arrow ends = ends

unfoldable pub ends_of : List Token → List Bool
ends_of [] = []
ends_of (token ∷ tokens) = with_closer (effect_of token.kind) (begins_arrow tokens) (ends_of tokens)

abbrev pub first_end : List Bool → Bool
first_end [] = false
first_end (arrow ∷ ends) = arrow

-- whether the innermost bracket that is open in front of the tokens ends in front of an arrow
unfoldable pub ends_at_arrow : List Token → Bool
ends_at_arrow tokens = first_end (ends_of tokens)

-- the same for each rest of the tokens, the shortest first
unfoldable pub arrows_of : List Token → List Bool
arrows_of [] = false ∷ []
arrows_of (token ∷ tokens) = arrows_of tokens ++ ends_at_arrow (token ∷ tokens) ∷ []

-- a rest of some tokens
pub data IsRest (rest : List Token) : List Token → Type 0 where
  whole : IsRest rest rest
  behind : {token : Token} {tokens : List Token} → IsRest rest tokens → IsRest rest (token ∷ tokens)

-- the table has that of each rest of the tokens, at its length
pub record HasArrows (arrows : List Bool) (tokens : List Token) : Type 0 where
  pub each : (rest : List Token) → IsRest rest tokens → get_or arrows (length rest) false ≡ ends_at_arrow rest

-- behind a name
abbrev pub begins_guard_behind : Kind → List Token → Bool
begins_guard_behind LeftParen tokens = ends_at_arrow tokens
begins_guard_behind Arrow tokens = true
begins_guard_behind _ tokens = false

abbrev pub names_guard : List Token → Bool
names_guard [] = false
names_guard (token ∷ tokens) = begins_guard_behind token.kind tokens

-- with a token of that kind in front
abbrev pub begins_guard_with : Kind → List Token → Bool
begins_guard_with LeftParen tokens = ends_at_arrow tokens
begins_guard_with Identifier tokens = names_guard tokens
begins_guard_with Delta tokens = false
begins_guard_with Tau tokens = false
begins_guard_with Allow tokens = false
begins_guard_with Block tokens = false
begins_guard_with Hide tokens = false
begins_guard_with Rename tokens = false
begins_guard_with Comm tokens = false
begins_guard_with _ tokens = true

-- whether a condition begins there, if a part of a sequence does that is no sum
abbrev pub begins_guard : List Token → Bool
begins_guard [] = false
begins_guard (token ∷ tokens) = begins_guard_with token.kind tokens
