use Rattle.std.proofs.Common.{rules, arith, ◌≡◌, length, None, Some, Option, List, ℕ, unwrap_or, MatchOption, ap, refl, [], ◌∙◌}
use Rattle.mcrl2_text.specs.declared.texts.MemText.{MemText}
use Rattle.mcrl2_text.specs.Texts.{text_at, text_named}
use Rattle.mcrl2_text.proofs.NamedTexts.{text_at-past}
use Rattle.mcrl2_text.proofs.steady.SteadyShelfShelf.open.Goals as goal

-- the text at the place found, or past the last
text_at-chosen : (texts : List MemText) (name : List ℕ) (place : Option ℕ) (count : ℕ) → count ≡ length texts
    → MatchOption place (text_named texts name ≡ None) (λ i. text_named texts name ≡ Some (text_at texts i))
    → text_at texts (unwrap_or place count) ≡ unwrap_or (text_named texts name) []
text_at-chosen texts name None count e found = rw found (text_at-past texts count (omega arith))
text_at-chosen texts name (Some i) count e found = rw found refl

pub returns-clause-rest : goal.returns-clause-rest
returns-clause-rest c =
    let chosen : c.unwrap_or-self.result ≡ unwrap_or c.place_of.result c.len.result = search rules in
    ap Some (ap (text_at c.args.self.now.texts.items) chosen ∙ text_at-chosen c.args.self.now.texts.items c.args.name.now c.place_of.result c.len.result (search rules) (search rules))
