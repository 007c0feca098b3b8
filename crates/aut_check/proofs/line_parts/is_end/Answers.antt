use Rattle.std.proofs.Common.{refl}
use Rattle.aut_check.specs.SystemTexts.{no_part, part_then}
use Rattle.aut_check.proofs.PartLemmas.{first_part, parts_behind, white_left}
use Rattle.aut_check.proofs.line_parts.is_end.Goals as goal

pub returns-in-Some : goal.returns-in-Some
returns-in-Some c = (λ white. part_then c.in-Some.ensures (no_part (c.is_white.ensures.0 white)), λ end. c.is_white.ensures.1 (white_left (parts_behind refl c.in-Some.ensures end)))

pub returns-in-None : goal.returns-in-None
returns-in-None c = (λ h. absurd (cc h), λ end. let there = first_part end in absurd (c.in-None.ensures there.0 there.1))
