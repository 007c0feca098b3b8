-- The texts of short lines of buffers.
use Rattle.std.proofs.Common.{refl}
use Rattle.std.specs.Fmt.{digits}
use Rattle.lin_driver.specs.BufferLines.{buffer_line}
use Rattle.lin_words.specs.LineTexts.{ThreeBuffersAreAsked, TwoBuffersAreAsked}

pub two_are_asked : TwoBuffersAreAsked
unfolding buffer_line digits
two_are_asked = refl

pub three_are_asked : ThreeBuffersAreAsked
unfolding buffer_line digits
three_are_asked = refl
