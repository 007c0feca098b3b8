-- The texts that `generate` asks for, as worked cases.
use Rattle.std.specs.Prelude.{◌≡◌, ◌++◌, ℕ, List, Some, None, codes}
use Rattle.lin_words.specs.Commands.{text_for}
use Rattle.lin_words.specs.declared.command.Task.TheVariants.{Generate}

abbrev pub two_buffers : List ℕ
two_buffers =
    codes "sort D = struct d1 | d2;\n"
    ++ codes "act inp, outp: D;\n"
    ++ codes "  s_1, r_1, c_1: D;\n"
    ++ codes "proc B_1 = sum d: D . inp(d) . s_1(d) . B_1;\n"
    ++ codes "  B_2 = sum d: D . r_1(d) . outp(d) . B_2;\n"
    ++ codes "init allow({inp, outp, c_1}, comm({s_1|r_1 -> c_1}, B_1 || B_2));\n"

abbrev pub three_buffers : List ℕ
three_buffers =
    codes "sort D = struct d1 | d2;\n"
    ++ codes "act inp, outp: D;\n"
    ++ codes "  s_1, r_1, c_1: D;\n"
    ++ codes "  s_2, r_2, c_2: D;\n"
    ++ codes "proc B_1 = sum d: D . inp(d) . s_1(d) . B_1;\n"
    ++ codes "  B_2 = sum d: D . r_1(d) . s_2(d) . B_2;\n"
    ++ codes "  B_3 = sum d: D . r_2(d) . outp(d) . B_3;\n"
    ++ codes "init allow({inp, outp, c_1, c_2}, comm({s_1|r_1 -> c_1, s_2|r_2 -> c_2}, B_1 || B_2 || B_3));\n"

-- for lines of two and of three buffers they are these
abbrev pub TwoBuffersAreAsked : Type 0
TwoBuffersAreAsked = text_for (Generate 2) None ≡ Some two_buffers

abbrev pub ThreeBuffersAreAsked : Type 0
ThreeBuffersAreAsked = text_for (Generate 3) None ≡ Some three_buffers
