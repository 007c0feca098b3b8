-- The text of a line of buffers: each takes a datum from the one in front of it and gives it to the one behind it.
-- Buffer k gives by `s_k` what buffer k + 1 takes by `r_k`, and both together are `c_k`. `range_with_len a m` are the m numbers from a on.
use Rattle.std.specs.Prelude.{◌-◌, ◌++◌, ℕ, List, codes, decimal}
use Rattle.std.specs.List.{flat_map, range_with_len}

-- ---- a line of the text
-- `  s_k, r_k, c_k: D;`
abbrev pub channel : ℕ → List ℕ
channel k = codes "  s_" ++ decimal k ++ codes ", r_" ++ decimal k ++ codes ", c_" ++ decimal k ++ codes ": D;\n"

-- `  B_k = sum d: D . r_j(d)`
abbrev pub taking : ℕ → ℕ → List ℕ
taking j k = codes "  B_" ++ decimal k ++ codes " = sum d: D . r_" ++ decimal j ++ codes "(d)"

-- ` . s_k(d) . B_k;`
abbrev pub giving : ℕ → List ℕ
giving k = codes " . s_" ++ decimal k ++ codes "(d) . B_" ++ decimal k ++ codes ";\n"

-- ` . outp(d) . B_n;`
abbrev pub giving_out : ℕ → List ℕ
giving_out n = codes " . outp(d) . B_" ++ decimal n ++ codes ";\n"

-- a buffer that is neither the first nor the last
abbrev pub middle_buffer : ℕ → List ℕ
middle_buffer k = taking (k - 1) k ++ giving k

-- the last buffer
abbrev pub last_buffer : ℕ → List ℕ
last_buffer n = taking (n - 1) n ++ giving_out n

-- ---- parts of the last line
-- `, c_k`
abbrev pub allowed : ℕ → List ℕ
allowed k = codes ", c_" ++ decimal k

-- `, s_k|r_k -> c_k`
abbrev pub further_rule : ℕ → List ℕ
further_rule k = codes ", s_" ++ decimal k ++ codes "|r_" ++ decimal k ++ codes " -> c_" ++ decimal k

-- ` || B_k`
abbrev pub beside : ℕ → List ℕ
beside k = codes " || B_" ++ decimal k

-- `comm({s_1|r_1 -> c_1, .., s_j|r_j -> c_j}, B_1 || .. || B_n)`, j being n - 1
abbrev pub communicating : ℕ → List ℕ
communicating n =
    codes "comm({s_1|r_1 -> c_1" ++ flat_map further_rule (range_with_len 2 (n - 2))
    ++ codes "}, B_1" ++ flat_map beside (range_with_len 2 (n - 1)) ++ codes ")"

-- `init allow({inp, outp, c_1, .., c_j}, comm(..));`, j being n - 1
abbrev pub start : ℕ → List ℕ
start n = codes "init allow({inp, outp" ++ flat_map allowed (range_with_len 1 (n - 1)) ++ codes "}, " ++ communicating n ++ codes ");\n"

-- ---- the text
-- a line of n buffers, from 2 on
unfoldable pub buffer_line : ℕ → List ℕ
buffer_line n =
    codes "sort D = struct d1 | d2;\nact inp, outp: D;\n"
    ++ flat_map channel (range_with_len 1 (n - 1))
    ++ codes "proc B_1 = sum d: D . inp(d) . s_1(d) . B_1;\n"
    ++ flat_map middle_buffer (range_with_len 2 (n - 2))
    ++ last_buffer n
    ++ start n
