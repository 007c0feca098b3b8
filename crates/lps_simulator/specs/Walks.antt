-- Walks by the words of a linear congruential sequence.
use Rattle.std.specs.Prelude.{◌≡◌, ◌+◌, ◌*◌, ◌%◌, ◌^◌, ◌<◌, ℕ, Option, MatchOption}
use Rattle.lps_simulator.specs.declared.walk.Walk.{Walk}

abbrev pub chooser_of : {C : Type 0} → Walk C → C
chooser_of w = w.chooser

abbrev pub word_of : {C : Type 0} → Walk C → ℕ
word_of w = w.word

-- the word behind a word
abbrev pub next_word : ℕ → ℕ
next_word w = (w * 6364136223846793005 + 1442695040888963407) % 2 ^ 64

-- one of n, where there is one
abbrev pub IsPick : ℕ → Option ℕ → Type 0
IsPick n answer = MatchOption answer (n ≡ 0) (λ i. i < n)

-- for every word and every n a chooser may be called, and picks one of n
pub record IsChooser (calls : ℕ → ℕ → Type 0) (answers : ℕ → ℕ → Option ℕ → Type 0) : Type 0 where
  pub callable : (word n : ℕ) → word < 2 ^ 64 → n < 2 ^ 64 → calls word n
  pub picks : (word n : ℕ) → word < 2 ^ 64 → n < 2 ^ 64 → (answer : Option ℕ) → answers word n answer → IsPick n answer
