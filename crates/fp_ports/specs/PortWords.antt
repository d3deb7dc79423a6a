-- The meaning of a port is a word for each cycle, and a latch. Every claim on the words covers only
-- cycles that fit 64 bits.
use Rattle.std.specs.Prelude.{◌≡◌, ℕ, ◌^◌, ◌<◌, ◌≤◌, nat_le, if◌then◌else◌}

-- the words are those from before
abbrev pub SameWords : (ℕ → ℕ) → (ℕ → ℕ) → Type 0
SameWords before after = (c : ℕ) → c < 2 ^ 64 → after c ≡ before c

-- the words of a cycle and later ones are those from before
abbrev pub SameWordsFrom : ℕ → (ℕ → ℕ) → (ℕ → ℕ) → Type 0
SameWordsFrom first before after = (c : ℕ) → first ≤ c → c < 2 ^ 64 → after c ≡ before c

-- the words after one was fed at a cycle: that one from the cycle on, and until then those from
-- before
abbrev pub fed_words : (ℕ → ℕ) → ℕ → ℕ → ℕ → ℕ
fed_words before at word c = if nat_le at c then word else before c
