-- The words of the kinds of port that this crate has.
use Rattle.std.specs.Prelude.{ℕ, ◌/◌, ◌%◌, List, [], ◌∷◌, Option, option_map}
use Rattle.std.specs.Prelude.{unwrap_or, find, nat_le, if◌then◌else◌}
use Rattle.fp_ports.specs.declared.feeds.Feed.{Feed}

-- the word that was fed for a cycle, if one was. The feeds are newest first; the first one at or
-- before the cycle counts
abbrev pub fed_word : List Feed → ℕ → Option ℕ
fed_word feeds c = option_map (λ feed. feed.word) (find (λ feed. nat_le feed.at c) feeds)

-- the feeds that some cycle from `first` on shows. The feeds are newest first; these are the ones
-- up to the first one at or before that cycle
abbrev pub kept_from : ℕ → List Feed → List Feed
kept_from first [] = []
kept_from first (feed ∷ older) = feed ∷ (if nat_le feed.at first then [] else kept_from first older)

-- a port that shows the fed word
pub record HeldModel : Type 0 where
  pub feeds : List Feed
  pub latch : ℕ

-- nothing was fed
abbrev pub new_held : HeldModel
new_held = record { feeds = []; latch = 0 }

-- 0 until the first fed cycle
abbrev pub held_word : HeldModel → ℕ → ℕ
held_word port c = unwrap_or (fed_word port.feeds c) 0

-- a port that shows a square wave until it is fed
pub record WaveModel : Type 0 where
  pub half : ℕ
  pub feeds : List Feed
  pub latch : ℕ

-- a new wave: nothing was fed, and the latch is 0
abbrev pub new_wave : ℕ → WaveModel
new_wave half = record { half = half; feeds = []; latch = 0 }

-- 0 for half a period, then 1 for half a period, and so on
abbrev pub wave_word : WaveModel → ℕ → ℕ
wave_word port c = unwrap_or (fed_word port.feeds c) (c / port.half % 2)
