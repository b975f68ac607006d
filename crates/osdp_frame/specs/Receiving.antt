-- What has come on the line, and when. Moments are in milliseconds.
use Rattle.std.specs.Prelude.{◌≡◌, ℕ, ◌≤◌, ◌<◌, Bool, true, false, if◌then◌else◌, max, List, [], ◌∷◌, length, None}
use Rattle.osdp_frame.specs.Bytes.{AreBytes}
use Rattle.osdp_frame.specs.Held.{Held, decided, after_gap, after_push, new_run, taken_count}
use Rattle.osdp_frame.specs.Silence.{is_silent_for}

pub record Received : Type 0 where
  -- after how long a silence a run is over
  pub gap : ℕ
  -- the bytes that are held, and whether their run is over
  pub held : Held
  -- the moment of the last bytes
  pub last : ℕ
  -- the greatest moment seen
  pub greatest : ℕ

-- nothing has come yet
abbrev pub new_line : ℕ → Received
new_line gap = record { gap = gap; held = new_run; last = 0; greatest = 0 }

-- what holds at all times
pub record IsReceived (l : Received) : Type 0 where
  pub gap : 1 ≤ l.gap
  pub bytes : AreBytes l.held.bytes
  -- a run that is over holds a byte
  pub some : l.held.ended ≡ true → 0 < length l.held.bytes
  pub last : l.last ≤ l.greatest

-- all that came was read: the run goes on, and what is held depends on bytes to come
pub record IsAllRead (l : Received) : Type 0 where
  pub goes_on : l.held.ended ≡ false
  pub undecided : decided false l.held.bytes ≡ None

-- a moment that lies before the greatest seen counts as that one
abbrev pub seen : ℕ → Received → Received
seen now l = record l { greatest = max l.greatest now }

-- the line has been silent long enough for a run to be over
abbrev pub is_silent : Received → Bool
is_silent l = is_silent_for l.gap l.last l.greatest

abbrev pub ends_run : Received → Received
ends_run l = record l { held = after_gap l.held }

-- a run after which the line was silent long enough is over
abbrev pub ends_silent : Received → Received
ends_silent l = if is_silent l then ends_run l else l

-- bytes come in: as many as there is room for, and none before a run that is over has been read
abbrev pub comes_in : List ℕ → Received → Received
comes_in bytes l = record l { held = after_push l.held bytes; last = l.greatest }

-- bytes at a moment; none move the greatest moment alone
abbrev pub after_take : List ℕ → ℕ → Received → Received
after_take [] now l = seen now l
after_take (byte ∷ bytes) now l = comes_in (byte ∷ bytes) (ends_silent (seen now l))

-- how many of them come in
abbrev pub count_taken : List ℕ → ℕ → Received → ℕ
count_taken [] now l = 0
count_taken (byte ∷ bytes) now l = taken_count (ends_silent (seen now l)).held (byte ∷ bytes)

-- no bytes have come up to a moment
abbrev pub after_tick : ℕ → Received → Received
after_tick now l = ends_silent (seen now l)

-- the caller saw the line silent
abbrev pub after_silence : ℕ → Received → Received
after_silence now l = ends_run (seen now l)
