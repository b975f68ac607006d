-- What a moment says of the panel of a device by lines: it may find that the panel has gone, and never that it is back.
use Rattle.std.specs.Prelude.{◌≡◌, ℕ, ◌≤◌, true, List, []}
use Rattle.osdp_device.specs.Ages.{is_offline}
use Rattle.osdp_line_answers.specs.Answers.{Speaks}
use Rattle.osdp_line_calls.specs.ReaderLines.{Answers}
use Rattle.osdp_line_calls.specs.ReaderSessions.{Session, does, new_session, tells_presence}
use Rattle.osdp_line_calls.specs.declared.reader_absence.Absence.{Absence}
use Rattle.osdp_line_calls.specs.declared.reader_call.ReaderCall.{ReaderCall}
use Rattle.osdp_line_calls.specs.declared.reader_call.ReaderCall.TheVariants.{At}
use Rattle.osdp_reader.specs.declared.config.ReaderConfig.{ReaderConfig}

pub record MomentsGoOn (s : Session) : Type 0 where
  -- the panel is gone where it is so at the moment that came last
  pub known : s.gone ≡ is_offline s.now s.ages
  -- no line takes a moment back
  pub on : (call : ReaderCall) → s.now ≤ (does call s).session.now
  -- a panel that is gone stays gone whatever moment comes
  pub gone : (later : ℕ) → s.gone ≡ true → (does (At later) s).session.gone ≡ true
  -- a moment that was there already tells nothing of the panel
  pub again : (later : ℕ) → later ≤ s.now → (tells_presence (record s { now = (does (At later) s).session.now })).text ≡ []

-- so it is after all lines to a new device
abbrev pub MomentsAlwaysGoOn : Type 0
MomentsAlwaysGoOn = (config : ReaderConfig) (capacity gap : ℕ) (absence : Absence) (lines : List (List ℕ)) (text : List ℕ) (last : Session)
    → Speaks Answers (new_session config capacity gap absence) lines text last → MomentsGoOn last
