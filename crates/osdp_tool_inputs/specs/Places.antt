-- The runs of a capture without its echoes, one after the other.
use Rattle.std.specs.Prelude.{◌≡◌, ◌≤◌, ◌<◌, ◌+◌, ◌^◌, ℕ, List, [], ◌∷◌, ◌++◌, drop, get_or, length, Option, None, Some}
use Rattle.osdp_tool_inputs.specs.Echoes.{all_echoes, left_in, left_of}
use Rattle.osdp_tool_inputs.specs.Heard.{tells_at, tells_below}
use Rattle.osdp_tool_inputs.specs.Times.{no_stamp, stamp_at, stamps_below}
use Rattle.osdp_tool_inputs.specs.declared.capture.Capture.{Capture}
use Rattle.osdp_tool_inputs.specs.declared.capture.LateAnswer.{LateAnswer}
use Rattle.osdp_tool_inputs.specs.declared.capture.LateTimes.{LateTimes}
use Rattle.osdp_tool_inputs.specs.declared.places.Found.{Found}
use Rattle.osdp_tool_inputs.specs.declared.places.Place.{Place}
use Rattle.osdp_tool_inputs.specs.declared.places.Source.{Source}
use Rattle.osdp_tool_times.specs.Captures.{after_lines, heard_of, nothing_heard}

-- the late answer that a run tells, where it is one
abbrev pub late_in : ℕ → Option LateTimes → List LateAnswer
late_in run None = []
late_in run (Some times) = record { run = run; times = times } ∷ []

-- those of several runs, of which the first has this number
unfoldable pub late_from : ℕ → List (Option LateTimes) → List LateAnswer
late_from run [] = []
late_from run (told ∷ tells) = late_in run told ++ late_from (run + 1) tells

-- what the first of several runs tells
abbrev pub first_told : List (Option LateTimes) → Option LateTimes
first_told tells = get_or tells 0 None

-- of the late answers of runs, of which the first has this number, the first so many are passed over: what that run tells, and how many come up to it
abbrev pub FindsLate : List LateAnswer → ℕ → ℕ → Found → Type 0
FindsLate late at run found =
    (tells : List (Option LateTimes)) → drop at late ≡ late_from run tells
    → (found.told ≡ first_told tells) × (drop found.at late ≡ late_from (run + 1) (drop 1 tells))

-- ---- a capture that was heard

pub record HasFollowed (lines : List (List ℕ)) (c : Capture) : Type 0 where
  pub heard : heard_of c.timed ≡ after_lines nothing_heard lines
  pub runs : c.runs ≡ length (tells_below nothing_heard lines)
  pub late : c.late.items ≡ late_from 1 (tells_below nothing_heard lines)

-- ---- of a text

-- the stamp of each run without the echoes, and what each tells
abbrev pub stamps_left : List ℕ → List (List ℕ)
stamps_left text = stamps_below no_stamp (left_of text)

abbrev pub tells_left : List ℕ → List (Option LateTimes)
tells_left text = tells_below nothing_heard (left_of text)

-- the late answers are those of the text
pub record IsHeard (s : Source) : Type 0 where
  pub late : s.late.now ≡ late_from 1 (tells_left s.text.now)

-- a place in it: at a run, of which is known what stands beside its lines, and the rest after that
pub record IsAt (text : List ℕ) (late : List LateAnswer) (p : Place) : Type 0 where
  pub within : p.run ≤ length (stamps_left text)
  pub stamps : stamps_below p.held.now (left_in p.rest) ≡ drop p.run (stamps_left text)
  pub late_answers : drop p.at late ≡ late_from (p.run + 1) (drop p.run (tells_left text))
  pub stamp : p.mark.stamp.now ≡ stamp_at p.run (stamps_left text)
  pub told : p.mark.told ≡ tells_at p.run (tells_left text)
  pub room : all_echoes p.rest < 2 ^ 64
