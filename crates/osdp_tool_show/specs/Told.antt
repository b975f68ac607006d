-- The text of show and check in the words of captures: lines, runs, readings, items.
use Rattle.std.specs.Prelude.{◌≡◌, ◌↔◌, ℕ, ◌+◌, ◌<◌, ◌^◌, Bool, true, false, nat_lt, if◌then◌else◌, List, [], ◌∷◌, ◌++◌, length, flat_map, count_by, Some, None}
use Rattle.std.specs.List.{concat}
use Rattle.osdp_frame.specs.Bytes.{AreBytes}
use Rattle.osdp_frame.specs.Reading.{RunItem, PacketItem, SkippedItem, RefusedItem, item_size, IsReading}
use Rattle.osdp_frame.specs.Items.{Drains}
use Rattle.osdp_tool_streams.specs.declared.form.Form.{Form}
use Rattle.osdp_tool_streams.specs.declared.form.Form.TheVariants.{Raw, Joined, Apart}
use Rattle.osdp_tool_streams.specs.Cut.{IsCut, last_line}
use Rattle.osdp_tool_streams.specs.Line.{line_bytes}
use Rattle.osdp_tool_streams.specs.Runs.{with_bytes}
use Rattle.osdp_tool_show.specs.declared.detail.Detail.{Detail}
use Rattle.osdp_tool_show.specs.declared.detail.Detail.TheVariants.{Full, Refusals, Filtered}
use Rattle.osdp_tool_show.specs.ItemText.{counts_line, has_line, is_refusal, item_line}
use Rattle.osdp_tool_show.specs.Shown.{shown, shown_so_far, is_refused_input}

-- ---- the runs of an input

-- what the lines above the first bad one say, line by line
abbrev pub Say : List (List ℕ) → List (List ℕ) → Type 0
Say [] [] = Unit {0}
Say [] (bytes ∷ good) = ⊥
Say (line ∷ lines) [] = line_bytes line ≡ None
Say (line ∷ lines) (bytes ∷ good) = (line_bytes line ≡ Some bytes) × Say lines good

-- the lines of an input that say these bytes; the last one ends with the input where bytes stand before it
pub record Says (bytes : List ℕ) (good : List (List ℕ)) : Type 0 where
  pub lines : List (List ℕ)
  pub rest : List ℕ
  pub cut : IsCut bytes lines rest
  pub say : Say (lines ++ last_line rest) good

-- those of an input that goes on, whose last line has not ended
pub record SaysSoFar (bytes : List ℕ) (good : List (List ℕ)) : Type 0 where
  pub lines : List (List ℕ)
  pub rest : List ℕ
  pub cut : IsCut bytes lines rest
  pub say : Say lines good

-- the runs with bytes: one of raw bytes, one of all lines, or one of each line
abbrev pub HasRuns : Form → List ℕ → List (List ℕ) → Type 0
HasRuns Raw bytes runs = runs ≡ with_bytes (bytes ∷ [])
HasRuns Joined bytes runs = (good : List (List ℕ)) × Says bytes good × (runs ≡ with_bytes (concat good ∷ []))
HasRuns Apart bytes runs = (good : List (List ℕ)) × Says bytes good × (runs ≡ with_bytes good)

-- of an input that goes on: the runs that have ended, and the one that has not
abbrev pub HasRunsSoFar : Form → List ℕ → List (List ℕ) → List ℕ → Type 0
HasRunsSoFar Raw bytes runs open_bytes = (runs ≡ []) × (open_bytes ≡ bytes)
HasRunsSoFar Joined bytes runs open_bytes = (good : List (List ℕ)) × SaysSoFar bytes good × (runs ≡ []) × (open_bytes ≡ concat good)
HasRunsSoFar Apart bytes runs open_bytes = (good : List (List ℕ)) × SaysSoFar bytes good × (runs ≡ with_bytes good) × (open_bytes ≡ [])

-- each run with its reading
abbrev pub AreReadings : List (List ℕ) → List (List RunItem) → Type 0
AreReadings [] [] = Unit {0}
AreReadings [] (parts ∷ readings) = ⊥
AreReadings (run ∷ runs) [] = ⊥
AreReadings (run ∷ runs) (parts ∷ readings) = IsReading run parts × AreReadings runs readings

-- ---- their text

-- the items of a run from a place on, of those that have a line
abbrev pub items_text : Detail → ℕ → ℕ → List RunItem → List ℕ
items_text detail run place [] = []
items_text detail run place (part ∷ parts) =
    (if has_line detail part then item_line run place part else []) ++ items_text detail run (place + item_size part) parts

-- the items of run after run, of which the first has this number
abbrev pub readings_text : Detail → ℕ → List (List RunItem) → List ℕ
readings_text detail number [] = []
readings_text detail number (parts ∷ readings) = items_text detail number 0 parts ++ readings_text detail (number + 1) readings

abbrev pub is_packet : RunItem → Bool
is_packet (PacketItem p) = true
is_packet (SkippedItem b) = false
is_packet (RefusedItem fault) = false

abbrev pub is_skipped : RunItem → Bool
is_skipped (PacketItem p) = false
is_skipped (SkippedItem b) = true
is_skipped (RefusedItem fault) = false

-- all items that fit, of all runs
abbrev pub count_items : (RunItem → Bool) → List (List RunItem) → ℕ
count_items fits readings = count_by fits (flat_map (λ parts. parts) readings)

-- how many there are of each kind
abbrev pub counts_text : List (List RunItem) → List ℕ
counts_text readings =
    counts_line (length readings) (count_items is_packet readings) (count_items is_skipped readings) (count_items is_refusal readings)

-- .. which stand after the lines of refusals
abbrev pub end_text : Detail → List (List RunItem) → List ℕ
end_text Full readings = []
end_text (Filtered filter) readings = []
end_text Refusals readings = counts_text readings

-- Every input has its runs and every run its reading, and the text is that of these readings: line by line in
-- full, else the refusals and the counts. It is refused where one of them is.
pub record ShowsReadings : Type 0 where
  pub some : (form : Form) (bytes : List ℕ) → AreBytes bytes
      → (runs : List (List ℕ)) × (readings : List (List RunItem)) × HasRuns form bytes runs × AreReadings runs readings
  pub text : (detail : Detail) (form : Form) (bytes : List ℕ) (runs : List (List ℕ)) (readings : List (List RunItem)) → AreBytes bytes
      → HasRuns form bytes runs → AreReadings runs readings
      → shown detail form bytes ≡ readings_text detail 1 readings ++ end_text detail readings
  pub refused : (form : Form) (bytes : List ℕ) (runs : List (List ℕ)) (readings : List (List RunItem)) → AreBytes bytes
      → HasRuns form bytes runs → AreReadings runs readings
      → is_refused_input form bytes ≡ nat_lt 0 (count_items is_refusal readings)

-- The text of an input that is cut off is that of the readings of the runs that have ended, and of those items of
-- the last that its bytes decide.
pub record ShowsDecided : Type 0 where
  pub some : (form : Form) (bytes : List ℕ) → AreBytes bytes
      → (runs : List (List ℕ)) × (open_bytes : List ℕ) × (readings : List (List RunItem)) × (parts : List RunItem)
      × HasRunsSoFar form bytes runs open_bytes × AreReadings runs readings × Drains false open_bytes parts
  pub text : (detail : Detail) (form : Form) (bytes : List ℕ) (runs : List (List ℕ)) (open_bytes : List ℕ) (readings : List (List RunItem)) (parts : List RunItem)
      → AreBytes bytes → HasRunsSoFar form bytes runs open_bytes → AreReadings runs readings → Drains false open_bytes parts
      → shown_so_far detail form bytes ≡ readings_text detail 1 readings ++ items_text detail (length readings + 1) 0 parts

-- The full text of an input tells its runs: two inputs, each in its form, have the same text exactly where they have the
-- same runs. So raw bytes are told byte by byte. Runs and places are numbers of 64 bits.
pub record TellsRuns : Type 0 where
  pub runs : (form other : Form) (a b : List ℕ) (first second : List (List ℕ))
      → AreBytes a → AreBytes b → length a < 2 ^ 64 → length b < 2 ^ 64 → HasRuns form a first → HasRuns other b second
      → (shown Full form a ≡ shown Full other b) ↔ (first ≡ second)
  pub raw : (a b : List ℕ) → AreBytes a → AreBytes b → length a < 2 ^ 64 → length b < 2 ^ 64
      → shown Full Raw a ≡ shown Full Raw b → a ≡ b
