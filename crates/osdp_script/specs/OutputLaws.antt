-- What holds of the outputs, whatever the records.
use Rattle.std.specs.Prelude.{◌≡◌, ◌<◌, ℕ, All, List, ◌∷◌, ◌++◌, length, slice_index, true}
use Rattle.osdp_msg.specs.declared.outputs.OutputRecord.{OutputRecord}
use Rattle.osdp_script.specs.Outputs.{outputs_after, switches_off, switches_on}

-- the record switches this output off, or on
abbrev pub TurnsOff : ℕ → OutputRecord → Type 0
TurnsOff output r = (r.output ≡ output) × (switches_off r ≡ true)

abbrev pub TurnsOn : ℕ → OutputRecord → Type 0
TurnsOn output r = (r.output ≡ output) × (switches_on r ≡ true)

abbrev pub LeavesAlone : ℕ → OutputRecord → Type 0
LeavesAlone output r = (¬ TurnsOff output r) × (¬ TurnsOn output r)

-- an output is as the last record says that switches it, and as it was where none does
pub record LastCounts (outputs : List ℕ) (output : ℕ) : Type 0 where
  pub off : (earlier : List OutputRecord) (r : OutputRecord) (later : List OutputRecord) → TurnsOff output r
      → All (LeavesAlone output) later → slice_index (outputs_after outputs (earlier ++ r ∷ later)) output ≡ 0
  pub on : (earlier : List OutputRecord) (r : OutputRecord) (later : List OutputRecord) → TurnsOn output r
      → All (LeavesAlone output) later → slice_index (outputs_after outputs (earlier ++ r ∷ later)) output ≡ 1
  pub stays : (records : List OutputRecord) → All (LeavesAlone output) records
      → slice_index (outputs_after outputs records) output ≡ slice_index outputs output

abbrev pub LastRecordCounts : Type 0
LastRecordCounts = (outputs : List ℕ) (output : ℕ) → length outputs ≡ 8 → output < 8 → LastCounts outputs output
