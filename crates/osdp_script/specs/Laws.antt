-- What holds of the reading of lines, whatever they are, and the other statements of the laws, passed on from here.
use Rattle.std.specs.Prelude.{◌↔◌, ℕ, List, ◌++◌}
use Rattle.osdp_script.specs.Reading.{AreRead, IsFirstBad}
use Rattle.osdp_script.specs.Script.{Plan}
pub use Rattle.osdp_script.specs.OutputLaws.{LastRecordCounts}
pub use Rattle.osdp_script.specs.Settings.{HasReaders}

-- lines are judged by those above them alone: what some lines say, and then what more of them say, is what all of them say ..
abbrev pub ReadInTurn : Type 0
ReadInTurn = (lines more : List (List ℕ)) (p r : Plan) → AreRead p (lines ++ more) r ↔ ((q : Plan) × AreRead p lines q × AreRead q more r)

-- .. and the first bad line is that one whatever stands below
abbrev pub StaysBad : Type 0
StaysBad = (lines more : List (List ℕ)) (number : ℕ) → IsFirstBad lines number → IsFirstBad (lines ++ more) number
