-- How `sim` ends: what it answers, what was read and what was printed.
use Rattle.std.specs.Prelude.{◌≡◌, ◌⊎◌, ℕ, ◌<◌, ◌≤◌, Bool, true, false, List, length, Option, Result, Ok, Err, IfSome}
use Rattle.std.specs.Io.KnownBytes.{Appends, Keeps}
use Rattle.osdp_script.specs.Reading.{IsBadLine}
use Rattle.osdp_tool_streams.specs.declared.fault.ToolFault.{ToolFault}
use Rattle.osdp_tool_streams.specs.declared.fault.ToolFault.TheVariants.{NotHex, TooLong, BadWords, BadStep}
use Rattle.osdp_tool_streams.specs.declared.fault.ToolFault.TheVariants.{HoldsPacket, NotQuiet, ReadFailed}
use Rattle.osdp_tool_streams.specs.declared.fault.ToolFault.TheVariants.{WriteFailed, NoMemory}
use Rattle.osdp_tool_streams.specs.Watched.{AppendsPart}
use Rattle.osdp_tool_sim.specs.Reading.{ReadsPastLimit, ReadsSome, ReadsToEnd}
use Rattle.osdp_tool_sim.specs.Told.{Tells}

-- ---- what is told

-- all of it was written, and the end is told
abbrev pub Printed : List ℕ → Option (List ℕ) → Option (List ℕ) → Type 0
Printed text before after = Appends before after text

-- a part of it, or all
abbrev pub PrintedPart : List ℕ → Option (List ℕ) → Option (List ℕ) → Type 0
PrintedPart text before after = Appends before after text ⊎ AppendsPart before after text

-- ---- by the answer

-- the answer is how the script ended, or a failed write
abbrev pub SaysTold : List ℕ → Result (Unit {0}) ToolFault → Option (List ℕ) → Option (List ℕ) → Bool → Result (Unit {0}) ToolFault → Type 0
SaysTold text end before after failed result =
    ((result ≡ end) × Appends before after text × (failed ≡ false))
    ⊎ ((result ≡ Err WriteFailed) × AppendsPart before after text × (failed ≡ true))

-- what is answered to a script of these bytes: it was run and told, or one of its lines is bad and is named, or memory did not suffice
abbrev pub SaysOf : List ℕ → Option (List ℕ) → Option (List ℕ) → Bool → Result (Unit {0}) ToolFault → Type 0
SaysOf bytes before after failed result =
    ((text : List ℕ) × (end : Result (Unit {0}) ToolFault) × Tells bytes text end × SaysTold text end before after failed result)
    ⊎ (((number : ℕ) × (result ≡ Err (BadStep number)) × IsBadLine bytes number × Keeps before after × (failed ≡ false))
    ⊎ ((result ≡ Err NoMemory) × Keeps before after × (failed ≡ false)))

-- the script was read to its end, and what is told of it is written
pub record IsTold (limit : ℕ) (ib ia ob oa : Option (List ℕ)) (end : Result (Unit {0}) ToolFault) : Type 0 where
  pub read : List ℕ
  pub input : ReadsToEnd limit ib ia read
  pub text : List ℕ
  pub tells : Tells read text end
  pub written : Appends ob oa text

-- the script was read to its end, and a line of it is bad: nothing is written
pub record IsBad (limit : ℕ) (ib ia ob oa : Option (List ℕ)) (number : ℕ) : Type 0 where
  pub read : List ℕ
  pub input : ReadsToEnd limit ib ia read
  pub bad : IsBadLine read number
  pub silent : Keeps ob oa

-- what was written is a beginning of what is told of the script
pub record IsToldInPart (limit : ℕ) (ib ia ob oa : Option (List ℕ)) : Type 0 where
  pub read : List ℕ
  pub input : ReadsToEnd limit ib ia read
  pub text : List ℕ
  pub end : Result (Unit {0}) ToolFault
  pub tells : Tells read text end
  pub written : PrintedPart text ob oa

-- input before and after, output before and after
abbrev pub Says : ℕ → Option (List ℕ) → Option (List ℕ) → Option (List ℕ) → Option (List ℕ) → Result (Unit {0}) ToolFault → Type 0
Says limit ib ia ob oa (Ok done) = IsTold limit ib ia ob oa (Ok done)
Says limit ib ia ob oa (Err (HoldsPacket step)) = IsTold limit ib ia ob oa (Err (HoldsPacket step))
Says limit ib ia ob oa (Err (NotQuiet step)) = IsTold limit ib ia ob oa (Err (NotQuiet step))
Says limit ib ia ob oa (Err (BadStep number)) = IsBad limit ib ia ob oa number
Says limit ib ia ob oa (Err TooLong) = ReadsPastLimit limit ib ia × Keeps ob oa
Says limit ib ia ob oa (Err ReadFailed) = ReadsSome limit ib ia × Keeps ob oa
Says limit ib ia ob oa (Err WriteFailed) = Keeps ob oa ⊎ IsToldInPart limit ib ia ob oa
Says limit ib ia ob oa (Err NoMemory) = Keeps ob oa
Says limit ib ia ob oa (Err (NotHex line)) = ⊥
Says limit ib ia ob oa (Err BadWords) = ⊥

-- a failed read is told exactly where the input failed, and a failed write exactly where the output alone did
abbrev pub AreFailed : Bool → Bool → Result (Unit {0}) ToolFault → Type 0
AreFailed input output (Err ReadFailed) = input ≡ true
AreFailed input output (Err WriteFailed) = (input ≡ false) × (output ≡ true)
AreFailed input output result = (input ≡ false) × (output ≡ false)

abbrev pub Ends : ℕ → Option (List ℕ) → Option (List ℕ) → Bool → Option (List ℕ) → Option (List ℕ) → Bool → Result (Unit {0}) ToolFault → Type 0
Ends limit ib ia input ob oa output result = Says limit ib ia ob oa result × AreFailed input output result

-- ---- where the bytes of the input are known

pub record IsWholeTold (limit : ℕ) (bytes : List ℕ) (ob oa : Option (List ℕ)) (end : Result (Unit {0}) ToolFault) : Type 0 where
  pub within : length bytes ≤ limit
  pub text : List ℕ
  pub tells : Tells bytes text end
  pub written : Appends ob oa text

abbrev pub IsWhole : ℕ → List ℕ → Option (List ℕ) → Option (List ℕ) → Result (Unit {0}) ToolFault → Type 0
IsWhole limit bytes ob oa (Ok done) = IsWholeTold limit bytes ob oa (Ok done)
IsWhole limit bytes ob oa (Err (HoldsPacket step)) = IsWholeTold limit bytes ob oa (Err (HoldsPacket step))
IsWhole limit bytes ob oa (Err (NotQuiet step)) = IsWholeTold limit bytes ob oa (Err (NotQuiet step))
IsWhole limit bytes ob oa (Err (BadStep number)) = (length bytes ≤ limit) × IsBadLine bytes number × Keeps ob oa
IsWhole limit bytes ob oa (Err TooLong) = (limit < length bytes) × Keeps ob oa
IsWhole limit bytes ob oa (Err ReadFailed) = ⊥
IsWhole limit bytes ob oa (Err WriteFailed) = ⊥
IsWhole limit bytes ob oa (Err NoMemory) = ⊥
IsWhole limit bytes ob oa (Err (NotHex line)) = ⊥
IsWhole limit bytes ob oa (Err BadWords) = ⊥

-- no stream failed and memory sufficed
abbrev pub EndsWhole : ℕ → Option (List ℕ) → Bool → Option (List ℕ) → Option (List ℕ) → Bool → Result (Unit {0}) ToolFault → Type 0
EndsWhole limit ib input ob oa output result =
    IfSome ib (λ bytes. input ≡ false → output ≡ false → (result ≡ Err NoMemory → ⊥) → IsWhole limit bytes ob oa result)
