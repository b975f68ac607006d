-- What follows from how `sim` ends.
use Rattle.std.specs.Prelude.{◌≡◌, ◌⊎◌, ◌↔◌, ℕ, ◌<◌, ◌≤◌, Bool, true, false, List, ◌++◌, length, Some, Result, Ok, Err}
use Rattle.osdp_script.specs.Reading.{IsBadLine}
use Rattle.osdp_tool_streams.specs.declared.fault.ToolFault.{ToolFault}
use Rattle.osdp_tool_streams.specs.declared.fault.ToolFault.TheVariants.{TooLong, BadStep, HoldsPacket, NotQuiet, ReadFailed, WriteFailed, NoMemory}
use Rattle.osdp_tool_sim.specs.Ending.{Ends, EndsWhole}
use Rattle.osdp_tool_sim.specs.Told.{Tells}

-- an answer that says how the script ended: its run was done, or it stopped at a step
abbrev pub IsEnd : Result (Unit {0}) ToolFault → Type 0
IsEnd (Ok done) = Unit {0}
IsEnd (Err (HoldsPacket step)) = Unit {0}
IsEnd (Err (NotQuiet step)) = Unit {0}
IsEnd _ = ⊥

-- an answer where nothing is printed
abbrev pub IsSilent : Result (Unit {0}) ToolFault → Type 0
IsSilent (Err (BadStep number)) = Unit {0}
IsSilent (Err TooLong) = Unit {0}
IsSilent (Err ReadFailed) = Unit {0}
IsSilent (Err NoMemory) = Unit {0}
IsSilent _ = ⊥

-- all that is told of the script that the input is, or a beginning of it
pub record IsPrinted (all start now : List ℕ) (end : Result (Unit {0}) ToolFault) : Type 0 where
  pub text : List ℕ
  pub tells : Tells all text end
  pub written : now ≡ start ++ text

pub record IsBegun (all start now : List ℕ) : Type 0 where
  pub text : List ℕ
  pub end : Result (Unit {0}) ToolFault
  pub tells : Tells all text end
  pub rest : List ℕ
  pub whole : start ++ text ≡ now ++ rest

-- A failed read is told exactly where there was one, and else a failed write exactly where there was one. Where the script's end is told, all is printed that is told of
-- it. A line that is told as bad is the script's first one. Nothing is printed then, nor of an input that is too long, nor where it wasn't read or there was no memory.
pub record IsToldInTurn (limit : ℕ) (all start now : List ℕ) (input output : Bool) (result : Result (Unit {0}) ToolFault) : Type 0 where
  pub answer : IsEnd result ⊎ (IsSilent result ⊎ (result ≡ Err WriteFailed))
  pub read : (result ≡ Err ReadFailed) ↔ (input ≡ true)
  pub write : (result ≡ Err WriteFailed) ↔ ((input ≡ false) × (output ≡ true))
  pub done : IsEnd result → IsPrinted all start now result
  pub bad : (number : ℕ) → result ≡ Err (BadStep number) → IsBadLine all number
  pub long : result ≡ Err TooLong → limit < length all
  pub silent : IsSilent result → now ≡ start
  pub printed : (now ≡ start) ⊎ IsBegun all start now

-- however it ends
abbrev pub EndsInTurn : Type 0
EndsInTurn =
    (limit : ℕ) (all left start now : List ℕ) (input output : Bool) (result : Result (Unit {0}) ToolFault)
    → Ends limit (Some all) (Some left) input (Some start) (Some now) output result → IsToldInTurn limit all start now input output result

-- Where no stream failed and there was memory, the input decides: one that is too long is told so, one with a bad line is told by its number, and of a script all is
-- printed that is told of it.
pub record IsDecided (limit : ℕ) (all start now : List ℕ) (result : Result (Unit {0}) ToolFault) : Type 0 where
  pub long : limit < length all → (result ≡ Err TooLong) × (now ≡ start)
  pub within : length all ≤ limit
      → ((number : ℕ) × (result ≡ Err (BadStep number)) × IsBadLine all number × (now ≡ start)) ⊎ IsPrinted all start now result

abbrev pub DecidesByInput : Type 0
DecidesByInput =
    (limit : ℕ) (all start now : List ℕ) (result : Result (Unit {0}) ToolFault)
    → EndsWhole limit (Some all) false (Some start) (Some now) false result → (result ≡ Err NoMemory → ⊥) → IsDecided limit all start now result
