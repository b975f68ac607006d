-- What follows from how `make` ends.
use Rattle.std.specs.Prelude.{◌≡◌, ◌⊎◌, ◌↔◌, ℕ, Bool, true, false, List, ◌++◌, Some, OnOk, Result, Ok, Err}
use Rattle.osdp_tool_streams.specs.declared.fault.ToolFault.{ToolFault}
use Rattle.osdp_tool_streams.specs.declared.fault.ToolFault.TheVariants.{BadWords, WriteFailed, NoMemory}
use Rattle.osdp_tool.specs.declared.order.PacketOrder.{PacketOrder}
use Rattle.osdp_tool.specs.Ending.{Ends, Order, OrderNone}
use Rattle.osdp_tool.specs.PacketOrder.{order_line}

-- what the command may answer
abbrev pub IsAnswer : Result (Unit {0}) ToolFault → Type 0
IsAnswer (Ok done) = Unit {0}
IsAnswer (Err BadWords) = Unit {0}
IsAnswer (Err WriteFailed) = Unit {0}
IsAnswer (Err NoMemory) = Unit {0}
IsAnswer _ = ⊥

-- a beginning of the line of the packet that the words order
pub record IsBegun (given : List (List ℕ)) (start now : List ℕ) : Type 0 where
  pub order : PacketOrder
  pub ordered : Order given order
  pub rest : List ℕ
  pub whole : start ++ order_line order ≡ now ++ rest

-- Words that order no packet are refused, and no others, unless a write failed. A failed write is told exactly where there was one. The line of the packet is printed
-- where the work is done, nothing without memory, and else nothing or a beginning of the line.
pub record IsToldInTurn (given : List (List ℕ)) (start now : List ℕ) (failed : Bool) (result : Result (Unit {0}) ToolFault) : Type 0 where
  pub answer : IsAnswer result
  pub refused : (result ≡ Err BadWords) ↔ (OrderNone given × (failed ≡ false))
  pub write : (result ≡ Err WriteFailed) ↔ (failed ≡ true)
  pub done : (o : PacketOrder) → Order given o → OnOk result (now ≡ start ++ order_line o)
  pub memory : result ≡ Err NoMemory → now ≡ start
  pub printed : (now ≡ start) ⊎ IsBegun given start now

-- however it ends
abbrev pub EndsInTurn : Type 0
EndsInTurn =
    (given : List (List ℕ)) (start now : List ℕ) (failed : Bool) (result : Result (Unit {0}) ToolFault)
    → Ends given (Some start) (Some now) failed result → IsToldInTurn given start now failed result
