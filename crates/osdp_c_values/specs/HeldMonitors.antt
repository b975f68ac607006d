-- What a monitor's handle keeps.
use Rattle.std.specs.Prelude.{ℕ, Bool, List}
use Rattle.osdp_tool_monitor.specs.declared.open_line.OpenLine.{OpenLine}

pub record HeldMonitor : Type 0 where
  -- the line, as far as it was heard
  pub line : OpenLine
  -- whether it still hears: memory was refused to no call
  pub listens : Bool
  -- what was told and not taken
  pub waiting : List ℕ
