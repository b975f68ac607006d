-- Commands that are kept as their bytes.
use Rattle.std.specs.Prelude.{◌≡◌, ◌+◌, ◌≤◌, ℕ, List, ◌∷◌, length}
use Rattle.osdp_msg.specs.CommandTable.{command_code, command_data}
use Rattle.osdp_msg.specs.Kept.{command_kept}
use Rattle.osdp_msg.specs.Limits.{most_data}

-- the bytes that a command is kept as: its code and its data
pub record IsCommand (bytes : List ℕ) : Type 0 where
  pub size : length bytes ≤ 1 + most_data
  pub spelled : bytes ≡ command_code (command_kept bytes) ∷ command_data (command_kept bytes)
