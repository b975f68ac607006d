-- Calls that read fields of a message, or make one.
use Rattle.std.specs.Prelude.{◌≡◌, ℕ}
use Rattle.osdp_c_values.specs.Fields.{Read}
use Rattle.osdp_c_values.specs.Statuses.{number}

-- the code's answer: the number of the status, and what is written
pub record IsRead {O : Type 0} (read : Read O) (answer : ℕ) (after : O) : Type 0 where
  pub status : answer ≡ number read.status
  pub written : after ≡ read.out
