-- Addresses that come from outside.
use Rattle.std.specs.Prelude.{ℕ, nat_lt, if◌then◌else◌}

-- each number above 126 stands for the configuration address, which is that of no device
abbrev pub device_address : ℕ → ℕ
device_address number = if nat_lt number 127 then number else 127
