-- A moment as a struct of plain fields.
use Rattle.std.specs.Prelude.{ℕ, Option, None, Some}
use Rattle.osdp_c_values.specs.declared.moment.MomentStruct.{MomentStruct}

abbrev pub moment_struct : Option ℕ → MomentStruct
moment_struct None = record { moment = 0; present = 0 }
moment_struct (Some moment) = record { moment = moment; present = 1 }
