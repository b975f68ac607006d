-- What a script's readers are.
use Rattle.std.specs.Prelude.{ℕ, [], ◌∷◌}
use Rattle.osdp_reader.specs.declared.config.ReaderConfig.{ReaderConfig}
use Rattle.osdp_script.specs.Handler.{script_vendor}

-- the reader of this number, counted from 1: PDID 53494D 1 1 number 1 0 0, PDCAP 2:1:8 8:1:0
abbrev pub script_config : ℕ → ℕ → ReaderConfig
script_config number address = record {
  address = address;
  id = record {
    vendor = script_vendor;
    model = 1;
    version = 1;
    serial = number;
    firmware_major = 1;
    firmware_minor = 0;
    firmware_build = 0;
  };
  caps = record {
    items =
        record { function = 2; level = 1; count = 8 } ∷ record { function = 8; level = 1; count = 0 } ∷ [];
  };
}
