-- What a reader is made of.
use Rattle.osdp_msg.specs.declared.limits.Room.{Room}
use Rattle.osdp_reader.specs.declared.config.ReaderConfig.{ReaderConfig}

-- what it is, and the room for its events
pub record Parts : Type 0 where
  pub config : ReaderConfig
  pub room : Room
