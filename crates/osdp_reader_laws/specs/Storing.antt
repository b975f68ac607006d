-- What a reader stores, whatever sessions it had.
use Rattle.std.specs.Prelude.{◌≡◌, ◌⊎◌, true, IfSome}
use Rattle.osdp_reader.specs.State.{ReaderState}

-- what is stored, if anything, is a reply from the reader's own address, or from 127, where the command was to all
abbrev pub StoresItsOwn : {H : Type 0} → ReaderState H → Type 0
StoresItsOwn r = IfSome r.stored (λ q. (q.reply ≡ true) × ((q.address ≡ r.config.address) ⊎ (q.address ≡ 127)))
