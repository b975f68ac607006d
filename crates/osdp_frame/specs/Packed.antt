-- A packet from its fields, and from its head.
use Rattle.std.specs.Prelude.{ℕ, Bool, false, List}
use Rattle.osdp_frame.specs.declared.check_kind.CheckKind.{CheckKind}
use Rattle.osdp_frame.specs.declared.view.Header.{Header}
use Rattle.osdp_frame.specs.Packet.{Packet}

abbrev pub packed : Bool → ℕ → ℕ → CheckKind → Bool → ℕ → List ℕ → Packet
packed reply address sequence check block reserved body = record {
  reply = reply;
  address = address;
  sequence = sequence;
  check = check;
  block = block;
  reserved = reserved;
  body = body;
}

-- the head of a packet without a security block and reserved bits
abbrev pub plain_header : Bool → ℕ → ℕ → CheckKind → Header
plain_header reply address sequence check =
    record { reply = reply; address = address; seq = sequence; check = check; block = false; reserved = 0 }

-- a packet from what it says beside its body, and from its body
abbrev pub headed : Header → List ℕ → Packet
headed h body = packed h.reply h.address h.seq h.check h.block h.reserved body
