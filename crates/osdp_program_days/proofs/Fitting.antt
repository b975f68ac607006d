-- The values of the day are in their ranges.
use Rattle.osdp_program_days.proofs.Common.{◌≡◌, ◌<◌, ℕ, true, ◌&&◌, nat_le, nat_lt, List, [], ◌∷◌, length, arith, CommandFits, NakFits, each_all, no_bytes, on}
use Rattle.std.proofs.lemmas.Bool.{and_parts, leb-true, ltb-true}
use Rattle.std.specs.List.{AllByRecursion}
use Rattle.hex.specs.Hex.{IsBytes}
use Rattle.osdp_msg.specs.CommandFields.{OutputFits}
use Rattle.osdp_msg.specs.declared.command.Command.TheVariants.{Output}
use Rattle.osdp_msg.specs.declared.nak.NakReason.TheVariants.{UnexpectedSequence}
use Rattle.osdp_msg.proofs.Bytes.{IsBytes-each}
use Rattle.osdp_line_calls.specs.Calls.{FitsALine}
use Rattle.osdp_premises.specs.Deciding.{each_of}

pub output_fits : CommandFits (Output (on ∷ []))
output_fits = (omega arith, omega arith, each_all OutputFits (on ∷ []) (record { output = omega arith; control = omega arith; timer = omega arith }, tt))

-- NAK 4
pub nak_fits : NakFits (record { reason = UnexpectedSequence; detail = record { items = [] } })
nak_fits = record { reason = tt; room = omega arith; detail = no_bytes }

-- one output, which is off
pub one_byte : IsBytes (0 ∷ [])
one_byte = IsBytes-each (0 ∷ []) (omega arith, tt)

-- a list of bytes that fits a line, as a test
each_byte : (bs : List ℕ) → each_of (λ b. nat_lt b 256) bs ≡ true → AllByRecursion (λ b. b < 256) bs
each_byte [] is = tt
each_byte (b ∷ bs) is =
    let both = and_parts (nat_lt b 256) (each_of (λ x. nat_lt x 256) bs) is in (ltb-true b 256 both.0, each_byte bs both.1)

pub bytes_fit : (bs : List ℕ) → nat_le (length bs) 4096 && each_of (λ b. nat_lt b 256) bs ≡ true → FitsALine bs
bytes_fit bs is =
    let both = and_parts (nat_le (length bs) 4096) (each_of (λ b. nat_lt b 256) bs) is in
    (leb-true (length bs) 4096 both.0, IsBytes-each bs (each_byte bs both.1))
