-- Each command on which a device's program acts by a response has an answer.
use Rattle.osdp_calls_ledger.proofs.Common.{◌≡◌, ℕ, Bool, true, false, cond, [], ◌∷◌, ◌++◌, Option, Some, None, refl, sym, ap, ◌∙◌, option_to_list, Packet, Command, items_of, ReaderState, Answer, first_answered, read_up_to, InUse, Station, site_at}
use Rattle.std.proofs.Common.{map}
use Rattle.std.proofs.lemmas.List.{map-append}
use Rattle.std.specs.Option.{option_map}
use Rattle.std.specs.Prelude.{◌==◌}
use Rattle.osdp_msg.specs.declared.command.Command.TheVariants.{Poll}
use Rattle.osdp_device.specs.Saying.{but_poll, said_to, taken_by as said_taken}
use Rattle.osdp_reader.specs.Table.{hears, kind_of}
use Rattle.osdp_reader.specs.declared.kind.Kind.{Kind}
use Rattle.osdp_reader.specs.declared.kind.Kind.TheVariants as kind
use Rattle.osdp_link_laws.specs.Reports.{command_taken, taken_as}
use Rattle.osdp_link_laws.proofs.Telling.{asked}
use Rattle.osdp_link_ledger.proofs.Taking.{packet_answered}
use Rattle.osdp_calls.specs.Calls.{Call, Next, after_call}
use Rattle.osdp_calls.specs.Sayings.{acted_on}
use Rattle.osdp_calls.specs.Told.{taken_at, taken_by}
use Rattle.osdp_calls.proofs.Replying.{told_first}
use Rattle.osdp_calls_ledger.specs.Acted.{EachTakenIsAnswered, acted_at, acted_by_answered, acted_in, all_acted}

-- what the response says that was taken is what the link takes
command_so : (c : Command) → option_to_list (but_poll (Some c)) ≡ command_taken c
command_so Poll = refl
command_so _ = refl

kind_so : (k : Kind) (command : Option Command) → option_to_list (said_taken k command) ≡ taken_as k command
kind_so kind.Taken None = refl
kind_so kind.Taken (Some command) = command_so command
kind_so _ command = refl

module _ {H : Type 0} (answer_of : H → Command → Answer) (after : H → Command → H) where
  answered_so : (o : Option Packet) (r : ReaderState H) → map asked (acted_by_answered answer_of after o r) ≡ acted_on (option_map (said_to answer_of after r) o)
  answered_so None r = refl
  answered_so (Some p) r = packet_answered answer_of after p r ∙ sym (kind_so (kind_of r p) (hears answer_of after r p).command)

  at_so : (o : Option (Station H)) → map asked (acted_at answer_of after o) ≡ taken_at answer_of after o
  at_so None = refl
  at_so (Some t) =
      answered_so (first_answered t.reader (read_up_to t.reader (items_of t.line.held))) t.reader
      ∙ sym (ap acted_on (told_first answer_of after (items_of t.line.held) t.reader t.line.held).0)

  call_so : (k : ℕ) (call : Call H) (l : InUse H) → map asked (acted_in answer_of after k call l) ≡ taken_by answer_of after k call l
  call_so k (Next entry) l = by_test (entry == k)
    where
      by_test : (b : Bool) → map asked (cond b (acted_at answer_of after (site_at entry l.stations)) []) ≡ cond b (taken_at answer_of after (site_at entry l.stations)) []
      by_test true = at_so (site_at entry l.stations)
      by_test false = refl
  call_so k _ l = refl

  pub each_taken : EachTakenIsAnswered answer_of after
  each_taken k [] l = refl
  each_taken k (step ∷ steps) l =
      let next = after_call answer_of after step.call step.places l in
      map-append asked (acted_in answer_of after k step.call l) (all_acted answer_of after k steps next)
      ∙ (λ i. call_so k step.call l i ++ each_taken k steps next i)
