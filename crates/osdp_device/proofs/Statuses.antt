-- Whether each output of an OUT is there.
use Rattle.osdp_device.proofs.Common.{◌≡◌, ◌<◌, ◌≤◌, ◌++◌, ◌∷◌, ℕ, Bool, true, false, cond, List, [], length, refl, ap}
use Rattle.std.proofs.lemmas.Bool.{and_from, and_left, and_right, le-ltb, lt-ltb}
use Rattle.std.proofs.lemmas.List.Elements.{All-head, All-tail}
use Rattle.std.specs.List.{All}
use Rattle.std.specs.Prelude.{nat_lt}
use Rattle.osdp_msg.specs.declared.command.Command.{Command}
use Rattle.osdp_msg.specs.declared.command.Command.TheVariants.{Output}
use Rattle.osdp_msg.specs.declared.nak.NakReason.TheVariants.{RecordNotProcessed}
use Rattle.osdp_msg.specs.declared.outputs.OutputRecord.{OutputRecord}
use Rattle.osdp_msg.specs.ReplyTable.{reply_code, reply_data}
use Rattle.osdp_reader.specs.Replies.{reply_for}
use Rattle.osdp_reader.specs.declared.handler.Answer.{Answer}
use Rattle.osdp_reader.specs.declared.handler.Answer.TheVariants as answer
use Rattle.osdp_device.specs.Status.{are_there}
use Rattle.osdp_device.specs.StatusLaws.{AnswersFromStatus}
use Rattle.osdp_device.specs.declared.status.DeviceStatus.{DeviceStatus}

all_there : (count : ℕ) (rs : List OutputRecord) → All (λ (r : OutputRecord). r.output < count) rs → are_there count rs ≡ true
all_there count [] all = refl
all_there count (r ∷ rs) all =
    and_from (nat_lt r.output count) (are_there count rs) (lt-ltb r.output count (All-head (λ (x : OutputRecord). x.output < count) r rs all))
    (all_there count rs (All-tail (λ (x : OutputRecord). x.output < count) r rs all))

one_missing : (count : ℕ) (front : List OutputRecord) (r : OutputRecord) (rest : List OutputRecord) → count ≤ r.output
    → are_there count (front ++ r ∷ rest) ≡ false
one_missing count [] r rest above = and_left (nat_lt r.output count) (are_there count rest) (le-ltb r.output count above)
one_missing count (x ∷ front) r rest above =
    and_right (nat_lt x.output count) (are_there count (front ++ r ∷ rest)) (one_missing count front r rest above)

-- an answer as the panel is told it
abbrev told_as : Answer → Command → List ℕ
told_as a command = let said = reply_for a command in reply_code said ∷ reply_data said

pub answers_from : (s : DeviceStatus) → AnswersFromStatus s
answers_from s =
    let told = λ (there : Bool) (records : List OutputRecord). told_as (cond there answer.Done (answer.Refuse RecordNotProcessed)) (Output records) in
    record {
      local = refl;
      inputs = refl;
      outputs = refl;
      readers = refl;
      there = λ records all. ap (λ b. told b records) (all_there (length s.outputs.items) records all);
      missing = λ front r rest above. ap (λ b. told b (front ++ r ∷ rest)) (one_missing (length s.outputs.items) front r rest above);
      led = λ records. refl;
      buzzer = λ b. refl;
      text = λ t. refl;
      maker = λ m. refl;
    }
