-- What a turn does is what its calls do.
use Rattle.osdp_calls.proofs.Common.{◌≡◌, ℕ, List, Option, Some, refl, ap, ◌∙◌, Command, passed, pending_of, turned_by, after_take, next_told, site_at, at_changed, after_set_handler, Answer, Next, after_call, after_calls, after_next, changes_at, nexts, on_station, InUse, Station, IsTurned, TurnsByCalls, settle_calls, settles_by}
use Rattle.osdp_device.specs.Program.{program_after, program_answer}
use Rattle.osdp_device.specs.declared.program.ProgramAnswers.{ProgramAnswers}
use Rattle.osdp_device.specs.declared.question.Question.{Question}
use Rattle.osdp_device.specs.declared.question.Question.TheVariants.{Asked, NotAsked}

-- a station after a call that changes it alone
at_station : {H : Type 0} (k : ℕ) (change : Station H → Station H) (t : Station H) (l : InUse H) → site_at k l.stations ≡ Some t
    → site_at k (on_station k change l).stations ≡ Some (change t)
at_station k change t l is =
    ap (λ o. site_at k (changes_at k change o l.stations)) is ∙ at_changed k (change t) t l.stations is

-- .. and after a `next`
at_next : {H : Type 0} (answer_of : H → Command → Answer) (after : H → Command → H) (k : ℕ) (places : List ℕ)
    (t : Station H) (l : InUse H) → site_at k l.stations ≡ Some t
    → site_at k (after_call answer_of after (Next k) places l).stations ≡ Some (nexts answer_of after k places t)
at_next answer_of after k places t l is =
    ap (λ o. site_at k (after_next answer_of after k places o l).stations) is
    ∙ at_changed k (nexts answer_of after k places t) t l.stations is

record IsTurnedBy (k : ℕ) (places : List ℕ) (t : Station ProgramAnswers) (l : InUse ProgramAnswers) (question : Question) (pending : Option Command) : Type 0 where
  station : Station ProgramAnswers
  there : site_at k (after_calls program_answer program_after (settles_by k places question pending t) l).stations ≡ Some station
  reader : station.reader ≡ (turned_by question pending t.reader t.line.held).reader
  line : station.line ≡ record t.line { held = (turned_by question pending t.reader t.line.held).held }

-- it stops before a command
stops_so : (k : ℕ) (places : List ℕ) (command : Command) (t : Station ProgramAnswers) (l : InUse ProgramAnswers) → site_at k l.stations ≡ Some t
    → IsTurnedBy k places t l NotAsked (Some command)
stops_so k places command t l is =
    let passes : Station ProgramAnswers → Station ProgramAnswers = λ u. record u { line = record u.line { held = passed u.reader u.line.held } } in
    let asking : ProgramAnswers = record t.reader.handler { question = Asked } in
    let sets : Station ProgramAnswers → Station ProgramAnswers = λ u. record u { reader = after_set_handler asking u.reader } in
    record {
      station = sets (passes t);
      there = at_station k sets (passes t) (on_station k passes l) (at_station k passes t l is);
      reader = refl;
      line = refl;
    }

-- .. or the next packet is answered
settles_so : (k : ℕ) (places : List ℕ) (t : Station ProgramAnswers) (l : InUse ProgramAnswers) → site_at k l.stations ≡ Some t
    → (question : Question) (pending : Option Command) → IsTurnedBy k places t l question pending
settles_so k places t l is NotAsked (Some command) = stops_so k places command t l is
settles_so k places t l is _ _ =
    let told = next_told program_answer program_after t.reader t.line.held in
    let asked : ProgramAnswers = record told.reader.handler { question = NotAsked } in
    let sets : Station ProgramAnswers → Station ProgramAnswers = λ u. record u { reader = after_set_handler asked u.reader } in
    let u : Station ProgramAnswers = nexts program_answer program_after k places t in
    record {
      station = sets u;
      there = at_station k sets u (after_call program_answer program_after (Next k) places l) (at_next program_answer program_after k places t l is);
      reader = refl;
      line = refl;
    }

settled : (k : ℕ) (places : List ℕ) (t : Station ProgramAnswers) (l : InUse ProgramAnswers) → site_at k l.stations ≡ Some t
    → IsTurned k (settle_calls k places t) t t.line l
settled k places t l is =
    let a = settles_so k places t l is t.reader.handler.question (pending_of t.reader t.line.held) in
    record { station = a.station; there = a.there; reader = a.reader; line = a.line }

pub turns_by_calls : (l : InUse ProgramAnswers) → TurnsByCalls l
turns_by_calls l = record {
  settle = λ k places t is. settled k places t l is;
  turn = λ k bytes now places t is.
      let takes : Station ProgramAnswers → Station ProgramAnswers = λ u. record u { line = after_take bytes now u.line } in
      let a = settled k places (takes t) (on_station k takes l) (at_station k takes t l is) in
      record { station = a.station; there = a.there; reader = a.reader; line = a.line };
}
