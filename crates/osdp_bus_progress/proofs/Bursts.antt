-- How many bursts are on the line: each step adds one at most in each direction, since one reader alone answers a packet.
use Rattle.osdp_bus_progress.proofs.Common.{◌≡◌, ◌≢◌, ◌≤◌, ◌+◌, ◌-◌, ℕ, zero, suc, Bool, true, false, if◌then◌else◌, List, [], ◌∷◌, length, map, Option, Some, None, inl, inr, refl, sym, subst, ap, ◌∙◌, arith, length-append, flat_map, packets_in, reading, IsPacket, Packet, spelling, Command, Report, Answer, after_next_report, submit_refusal_at, bus_ticks, BusConfig, BusFault, each_of, Each, Net, site_at, IsSetUp, HeardByOwn, apart_all, apart_first, by_own, some_same, packets_on, HasCome, begins, first_well, goes_on, handed, left, sent, damage_fault, moment_after, Deliver, Drop, Repeat, Damage, SimStep, AreSettings, FitAlong, is_well, Given, LineState, ReaderSite, set_up, StepFits, after_step, all_hear_each, fault_of, hears_run, is_there, issued, report_told, site_says, waited, FollowsSites, SchedulesAreMoves, SitesOf, moves_of, first_net, follows_first, is_set_up, nothing_is_kept, LinkLaws}
use Rattle.std.specs.Prelude.{◌⊎◌, ◌<◌}
use Rattle.osdp_reader.specs.Table as reader
use Rattle.osdp_reader.specs.State.{ReaderState}
use Rattle.osdp_shared_line.specs.Line as line
use Rattle.osdp_shared_line.proofs.Hearing.{for_reader}
use Rattle.osdp_sim.proofs.Bursts.{no_packets}
use Rattle.osdp_sim.specs.declared.step.Move as way
use Rattle.osdp_sim.specs.declared.step.SimStep.TheVariants as step
use Rattle.osdp_sim_bus.specs.Runs as simulation
use Rattle.osdp_sim_laws.specs.OneLink.{ReadsPackets}

pub at_each : {A : Type 0} (P : A → Type 0) (k : ℕ) (x : A) (xs : List A) → Each P xs → site_at k xs ≡ Some x → P x
at_each P k x [] all is = absurd cc
at_each P zero x (y ∷ xs) all is = subst P (some_same y x is) all.0
at_each P (suc k) x (y ∷ xs) all is = at_each P k x xs all.1 is

one_sent : (o : Option Packet) → length (sent o) ≤ 1
one_sent None = omega arith
one_sent (Some p) = omega arith

left_few : (move : way.Move) (bursts : List (List ℕ)) → length (left move bursts) ≤ length bursts
left_few move [] = omega arith
left_few Deliver (burst ∷ rest) = omega arith
left_few Drop (burst ∷ rest) = omega arith
left_few Repeat (burst ∷ rest) = omega arith
left_few (Damage bytes) (burst ∷ rest) = omega arith

module _ {H : Type 0} where
  -- how many bursts are on the line at most, in each direction
  abbrev pub AtMost : ℕ → LineState H → Type 0
  AtMost n s = (length s.to_readers ≤ n) × (length s.to_bus ≤ n)

  more : (n : ℕ) (s : LineState H) → AtMost n s → AtMost (n + 1) s
  more n s few = (omega (arith, few.0), omega (arith, few.1))

  where_few : (n : ℕ) (there : Bool) (new old : LineState H) → AtMost n old → AtMost (n + 1) new → AtMost (n + 1) (if there then new else old)
  where_few n true new old few later = later
  where_few n false new old few later = more n old few

  issued_few : (n : ℕ) (fault : Option BusFault) (place : ℕ) (command : Command) (s : LineState H) → AtMost n s → AtMost (n + 1) (issued fault place command s)
  issued_few n (Some fault) place command s few = more n s few
  issued_few n None place command s few = more n s few

  told_few : (n : ℕ) (o : Option (ℕ × Report)) (s : LineState H) → AtMost n s → AtMost n (report_told o s)
  told_few n None s few = few
  told_few n (Some (entry, report)) s few = few

module _ {H : Type 0} (answer_of : H → Command → Answer) (after : H → Command → H) where
  -- ---- one reader alone answers

  abbrev answers : Packet → List (ReaderSite H) → List (List ℕ)
  answers p us = flat_map (site_says answer_of after p) us

  abbrev IsToDevice : ℕ × Packet → Type 0
  IsToDevice q = q.1.address < 127

  abbrev IsAwayFrom : ℕ → line.Site H → ℕ × Packet → Type 0
  IsAwayFrom k t q = q.0 ≢ k → t.reader.config.address ≢ q.1.address

  -- the packet is to a device, and no reader is at its address but the one at this place
  abbrev OwnAlone : ℕ → Packet → List (line.Site H) → Type 0
  OwnAlone own p ts = (k : ℕ) (t : line.Site H) → site_at k ts ≡ Some t → IsToDevice (own, p) × IsAwayFrom k t (own, p)

  -- .. or but none of these
  abbrev NoneAt : Packet → List (line.Site H) → Type 0
  NoneAt p ts = (k : ℕ) (t : line.Site H) → site_at k ts ≡ Some t → (p.address < 127) × (t.reader.config.address ≢ p.address)

  says_nothing : (p : Packet) (u : ReaderSite H) (t : line.Site H) → u.reader ≡ t.reader → p.address < 127 → t.reader.config.address ≢ p.address
      → length (site_says answer_of after p u) ≡ 0
  says_nothing p u t same device away =
      ap (λ (r : ReaderState H). length (sent (reader.hears answer_of after r p).reply)) same
      ∙ elim (for_reader t.reader p device) [
        | inl here ↦ absurd (away (sym here))
        | inr is ↦ ap (λ k. length (sent (reader.outcome answer_of after k t.reader p).reply)) is
      ]

  none_answer : (p : Packet) (us : List (ReaderSite H)) (ts : List (line.Site H)) → SitesOf us ts → NoneAt p ts → length (answers p us) ≤ 0
  none_answer p [] [] all away = omega arith
  none_answer p [] (t ∷ ts) all away = absurd all
  none_answer p (u ∷ us) [] all away = absurd all
  none_answer p (u ∷ us) (t ∷ ts) all away =
      let its = away 0 t refl in
      let first = says_nothing p u t all.0.reader its.0 its.1 in
      let rest = none_answer p us ts all.1 (λ k v at. away (suc k) v at) in
      omega (arith, length-append (site_says answer_of after p u) (answers p us), first, rest)

  answers_few : (own : ℕ) (p : Packet) (us : List (ReaderSite H)) (ts : List (line.Site H)) → SitesOf us ts → OwnAlone own p ts → length (answers p us) ≤ 1
  answers_few own p [] [] all away = omega arith
  answers_few own p [] (t ∷ ts) all away = absurd all
  answers_few own p (u ∷ us) [] all away = absurd all
  answers_few zero p (u ∷ us) (t ∷ ts) all away =
      let first = one_sent (reader.hears answer_of after u.reader p).reply in
      let rest = none_answer p us ts all.1 (λ k v at. let its = away (suc k) v at in (its.0, its.1 (λ e. absurd (omega (arith, e))))) in
      omega (arith, length-append (site_says answer_of after p u) (answers p us), first, rest)
  answers_few (suc own) p (u ∷ us) (t ∷ ts) all away =
      let its = away 0 t refl in
      let first = says_nothing p u t all.0.reader its.0 (its.1 (λ e. absurd (omega (arith, e)))) in
      let rest = answers_few own p us ts all.1 (λ k v at. let also = away (suc k) v at in (also.0, λ e. also.1 (λ same. e (omega (arith, same))))) in
      omega (arith, length-append (site_says answer_of after p u) (answers p us), first, rest)

  -- so what is handed over to the readers is no packet, or one with an answer at most
  abbrev OneAnswers : List ℕ → List (ReaderSite H) → Type 0
  OneAnswers bytes us = (packets_in bytes ≡ []) ⊎ ((p : Packet) × (packets_in bytes ≡ p ∷ []) × (length (answers p us) ≤ 1))

  handed_over : ReadsPackets → (move : way.Move) (s : LineState H) (n : Net H) → damage_fault move ≡ None → HeardByOwn n → FollowsSites s n
      → OneAnswers (handed move s.to_readers) s.sites
  handed_over reads move s n well heard h =
      subst (λ l. OneAnswers (handed move l) s.sites) (sym h.to_readers) (by_front h.said move h.coming h.asked well)
    where
      owner : (p : ℕ × Packet) (rest : List (ℕ × Packet)) → Each (λ (t : line.Site H). t.coming ≡ p ∷ rest) n.sites → IsPacket p.1
          → OneAnswers (spelling p.1) s.sites
      owner p rest same packet =
          inr (p.1, reads.one p.1 packet, answers_few p.0 p.1 s.sites n.sites h.sites same_front)
        where
          same_front : OwnAlone p.0 p.1 n.sites
          same_front k t at =
              let here : t.coming ≡ p ∷ rest = at_each (λ (u : line.Site H). u.coming ≡ p ∷ rest) k t n.sites same at in (
                (subst (Each IsToDevice) here (each_of IsToDevice t.coming (heard.devices k t at))).0,
                (subst (Each (IsAwayFrom k t)) here (each_of (IsAwayFrom k t) t.coming (heard.readers k t at))).0,
              )

      by_front : (ps : List (ℕ × Packet)) (move : way.Move) → Each (λ (t : line.Site H). t.coming ≡ ps) n.sites → Each IsPacket (packets_on ps)
          → damage_fault move ≡ None → OneAnswers (handed move (map spelling (packets_on ps))) s.sites
      by_front [] move same asked well = inl reads.none
      by_front (p ∷ rest) Deliver same asked well = owner p rest same asked.0
      by_front (p ∷ rest) Drop same asked well = inl reads.none
      by_front (p ∷ rest) Repeat same asked well = owner p rest same asked.0
      by_front (p ∷ rest) (Damage bytes) same asked well = inl (no_packets (reading bytes.items) well)

  -- ---- each step

  heard_few : (n : ℕ) (bytes : List ℕ) (s : LineState H) → OneAnswers bytes s.sites → AtMost n s → AtMost (n + 1) (all_hear_each answer_of after (packets_in bytes) s)
  heard_few n bytes s (inl none) few = subst (λ ps. AtMost (n + 1) (all_hear_each answer_of after ps s)) (sym none) (more n s few)
  heard_few n bytes s (inr (p, one, small)) few =
      subst (λ ps. AtMost (n + 1) (all_hear_each answer_of after ps s)) (sym one)
      (omega (arith, few.0), omega (arith, few.1, length-append s.to_bus (answers p s.sites), small))

  -- what is handed over to the readers has an answer at most
  abbrev FewAnswer : SimStep → LineState H → Type 0
  FewAnswer (step.ToReader move) s = OneAnswers (handed move s.to_readers) s.sites
  FewAnswer _ s = Unit {0}

  step_few : (n : ℕ) (move : SimStep) (s : LineState H) → FewAnswer move s → AtMost n s → AtMost (n + 1) (after_step answer_of after move s)
  step_few n (step.Issue number command) s answer few =
      where_few n (is_there number s) _ s few (issued_few n (submit_refusal_at (number - 1) command s.bus) (number - 1) command s few)
  step_few n (step.Queue number event) s answer few = where_few n (is_there number s) _ s few (more n s few)
  step_few n (step.Busy number busy) s answer few = where_few n (is_there number s) _ s few (more n s few)
  step_few n (step.Wait wait) s answer few =
      let w = waited (moment_after wait s.clock) s in
      let o = (bus_ticks (moment_after wait s.clock) s.bus).sent in
      told_few (n + 1) w.bus.devices.report (record w { bus = after_next_report w.bus })
      (omega (arith, few.0, length-append s.to_readers (sent o), one_sent o), omega (arith, few.1))
  step_few n (step.ToReader move) s answer few =
      heard_few n (handed move s.to_readers) (record s { to_readers = left move s.to_readers }) answer
      (omega (arith, few.0, left_few move s.to_readers), few.1)
  step_few n (step.ToController move) s answer few =
      let b = hears_run (handed move s.to_bus) s.clock s.bus in
      told_few (n + 1) b.devices.report (record s { bus = after_next_report b; to_bus = left move s.to_bus })
      (omega (arith, few.0), omega (arith, few.1, left_few move s.to_bus))
  step_few n (step.Reopen number) s answer few = where_few n (is_there number s) _ s few (more n s few)

  -- ---- all steps

  module _ (schedules : SchedulesAreMoves answer_of after) (reads : ReadsPackets) (laws : LinkLaws answer_of after) (config : BusConfig)
      (readers : List (Given H)) (settings : AreSettings config readers) where
    abbrev Come : List SimStep → ℕ → List SimStep → LineState H → Type 0
    Come steps count rest s = HasCome (after_step answer_of after) fault_of (StepFits answer_of after) steps count rest (set_up config readers) s

    one_answer : (steps : List SimStep) (count : ℕ) (rest : List SimStep) (move : SimStep) (s : LineState H) → Come steps count rest s
        → fault_of move s ≡ None → FewAnswer move s
    one_answer steps count rest (step.ToReader move) s come well =
        let first = first_net config readers in
        let up : IsSetUp first = is_set_up config readers settings in
        let begun = set_up config readers in
        let its = schedules come.done begun first up (nothing_is_kept config readers) (follows_first config readers) come.taken.well come.taken.along in
        let n = line.run answer_of after (moves_of answer_of after come.done begun) first in
        let heard = by_own n (apart_all answer_of after laws.known (moves_of answer_of after come.done begun) first its.fits (apart_first first up)) in
        handed_over reads move s n well heard (subst (λ (t : LineState H). FollowsSites t n) (sym come.taken.here) its.follows)
    one_answer steps count rest _ s come well = tt

    few_on : (steps : List SimStep) (count : ℕ) (rest : List SimStep) (s : LineState H) → Come steps count rest s → is_well answer_of after rest s ≡ true
        → FitAlong answer_of after rest s → AtMost count s → AtMost (count + length rest) (simulation.run answer_of after rest s)
    few_on steps count [] s come well fits few = (omega (arith, few.0), omega (arith, few.1))
    few_on steps count (move ∷ rest) s come well fits few =
        let next = after_step answer_of after move s in
        let both = first_well (fault_of move s) (is_well answer_of after rest next) well in
        let one = step_few count move s (one_answer steps count (move ∷ rest) move s come both.0) few in
        let later = goes_on (after_step answer_of after) fault_of (StepFits answer_of after) steps count move (move ∷ rest) rest (set_up config readers) s next
        come refl both.0 refl fits.0 in
        let all = few_on steps (count + 1) rest next later both.1 fits.1 one in
        (omega (arith, all.0), omega (arith, all.1))

    -- after these steps there are no more bursts in each direction than steps
    pub as_many_as_steps : (steps : List SimStep) → is_well answer_of after steps (set_up config readers) ≡ true
        → FitAlong answer_of after steps (set_up config readers) → AtMost (length steps) (simulation.run answer_of after steps (set_up config readers))
    as_many_as_steps steps well fits =
        let begun = begins (after_step answer_of after) fault_of (StepFits answer_of after) steps (set_up config readers) in
        let all = few_on steps 0 steps (set_up config readers) begun well fits (omega arith, omega arith) in
        (omega (arith, all.0), omega (arith, all.1))
