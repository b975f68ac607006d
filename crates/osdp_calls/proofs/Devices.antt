-- Each call of a device is a list of moves of its site.
use Rattle.osdp_calls.proofs.Common.{◌≡◌, ◌≤◌, ℕ, Bool, true, false, List, [], ◌∷◌, ◌++◌, length, All, Option, Some, None, IfSome, refl, sym, subst, ap, ◌∙◌, ReplyFits, Command, Event, Entry, Received, items_of, next_told, Repeated, each_append, each_map, each_of, Each, Answer, Net, NetMove, Site, ToReader, changed, left_by, link_of, site_at, at_changed, after_next, by_device, changes_at, first_answered, last_of, on_station, read_up_to, reply_to, Burst, InUse, Station, is_past_for_device, NextInOrder, NextInRange, on_called, held_by, takes_event}
use Rattle.osdp_link_laws.specs.Link as link
use Rattle.osdp_reader.specs.State.{after_submit}
use Rattle.osdp_reader.specs.Table.{hears}
use Rattle.osdp_calls.proofs.Losing.{IsLoss, IsStill, changed_twice, loss_still}
use Rattle.osdp_calls.proofs.Nexts.{IsAnswered, IsNext, IsPassed, read_to, reads_all}
use Rattle.osdp_calls.proofs.Replying.{told_first, reader_with}
use Rattle.osdp_calls.proofs.Same.{IsNetOf, read_so}
use Rattle.osdp_calls.proofs.Stations.{Makes, make_none, makes_is, of_station, station_changes, Sites}
use Rattle.osdp_calls.proofs.Strangers.{order_for_device}

module _ {H : Type 0} (answer_of : H → Command → Answer) (after : H → Command → H) where
  -- an event is queued in both, unless the queue is full
  pub queued_so : (full : Bool) (event : Event) (l : InUse H) (k : ℕ) (d : Entry) (t : Station H) (s : Site H) → Sites l k d t s
      → Sites l k d (record t { reader = (takes_event full event (held_by t)).reader; line = (takes_event full event (held_by t)).line })
      (left_by s (link.queues full event (link_of s [] [])))
  queued_so true event l k d t s is = is
  queued_so false event l k d t s is =
      read_so is (ap (after_submit event) is.reader) is.stored

  -- what has come on a line is nothing to the net
  line_is : (k : ℕ) (change : Station H → Received) (l : InUse H) (n : Net H) → IsNetOf l n → IsNetOf (on_station k (λ t. record t { line = change t }) l) n
  line_is k change l n h =
      station_changes k (λ t. record t { line = change t }) l n h (λ d t s is. read_so is is.reader is.stored)

  pub lines_change : (o : Option ℕ) (change : Station H → Received) (l : InUse H) (n : Net H) → IsNetOf l n
      → Makes answer_of after (λ moves. moves ≡ []) n (on_called o (λ t. record t { line = change t }) l)
  lines_change None change l n h = make_none answer_of after (λ moves. moves ≡ []) l n refl h
  lines_change (Some k) change l n h =
      make_none answer_of after (λ moves. moves ≡ []) (on_station k (λ t. record t { line = change t }) l) n refl (line_is k change l n h)

  pub place_of : (k : ℕ) (t : Station H) (l : InUse H) (n : Net H) → IsNetOf l n → site_at k l.stations ≡ Some t → t.place ≤ length l.said
  place_of k t l n h is = (of_station k t l n h is).is.place

  -- what a `next` of this station comes to
  abbrev pub IsNextOf : ℕ → Option (Station H) → Net H → List (NetMove H) → Type 0
  IsNextOf k None n moves = moves ≡ []
  IsNextOf k (Some t) n moves = IsNext answer_of after k (first_answered t.reader (read_up_to t.reader (items_of t.line.held))) t.reader n moves

  pub next_still : (k : ℕ) (o : Option (Station H)) (n : Net H) (moves : List (NetMove H)) → IsNextOf k o n moves → Each IsStill moves
  next_still k None n moves are = subst (Each IsStill) (sym are) tt
  next_still k (Some t) n moves (IsPassed none losses) = each_map IsLoss IsStill loss_still moves losses
  next_still k (Some t) n moves (IsAnswered p s entry rest mid lost more some losses runs there reader coming after_it are) =
      subst (Each IsStill) (sym are) (each_append IsStill lost (ToReader k Repeated ∷ more) (each_map IsLoss IsStill loss_still lost losses)
      (tt, each_map IsLoss IsStill loss_still more after_it))

  pub nexting : (k : ℕ) (places : List ℕ) (l : InUse H) (n : Net H) → IsNetOf l n → NextInOrder l places (site_at k l.stations)
      → All (λ i. (b : Burst) → site_at i l.said ≡ Some b → is_past_for_device k l.openings i b ≡ false) places
      → NextInRange answer_of after (site_at k l.stations)
      → Makes answer_of after (IsNextOf k (site_at k l.stations) n) n (after_next answer_of after k places (site_at k l.stations) l)
  nexting k places l n h in_order quiet in_range = by_station (site_at k l.stations) refl in_order in_range
    where
      by_station : (o : Option (Station H)) → site_at k l.stations ≡ o → NextInOrder l places o → NextInRange answer_of after o
          → Makes answer_of after (IsNextOf k o n) n (after_next answer_of after k places o l)
      by_station None none in_order in_range = make_none answer_of after (IsNextOf k None n) l n refl h
      by_station (Some t) is in_order in_range =
          let parts = items_of t.line.held in
          let ps = read_up_to t.reader parts in
          let o = first_answered t.reader ps in
          let told = next_told answer_of after t.reader t.line.held in
          let first = reads_all answer_of after k ps places t l n h is (place_of k t l n h is) (order_for_device k t l is ps places in_order)
          (each_of (λ i. (b : Burst) → site_at i l.said ≡ Some b → is_past_for_device k l.openings i b ≡ false) places quiet)
          (each_of (λ p. IfSome (hears answer_of after t.reader p).said ReplyFits) ps in_range) in
          let l1 = read_to answer_of after k o (last_of places t.place) t l in
          let t1 : Station H = record t { reader = reader_with answer_of after o t.reader; place = last_of places t.place } in
          let with_line : Received → Station H = λ q. record t1 { line = q } in
          let held : Received = record t.line { held = told.held } in
          let second = makes_is answer_of after (IsNextOf k (Some t) n) l1 (on_station k (λ u. record u { line = held }) l1) n first (λ m h1. line_is k (λ u. held) l1 m h1) in
          subst (λ (r : _). Makes answer_of after (IsNextOf k (Some t) n) n (record l {
            stations = changed k (record t { reader = r; line = held; place = last_of places t.place }) l.stations;
            said = l.said ++ by_device k (reply_to answer_of after o t.reader);
          })) (sym (told_first answer_of after parts t.reader t.line.held).1)
          (subst (λ ts. Makes answer_of after (IsNextOf k (Some t) n) n (record l { stations = ts; said = l.said ++ by_device k (reply_to answer_of after o t.reader) }))
          (ap (λ u. changes_at k (λ v. record v { line = held }) u (changed k t1 l.stations)) (at_changed k t1 t l.stations is)
          ∙ changed_twice k (with_line held) t1 l.stations)
          second)
