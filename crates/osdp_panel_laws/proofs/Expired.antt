-- An order that has expired never went out: what its number is, and what the orders on their way have.
use Rattle.std.proofs.Common.{◌≡◌, ◌∙◌, ap, sym, subst, inl, inr, refl, arith, append_assoc, ℕ, zero, suc, ◌+◌, ◌-◌, ◌≤◌, Bool, false, List, [], ◌∷◌, ◌++◌, length, map, Option, Some, None, Result, Ok, Err}
use Rattle.std.proofs.lemmas.List.{length-append}
use Rattle.std.specs.Prelude.{◌⊎◌, if◌then◌else◌, is_some, option_to_list, slice_get, slice_set}
use Rattle.osdp_msg.specs.declared.command.Command.{Command}
use Rattle.osdp_controller.specs.declared.report.Report.{Report}
use Rattle.osdp_controller.specs.Held.{on_its_way}
use Rattle.osdp_bus.specs.declared.config.BusConfig.{BusConfig}
use Rattle.osdp_bus.specs.declared.entry.Entry.{Entry}
use Rattle.osdp_bus.specs.declared.fault.BusFault.{BusFault}
use Rattle.osdp_bus.specs.Asking.{orders_of}
use Rattle.osdp_bus.specs.Buses.{BusState, device_of, has_report}
use Rattle.osdp_bus.specs.Machine.{after_next_report, after_withdraw_at, entry_withdraws, withdrawal_at, withdrawal_of, withdrawn_of}
use Rattle.osdp_bus.specs.Settings.{IsBusConfig}
use Rattle.osdp_bus_laws.proofs.OneDevice.{pending}
use Rattle.osdp_bus_laws.proofs.Sound.{SoundBus}
use Rattle.osdp_panel.specs.declared.report.PanelReport.{PanelReport}
use Rattle.osdp_panel.specs.declared.report.What.TheVariants.{Expired}
use Rattle.osdp_panel.specs.Giving.{late_at}
use Rattle.osdp_panel.specs.Orders.{PanelState, orders_at}
use Rattle.osdp_panel.specs.Panels.{new_panel}
use Rattle.osdp_panel.specs.Telling.{expired_at, expired_of, expires, front_number, tells, told_by}
use Rattle.osdp_panel_laws.specs.Calls.{Call, NextReport, after_call, after_calls}
use Rattle.osdp_panel_laws.specs.NeverSent.{ExpiredNeverWentOut, IsOnItsWay, count_ended}
use Rattle.osdp_panel_laws.specs.Outcome.{Ended, Order, Shares, accepted_in, added_in, along, back_in, told_in, waits_to_be_told}
use Rattle.osdp_panel_laws.proofs.Ahead.{out_in, pending_at, pending_in, set_same}
use Rattle.osdp_panel_laws.proofs.FromLine.{Gives, gives}
use Rattle.osdp_panel_laws.proofs.NeverSent.{list_grows, parts, waiting_at}
use Rattle.osdp_panel_laws.proofs.Outcome.{all_steps, more_along, new_holds, nothing_yet, sound_from_new, still_sound}
use Rattle.osdp_panel_laws.proofs.Standing.{Holds, asked_same, get_both, orders_are, set_to, waits_is}

-- ---- lists of calls

along_more : {A : Type 0} (of : Call → PanelState → List A) (xs ys : List Call) (p : PanelState) → along of (xs ++ ys) p ≡ along of xs p ++ along of ys (after_calls xs p)
along_more of [] ys p = refl
along_more of (x ∷ xs) ys p =
    ap (λ l. of x p ++ l) (along_more of xs ys (after_call x p)) ∙ sym (append_assoc (of x p) (along of xs (after_call x p)) (along of ys (after_calls xs (after_call x p))))

calls_more : (xs ys : List Call) (p : PanelState) → after_calls (xs ++ ys) p ≡ after_calls ys (after_calls xs p)
calls_more [] ys p = refl
calls_more (x ∷ xs) ys p = calls_more xs ys (after_call x p)

sound_more : (calls : List Call) (p : PanelState) → SoundBus p.bus → SoundBus (after_calls calls p).bus
sound_more [] p sound = sound
sound_more (call ∷ calls) p sound = sound_more calls (after_call call p) (still_sound call p sound)

found_first : {A : Type 0} (xs ys : List A) (k : ℕ) (x : A) → slice_get xs k ≡ Some x → slice_get (xs ++ ys) k ≡ Some x
found_first [] ys k x at = absurd cc
found_first (a ∷ xs) ys zero x at = at
found_first (a ∷ xs) ys (suc k) x at = found_first xs ys k x at

-- of two parts of a list one is a beginning of the other
one_first : (some rest before : List Call) (x : Call) (after : List Call) → some ++ rest ≡ before ++ x ∷ after
    → ((y : List Call) × (before ≡ some ++ y)) ⊎ ((y : List Call) × (some ≡ before ++ x ∷ y))
one_first [] rest before x after same = inl (before, refl)
one_first (s ∷ some) rest [] x after same = inr (some, (let head : s ≡ x = cc in ap (λ y. y ∷ some) head))
one_first (s ∷ some) rest (b ∷ before) x after same =
    let head : s ≡ b = cc in
    let tail : some ++ rest ≡ before ++ x ∷ after = cc in
    longer head (one_first some rest before x after tail)
  where
    longer : s ≡ b → (((y : List Call) × (before ≡ some ++ y)) ⊎ ((y : List Call) × (some ≡ before ++ x ∷ y)))
        → (((y : List Call) × (b ∷ before ≡ s ∷ some ++ y)) ⊎ ((y : List Call) × (s ∷ some ≡ b ∷ before ++ x ∷ y)))
    longer head (inl (y, is)) = inl (y, ap (λ l. b ∷ l) is ∙ ap (λ c. c ∷ some ++ y) (sym head))
    longer head (inr (y, is)) = inr (y, ap (λ l. s ∷ l) is ∙ ap (λ c. c ∷ before ++ x ∷ y) head)

-- ---- how many have ended

shares_size : (os : List Order) (told : List Ended) (back : List Command) → Shares os told back → length os ≡ length told + length back
shares_size [] told back are =
    let a : length told ≡ 0 = ap length are.0 in
    let b : length back ≡ 0 = ap length are.1 in
    omega (arith, a, b)
shares_size (o ∷ os) told back (inl (rest, is, more)) =
    let a : length told ≡ suc (length rest) = ap length is in
    let b = shares_size os rest back more in
    omega (arith, a, b)
shares_size (o ∷ os) told back (inr (rest, is, more)) =
    let a : length back ≡ suc (length rest) = ap length is in
    let b = shares_size os told rest more in
    omega (arith, a, b)

map_size : {A B : Type 0} (f : A → B) (xs : List A) → length (map f xs) ≡ length xs
map_size f [] = refl
map_size f (x ∷ xs) = ap suc (map_size f xs)

module _ (config : BusConfig) (is : IsBusConfig config) (k : ℕ) where
  abbrev first : PanelState
  first = new_panel config

  abbrev accepted : List Call → ℕ
  accepted calls = length (along (accepted_in k) calls first)

  abbrev pended : List Call → ℕ
  pended calls = length (pending_at k (after_calls calls first).bus.devices.entries)

  abbrev waited : List Call → ℕ
  waited calls = waiting_at k (after_calls calls first).bus.devices.entries

  holds : (calls : List Call) → Holds k (more_along k calls first nothing_yet) (after_calls calls first)
  holds calls = all_steps k nothing_yet calls first (sound_from_new config is) (new_holds k config)

  ended_size : (calls : List Call) → count_ended k calls first + pended calls ≡ accepted calls
  ended_size calls =
      let q = after_calls calls first in
      let s = (holds calls).stands in
      let w = Rattle.osdp_panel_laws.proofs.Standing.waiting_of k q.bus.devices.report q.told in
      let whole : accepted calls ≡ length (s.ended ++ s.still) = ap length s.whole in
      let split = length-append s.ended s.still in
      let still : length s.still ≡ pended calls = sym (map_size (λ (o : Order). o.command) s.still) ∙ ap length s.ahead in
      let each = shares_size s.ended (along (told_in k) calls first ++ w) (along (back_in k) calls first) s.each in
      let told = length-append (along (told_in k) calls first) w in
      let waits : length (waits_to_be_told k q) ≡ length w = ap length (waits_is k q) in
      omega (arith, whole, split, still, each, told, waits)

  -- ---- an order that has expired

  record IsLate (p : PanelState) (number : ℕ) : Type 0 where
    device : Entry
    has : device_of k p.bus ≡ Some device
    command : Command
    gone : withdrawn_of device ≡ Some command
    number_is : number ≡ front_number (device_of k p.bus) (orders_at k p)
    next : (after_call NextReport p).bus ≡ after_withdraw_at k p.bus

  abbrev entry_in : Option PanelReport → ℕ
  entry_in None = 0
  entry_in (Some x) = x.entry

  abbrev number_in : Option PanelReport → Option ℕ
  number_in None = None
  number_in (Some x) = x.number

  late_so : (p : PanelState) (r : PanelReport) (command : Command) (number : ℕ) → tells p ≡ Some r → r.what ≡ Expired command → r.number ≡ Some number → r.entry ≡ k
      → IsLate p number
  late_so p r command number told what numbered entry_is = by_report p.bus.devices.report refl
    where
      at_entry : (entry : ℕ) → entry ≡ k → late_at p.bus.greatest p ≡ Some entry → p.bus.devices.report ≡ None → (x : Option Entry) → device_of entry p.bus ≡ x
          → expired_of entry (withdrawal_of x) p ≡ Some r → IsLate p number
      at_entry entry place late none None at says = absurd (let e = says in cc)
      at_entry entry place late none (Some d) at says = by_gone (withdrawn_of d) refl
        where
          by_gone : (o : Option Command) → withdrawn_of d ≡ o → IsLate p number
          by_gone None empty = absurd (let e : None ≡ Some r = sym (ap (λ o. expired_of entry (Ok o) p) empty) ∙ says in cc)
          by_gone (Some c) some =
              let said : expired_of entry (Ok (Some c)) p ≡ Some r = sym (ap (λ o. expired_of entry (Ok o) p) some) ∙ says in
              let front : Some (front_number (device_of entry p.bus) (orders_at entry p)) ≡ Some number = ap number_in said ∙ numbered in
              let is_front : number ≡ front_number (device_of entry p.bus) (orders_at entry p) = cc in
              let report : has_report p.bus ≡ false = ap (λ (o : Option (ℕ × Report)). is_some o) none in
              record {
                device = d;
                has = ap (λ e. device_of e p.bus) (sym place) ∙ at;
                command = c;
                gone = some;
                number_is = is_front ∙ ap (λ e. front_number (device_of e p.bus) (orders_at e p)) place;
                next =
                    ap (λ (x : Bool). (if x then record p { bus = after_next_report p.bus; withheld = false } else expires (late_at p.bus.greatest p) p).bus) report
                    ∙ ap (λ o. (expires o p).bus) late ∙ ap (λ e. after_withdraw_at e p.bus) place;
              }

      by_late : (o : Option ℕ) → late_at p.bus.greatest p ≡ o → p.bus.devices.report ≡ None → expired_at o p ≡ Some r → IsLate p number
      by_late None late none says = absurd (let e = says in cc)
      by_late (Some entry) late none says =
          at_entry entry (place (withdrawal_at entry p.bus) says ∙ entry_is) late none (device_of entry p.bus) refl says
        where
          place : (x : Result (Option Command) BusFault) → expired_of entry x p ≡ Some r → entry ≡ r.entry
          place (Ok None) said = absurd (let e = said in cc)
          place (Ok (Some c)) said = ap entry_in said
          place (Err fault) said = absurd (let e = said in cc)

      by_report : (o : Option (ℕ × Report)) → p.bus.devices.report ≡ o → IsLate p number
      by_report None none = by_late (late_at p.bus.greatest p) refl none (sym (ap (λ o. told_by o p) none) ∙ told)
      by_report (Some (i, x)) some = absurd (let e = sym (ap (λ o. told_by o p) some) ∙ told in cc)

  -- its number, by how many were accepted and have no end, of which none is on its way; and it leaves then
  record LateCounts (before : List Call) (number : ℕ) : Type 0 where
    added : ℕ
    there : slice_get (along added_in before first) k ≡ Some added
    number_is : number + pended before ≡ added + accepted before
    wait : pended before ≡ waited before
    leaves : length (pending_at k (after_call NextReport (after_calls before first)).bus.devices.entries) + 1 ≡ pended before

  not_out : (d : Entry) (c : Command) → withdrawn_of d ≡ Some c → length (out_in (Some d)) ≡ 0
  not_out d c gone = by_way (on_its_way d.controller.session.state) refl
    where
      by_way : (o : Option Command) → on_its_way d.controller.session.state ≡ o → length (out_in (Some d)) ≡ 0
      by_way None none = ap (λ (o : Option Command). length (option_to_list o)) (asked_same d.controller.session.state ∙ none)
      by_way (Some x) some =
          absurd (let e : None ≡ Some c = sym (ap (λ (o : Option Command). if is_some o then None else slice_get d.controller.waiting 0) some) ∙ gone in cc)

  late_counts : (before : List Call) (number : ℕ) → IsLate (after_calls before first) number → LateCounts before number
  late_counts before number late =
      let p = after_calls before first in
      let h = holds before in
      let d = late.device in
      let o = get_both p.bus.devices.entries p.orders k d (sym h.entries) late.has in
      let counted = h.some o.0 o.1 in
      let is_pended : orders_of d ≡ pended before = orders_are d ∙ ap (λ e. length (pending_in e)) (sym late.has) in
      let number_so : number ≡ o.0.next - orders_of d = late.number_is ∙ ap (λ e. front_number e (orders_at k p)) late.has ∙ ap (λ x. front_number (Some d) x) o.1 in
      let size = ended_size before in
      let next = counted.next in
      let split = parts (slice_get p.bus.devices.entries k) in
      let out : length (out_in (slice_get p.bus.devices.entries k)) ≡ 0 = ap (λ e. length (out_in e)) late.has ∙ not_out d late.command late.gone in
      record {
        added = counted.first;
        there = counted.there;
        number_is = omega (arith, is_pended, number_so, size, next);
        wait = omega (arith, split, out);
        leaves = by_gone (gives d);
      }
    where
      by_gone : Gives late.device → length (pending_at k (after_call NextReport (after_calls before first)).bus.devices.entries) + 1 ≡ pended before
      by_gone (inl (none, same)) = absurd (let e : None ≡ Some late.command = sym none ∙ late.gone in cc)
      by_gone (inr (cmd, back)) =
          let p = after_calls before first in
          let e = entry_withdraws late.device in
          let bus_is : (after_call NextReport p).bus ≡ set_to k entry_withdraws p.bus (Some late.device) = late.next ∙ ap (set_to k entry_withdraws p.bus) late.has in
          let now : slice_get (slice_set p.bus.devices.entries k e) k ≡ Some e = set_same p.bus.devices.entries k late.device e late.has in
          let after : length (pending_at k (after_call NextReport p).bus.devices.entries) ≡ length (pending e.controller) =
          ap (λ (b : BusState). length (pending_at k b.devices.entries)) bus_is ∙ ap (λ o. length (pending_in o)) now in
          let was : pended before ≡ length (pending late.device.controller) = ap (λ o. length (pending_in o)) late.has in
          let front : length (pending late.device.controller) ≡ suc (length (pending e.controller)) = ap length back.front in
          omega (arith, after, was, front)

  -- ---- and one that is on its way

  one_out : (d : Entry) (c : Command) → on_its_way d.controller.session.state ≡ Some c → length (out_in (Some d)) ≡ 1
  one_out d c out = ap (λ (o : Option Command). length (option_to_list o)) (asked_same d.controller.session.state ∙ out)

  never_so : (before after some rest : List Call) (number : ℕ) → LateCounts before number → some ++ rest ≡ before ++ NextReport ∷ after
      → IsOnItsWay k number some first → ⊥
  never_so before after some rest number late same out = by_first (one_first some rest before NextReport after same)
    where
      sent : pended some ≡ 1 + waited some
      sent =
          let split = parts (slice_get (after_calls some first).bus.devices.entries k) in
          let one : length (out_in (slice_get (after_calls some first).bus.devices.entries k)) ≡ 1 =
          ap (λ e. length (out_in e)) out.there ∙ one_out out.device out.command out.out in
          omega (arith, split, one)

      one_added : (xs ys : List ℕ) (a b : ℕ) → slice_get xs k ≡ Some a → slice_get (xs ++ ys) k ≡ Some b → a ≡ b
      one_added xs ys a b at there = (let e : Some a ≡ Some b = sym (found_first xs ys k a at) ∙ there in cc)

      by_first : (((y : List Call) × (before ≡ some ++ y)) ⊎ ((y : List Call) × (some ≡ before ++ NextReport ∷ y))) → ⊥
      by_first (inl (y, whole)) =
          let q = after_calls some first in
          let grows = list_grows k y q (sound_more some first (sound_from_new config is)) in
          let end : after_calls before first ≡ after_calls y q = ap (λ l. after_calls l first) whole ∙ calls_more some y first in
          let more : accepted before ≡ length (along (accepted_in k) some first ++ along (accepted_in k) y q) =
          ap (λ l. length (along (accepted_in k) l first)) whole ∙ ap length (along_more (accepted_in k) some y first) in
          let split = length-append (along (accepted_in k) some first) (along (accepted_in k) y q) in
          let wait : waited before ≤ waited some + length (along (accepted_in k) y q) =
          subst (λ (p : PanelState). waiting_at k p.bus.devices.entries ≤ waited some + length (along (accepted_in k) y q)) (sym end) grows.wait in
          let added : out.added ≡ late.added =
          one_added (along added_in some first) (along added_in y q) out.added late.added out.from
          (sym (ap (λ l. slice_get l k) (ap (λ l. along added_in l first) whole ∙ along_more added_in some y first)) ∙ late.there) in
          let ended = ended_size some in
          let number_is = out.number_is in
          let late_is = late.number_is in
          let late_wait = late.wait in
          let is_sent = sent in
          omega (arith, more, split, wait, added, ended, number_is, late_is, late_wait, is_sent)
      by_first (inr (y, whole)) =
          let p = after_calls before first in
          let n = after_call NextReport p in
          let grows = list_grows k y n (still_sound NextReport p (sound_more before first (sound_from_new config is))) in
          let end : after_calls some first ≡ after_calls y n = ap (λ l. after_calls l first) whole ∙ calls_more before (NextReport ∷ y) first in
          let more : accepted some ≡ length (along (accepted_in k) before first ++ along (accepted_in k) y n) =
          ap (λ l. length (along (accepted_in k) l first)) whole ∙ ap length (along_more (accepted_in k) before (NextReport ∷ y) first) in
          let split = length-append (along (accepted_in k) before first) (along (accepted_in k) y n) in
          let pend : pended some ≤ length (pending_at k n.bus.devices.entries) + length (along (accepted_in k) y n) =
          subst (λ (x : PanelState). length (pending_at k x.bus.devices.entries) ≤ length (pending_at k n.bus.devices.entries) + length (along (accepted_in k) y n)) (sym end) grows.pend in
          let added : late.added ≡ out.added =
          one_added (along added_in before first) (along added_in (NextReport ∷ y) p) late.added out.added late.there
          (sym (ap (λ l. slice_get l k) (ap (λ l. along added_in l first) whole ∙ along_more added_in before (NextReport ∷ y) first)) ∙ out.from) in
          let ended = ended_size some in
          let number_is = out.number_is in
          let late_is = late.number_is in
          let leaves = late.leaves in
          omega (arith, more, split, pend, added, ended, number_is, late_is, leaves)

pub expired_never_went_out : ExpiredNeverWentOut
expired_never_went_out config before after some rest is number r command told what numbered same out =
    never_so config is r.entry before after some rest number
    (late_counts config is r.entry before number (late_so config is r.entry (after_calls before (new_panel config)) r command number told what numbered refl)) same out
