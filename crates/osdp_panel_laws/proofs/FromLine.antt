-- What becomes of an entry's orders where something comes from the line, and where one is taken back.
use Rattle.std.proofs.Common.{◌≡◌, ◌∙◌, ap, sym, inl, inr, refl, arith, append-nil, ℕ, suc, ◌-◌, Bool, true, false, List, [], ◌∷◌, ◌++◌, drop, length, Option, Some, None}
use Rattle.std.proofs.lemmas.Bool.{eqb-true}
use Rattle.std.specs.Prelude.{◌⊎◌, ◌==◌, if◌then◌else◌, is_some, option_map, option_to_list, slice_get}
use Rattle.circular_buffer.specs.Buffer.{keep_last}
use Rattle.osdp_msg.specs.declared.command.Command.{Command}
use Rattle.osdp_controller.specs.declared.report.Report.{Report}
use Rattle.osdp_controller.specs.declared.state.State.{State}
use Rattle.osdp_controller.specs.declared.state.State.TheVariants.{Closed, Quiet, Idle, Waiting, Pausing}
use Rattle.osdp_controller.specs.Held.{on_its_way}
use Rattle.osdp_controller_laws.specs.Commands.{asked_in, told_command}
use Rattle.osdp_bus.specs.declared.entry.Entry.{Entry}
use Rattle.osdp_bus.specs.Buses.{BusState, device_of}
use Rattle.osdp_bus.specs.Machine.{entry_withdraws, withdrawn_of}
use Rattle.osdp_bus_laws.proofs.OneDevice.{pending}
use Rattle.osdp_panel.specs.Orders.{Orders, ended_in, kept_from, reported, told_after}
use Rattle.osdp_panel.specs.Sending.{sends}
use Rattle.osdp_panel.specs.Telling.{is_of_order, where_so}
use Rattle.osdp_panel_laws.specs.Outcome.{Ended, ended_as}
use Rattle.osdp_panel_laws.proofs.Ahead.{Leaves, listed, pending_at, pending_in, room_at, tells_at}
use Rattle.osdp_panel_laws.proofs.Standing.{IsQuiet, IsSo, Tally, ends_none, ends_one, get_both, kept_so, moments_at, orders_are, stands_by, there_is, waiting_of, within}
use Rattle.osdp_panel_laws.proofs.Tallies.{Stands, front_of, stands_back, stands_same, stands_told}

-- ---- what comes from the line

module _ (k : ℕ) (t : Tally) (b c : BusState) (os : List Orders) (told places : ℕ) (is : IsSo k t b os told places) (leaves : Leaves k b.devices c.devices)
    (config : c.config ≡ b.config) where
  abbrev told_now : ℕ
  told_now = told_after (reported b) (reported c) c os told

  abbrev before : List Ended
  before = t.told ++ waiting_of k b.devices.report told

  abbrev IsBrought : Type 0
  IsBrought = Stands t.accepted (t.told ++ waiting_of k c.devices.report told_now) t.back (pending_at k c.devices.entries)
      (keep_last (length (pending_at k c.devices.entries)) (moments_at k os))

  -- nothing of this entry is told
  untold : waiting_of k c.devices.report told_now ≡ waiting_of k b.devices.report told → pending_at k c.devices.entries ≡ pending_at k b.devices.entries → IsBrought
  untold waits pend =
      stands_by t.accepted before (t.told ++ waiting_of k c.devices.report told_now) t.back t.back (pending_at k b.devices.entries) (pending_at k c.devices.entries)
      (keep_last (length (pending_at k b.devices.entries)) (moments_at k os)) (keep_last (length (pending_at k c.devices.entries)) (moments_at k os))
      (ap (λ l. t.told ++ l) waits) refl pend (ap (λ l. keep_last (length l) (moments_at k os)) pend)
      (stands_same t.accepted before t.back (pending_at k b.devices.entries) (moments_at k os) is.stands)

  -- an order of it is
  one_told : (i : ℕ) (r : Report) (cmd : Command) → b.devices.report ≡ None → c.devices.report ≡ Some (i, r) → (i == k) ≡ true → told_command (Some r) ≡ Some cmd → IsBrought
  one_told i r cmd none at here some =
      let rest = pending_at k c.devices.entries in
      let pend : pending_at k b.devices.entries ≡ cmd ∷ rest =
      leaves.arises none ∙ ap (λ o. tells_at k o ++ rest) at ∙ ap (λ (x : Bool). (if x then listed (Some r) else []) ++ rest) here
      ∙ ap (λ (o : Option Command). option_to_list o ++ rest) some in
      let s : Stands t.accepted before t.back (cmd ∷ rest) (moments_at k os) =
      stands_by t.accepted before before t.back t.back (pending_at k b.devices.entries) (cmd ∷ rest) (moments_at k os) (moments_at k os) refl refl (sym pend) refl is.stands in
      let there = there_is k t b c os told places is config leaves.room leaves.count before t.back cmd rest s in
      let d = get_both os c.devices.entries k there.0 (within k t b c os told places is config leaves.room leaves.count) there.1 in
      let counted = is.some there.0 there.1 in
      let number : told_now ≡ there.0.next - length rest - 1 =
      ap (λ (o : Option (ℕ × Report)). told_after (option_map (λ (x : ℕ × Report). x.0) o) (reported c) c os told) none
      ∙ ap (λ (o : Option (ℕ × Report)). told_after None (option_map (λ (x : ℕ × Report). x.0) o) c os told) at
      ∙ ap (λ j. ended_in (device_of j c) (slice_get os j)) (eqb-true i k here)
      ∙ ap (λ e. ended_in e (slice_get os k)) d.1 ∙ ap (λ o. ended_in (Some d.0) o) there.1
      ∙ ap (λ n. there.0.next - n - 1) (orders_are d.0 ∙ ap (λ e. length (pending_in e)) (sym d.1)) in
      let was : before ≡ t.told = ap (λ o. t.told ++ waiting_of k o told) none ∙ append-nil t.told in
      let now : waiting_of k c.devices.report told_now ≡ record { number = there.0.next - length rest - 1; command = cmd } ∷ [] =
      ap (λ o. waiting_of k o told_now) at
      ∙ ap (λ (x : Bool). if x then ended_as (where_so (is_of_order r) told_now) (told_command (Some r)) else []) here
      ∙ ends_one r told_now cmd some ∙ ap (λ (n : ℕ). record { number = n; command = cmd } ∷ []) number in
      stands_by t.accepted (before ++ record { number = there.0.next - length rest - 1; command = cmd } ∷ []) (t.told ++ waiting_of k c.devices.report told_now) t.back t.back
      rest rest (keep_last (length rest) (moments_at k os)) (keep_last (length rest) (moments_at k os))
      (ap (λ l. t.told ++ l) now ∙ ap (λ l. l ++ record { number = there.0.next - length rest - 1; command = cmd } ∷ []) (sym was)) refl refl refl
      (stands_told t.accepted before t.back cmd rest (moments_at k os) s (front_of t.accepted before t.back cmd rest (moments_at k os) s)
      counted.first there.0.next counted.numbers counted.next)

  -- a report arises
  by_entry : (i : ℕ) (r : Report) → b.devices.report ≡ None → c.devices.report ≡ Some (i, r) → (x : Bool) → (i == k) ≡ x
      → (o : Option Command) → told_command (Some r) ≡ o → IsBrought
  by_entry i r none at false other o is_o =
      untold (ap (λ o. waiting_of k o told_now) at
      ∙ ap (λ (x : Bool). if x then ended_as (where_so (is_of_order r) told_now) (told_command (Some r)) else []) other ∙ ap (λ o. waiting_of k o told) (sym none))
      (sym (leaves.arises none ∙ ap (λ o. tells_at k o ++ pending_at k c.devices.entries) at
      ∙ ap (λ (x : Bool). (if x then listed (Some r) else []) ++ pending_at k c.devices.entries) other))
  by_entry i r none at true here None is_o =
      untold (ap (λ o. waiting_of k o told_now) at
      ∙ ap (λ (x : Bool). if x then ended_as (where_so (is_of_order r) told_now) (told_command (Some r)) else []) here
      ∙ ends_none r told_now is_o ∙ ap (λ o. waiting_of k o told) (sym none))
      (sym (leaves.arises none ∙ ap (λ o. tells_at k o ++ pending_at k c.devices.entries) at
      ∙ ap (λ (x : Bool). (if x then listed (Some r) else []) ++ pending_at k c.devices.entries) here
      ∙ ap (λ (o : Option Command). option_to_list o ++ pending_at k c.devices.entries) is_o))
  by_entry i r none at true here (Some cmd) is_o = one_told i r cmd none at here is_o

  by_now : b.devices.report ≡ None → (o : Option (ℕ × Report)) → c.devices.report ≡ o → IsBrought
  by_now none None at =
      untold (ap (λ o. waiting_of k o told_now) at ∙ ap (λ o. waiting_of k o told) (sym none))
      (sym (leaves.arises none ∙ ap (λ o. tells_at k o ++ pending_at k c.devices.entries) at))
  by_now none (Some (i, r)) at = by_entry i r none at (i == k) refl (told_command (Some r)) refl

  by_before : (o : Option (ℕ × Report)) → b.devices.report ≡ o → IsBrought
  by_before None none = by_now none c.devices.report refl
  by_before (Some w) some =
      let still : is_some b.devices.report ≡ true = ap (λ (o : Option (ℕ × Report)). is_some o) some in
      untold (ap (λ o. waiting_of k o told_now) (leaves.report still)
      ∙ ap (λ n. waiting_of k b.devices.report n)
      (ap (λ (o : Option (ℕ × Report)). told_after (option_map (λ (x : ℕ × Report). x.0) o) (reported c) c os told) some))
      (leaves.stays still)

  pub brings_so : IsSo k t c (kept_from 0 c os) (told_after (reported b) (reported c) c os told) places
  brings_so = kept_so k t b c os told places is config leaves.room leaves.count told_now t.told t.back (by_before b.devices.report refl)

-- ---- a call that takes an order back

-- another entry's, or none: as many moments are kept as before
pub kept_quiet : (k : ℕ) (t : Tally) (b c : BusState) (os : List Orders) (told places : ℕ) → IsQuiet k b c → IsSo k t b os told places
    → IsSo k t c (kept_from 0 c os) told places
kept_quiet k t b c os told places q is =
    kept_so k t b c os told places is q.config q.room q.count told t.told t.back
    (stands_by t.accepted (t.told ++ waiting_of k b.devices.report told) (t.told ++ waiting_of k c.devices.report told) t.back t.back
    (pending_at k b.devices.entries) (pending_at k c.devices.entries) (keep_last (length (pending_at k b.devices.entries)) (moments_at k os))
    (keep_last (length (pending_at k c.devices.entries)) (moments_at k os)) (ap (λ o. t.told ++ waiting_of k o told) q.report) refl q.pending
    (ap (λ l. keep_last (length l) (moments_at k os)) q.pending)
    (stands_same t.accepted (t.told ++ waiting_of k b.devices.report told) t.back (pending_at k b.devices.entries) (moments_at k os) is.stands))

-- what a device gives back
pub record GivesBack (d : Entry) (cmd : Command) : Type 0 where
  pub is : withdrawn_of d ≡ Some cmd
  pub front : pending d.controller ≡ cmd ∷ pending (entry_withdraws d).controller

abbrev pub Gives : Entry → Type 0
Gives d = ((withdrawn_of d ≡ None) × (pending (entry_withdraws d).controller ≡ pending d.controller)) ⊎ ((cmd : Command) × GivesBack d cmd)

not_asked : (state : State) → is_some (on_its_way state) ≡ false → asked_in state ≡ None
not_asked Closed is = refl
not_asked (Quiet until) is = refl
not_asked (Idle due) is = refl
not_asked (Waiting until sends o) is = none_is (Rattle.osdp_controller.specs.Exchanges.submitted_command o.exchange) is
  where
    none_is : (x : Option Command) → is_some x ≡ false → x ≡ None
    none_is None h = refl
    none_is (Some c) h = absurd cc
not_asked (Pausing until o) is = none_is (Rattle.osdp_controller.specs.Exchanges.submitted_command o.exchange) is
  where
    none_is : (x : Option Command) → is_some x ≡ false → x ≡ None
    none_is None h = refl
    none_is (Some c) h = absurd cc

pub gives : (d : Entry) → Gives d
gives d = by_way (is_some (on_its_way d.controller.session.state)) refl d.controller.waiting refl
  where
    state : State
    state = d.controller.session.state

    by_way : (x : Bool) → is_some (on_its_way d.controller.session.state) ≡ x → (w : List Command) → d.controller.waiting ≡ w → Gives d
    by_way true is w same =
        inl (
          ap (λ (x : Bool). if x then None else slice_get d.controller.waiting 0) is,
          ap (λ (x : Bool). option_to_list (asked_in d.controller.session.state) ++ (if x then d.controller.waiting else drop 1 d.controller.waiting)) is,
        )
    by_way false is [] same =
        inl (
          ap (λ (x : Bool). if x then None else slice_get d.controller.waiting 0) is ∙ ap (λ l. slice_get l 0) same,
          ap (λ (x : Bool). option_to_list (asked_in d.controller.session.state) ++ (if x then d.controller.waiting else drop 1 d.controller.waiting)) is
              ∙ ap (λ l. option_to_list (asked_in d.controller.session.state) ++ l) (ap (λ l. drop 1 l) same ∙ sym same),
        )
    by_way false is (cmd ∷ w) same =
        let none = not_asked d.controller.session.state is in
        inr (
          cmd,
          record {
            is = ap (λ (x : Bool). if x then None else slice_get d.controller.waiting 0) is ∙ ap (λ l. slice_get l 0) same;
            front = ap (λ o. option_to_list o ++ d.controller.waiting) none ∙ same
                ∙ ap (λ l. cmd ∷ l) (sym (ap (λ (x : Bool). option_to_list (asked_in d.controller.session.state) ++ (if x then d.controller.waiting else drop 1 d.controller.waiting)) is
                ∙ ap (λ o. option_to_list o ++ drop 1 d.controller.waiting) none ∙ ap (λ l. drop 1 l) same));
          },
        )

-- an order of this entry leaves its bus: a report or a call ended it
pub leaves_back : (k : ℕ) (t : Tally) (b c : BusState) (os : List Orders) (told places : ℕ) (cmd : Command) → IsSo k t b os told places → c.config ≡ b.config
    → room_at k c.devices.entries ≡ room_at k b.devices.entries → length c.devices.entries ≡ length b.devices.entries → c.devices.report ≡ b.devices.report
    → pending_at k b.devices.entries ≡ cmd ∷ pending_at k c.devices.entries
    → IsSo k (record t { back = t.back ++ cmd ∷ [] }) c (kept_from 0 c os) told places
leaves_back k t b c os told places cmd is config room count same pend =
    let rest = pending_at k c.devices.entries in
    let all = t.told ++ waiting_of k b.devices.report told in
    let s : Stands t.accepted all t.back (cmd ∷ rest) (moments_at k os) =
    stands_by t.accepted all all t.back t.back (pending_at k b.devices.entries) (cmd ∷ rest) (moments_at k os) (moments_at k os) refl refl (sym pend) refl is.stands in
    kept_so k t b c os told places is config room count told t.told (t.back ++ cmd ∷ [])
    (stands_by t.accepted all (t.told ++ waiting_of k c.devices.report told) (t.back ++ cmd ∷ []) (t.back ++ cmd ∷ []) rest rest
    (keep_last (length rest) (moments_at k os)) (keep_last (length rest) (moments_at k os)) (ap (λ o. t.told ++ waiting_of k o told) same) refl refl refl
    (stands_back t.accepted all t.back cmd rest (moments_at k os) s (front_of t.accepted all t.back cmd rest (moments_at k os) s)))

-- .. it has expired, while no report waits: its number is that of the next order, less those that had no end
pub leaves_late : (k : ℕ) (t : Tally) (b c : BusState) (os : List Orders) (told places number : ℕ) (cmd : Command) → IsSo k t b os told places → c.config ≡ b.config
    → room_at k c.devices.entries ≡ room_at k b.devices.entries → length c.devices.entries ≡ length b.devices.entries → c.devices.report ≡ b.devices.report
    → b.devices.report ≡ None → pending_at k b.devices.entries ≡ cmd ∷ pending_at k c.devices.entries
    → ((o : Orders) → slice_get os k ≡ Some o → number ≡ o.next - length (pending_at k b.devices.entries))
    → IsSo k (record t { told = t.told ++ record { number = number; command = cmd } ∷ [] }) c (kept_from 0 c os) told places
leaves_late k t b c os told places number cmd is config room count same none pend numbered_so =
    let rest = pending_at k c.devices.entries in
    let all = t.told ++ waiting_of k b.devices.report told in
    let s : Stands t.accepted all t.back (cmd ∷ rest) (moments_at k os) =
    stands_by t.accepted all all t.back t.back (pending_at k b.devices.entries) (cmd ∷ rest) (moments_at k os) (moments_at k os) refl refl (sym pend) refl is.stands in
    let there = there_is k t b c os told places is config room count all t.back cmd rest s in
    let counted = is.some there.0 there.1 in
    let size : length (pending_at k b.devices.entries) ≡ suc (length rest) = ap length pend in
    let given = numbered_so there.0 there.1 in
    let number_is : there.0.next - length rest - 1 ≡ number = omega (arith, size, given) in
    let one : List Ended = record { number = there.0.next - length rest - 1; command = cmd } ∷ [] in
    let quiet : waiting_of k b.devices.report told ≡ [] = ap (λ o. waiting_of k o told) none in
    let still : waiting_of k c.devices.report told ≡ [] = ap (λ o. waiting_of k o told) (same ∙ none) in
    let told_list : (t.told ++ record { number = number; command = cmd } ∷ []) ++ waiting_of k c.devices.report told ≡ all ++ one =
    ap (λ l. (t.told ++ record { number = number; command = cmd } ∷ []) ++ l) still ∙ append-nil (t.told ++ record { number = number; command = cmd } ∷ [])
    ∙ ap (λ (n : ℕ). t.told ++ record { number = n; command = cmd } ∷ []) (sym number_is)
    ∙ ap (λ l. l ++ one) (sym (append-nil t.told)) ∙ ap (λ l. (t.told ++ l) ++ one) (sym quiet) in
    kept_so k t b c os told places is config room count told (t.told ++ record { number = number; command = cmd } ∷ []) t.back
    (stands_by t.accepted (all ++ one) ((t.told ++ record { number = number; command = cmd } ∷ []) ++ waiting_of k c.devices.report told) t.back t.back rest rest
    (keep_last (length rest) (moments_at k os)) (keep_last (length rest) (moments_at k os)) told_list refl refl refl
    (stands_told t.accepted all t.back cmd rest (moments_at k os) s (front_of t.accepted all t.back cmd rest (moments_at k os) s)
    counted.first there.0.next counted.numbers counted.next))
