-- What the moves of programs and of power failures show: what their calls do.
use Rattle.osdp_calls_ledger.proofs.Common.{◌≡◌, ℕ, Bool, true, false, cond, List, [], ◌∷◌, Option, Some, None, Ok, Err, Result, refl, sym, subst, ap, ◌∙◌, inl, inr, append-nil, eqb_tells, Command, comset_of, Machine, submit_refusal, withdrawn_in, device_of, changed_unless, submit_refusal_at, withdrawal_at, withdrawal_of, BusFault, Answer, Ledger, RestartPanel, Link, Move, both, all_steps, submits, withdraws, Net, NetMove, RestartsPanel, Site, Submit, Withdraw, is_comset_refused, site_at, move_of, one_if, view, Call, begun_of, withdrawn, InUse, Station, FoundAt, Nobody, Somebody, found, IsOurs, outstanding_same, Controls, IsNetOf, IsSame, Sites, device_steps, given_back, panel_restarts, panel_steps, steps_at}
use Rattle.std.specs.Prelude.{◌==◌, is_some}
use Rattle.osdp_msg.specs.declared.limits.Room.{Room}
use Rattle.osdp_controller.specs.declared.config.ControllerConfig.{ControllerConfig}
use Rattle.osdp_bus_laws.specs.Calls as bus
use Rattle.osdp_ledger.specs.Ledger as ledger
use Rattle.osdp_link_laws.specs.Link as link
use Rattle.osdp_link_ledger.specs.Steps as links
use Rattle.osdp_calls.proofs.Accepting.{command_accepted}
use Rattle.osdp_calls.proofs.Controllers.{taken_back_same}
use Rattle.osdp_calls_ledger.proofs.Seen.{seen, seen_at}
use Rattle.osdp_shared_line.proofs.Doing.{both_accept}

-- nothing, whichever way
pub no_steps : (b : Bool) (steps : List ledger.Step) → steps ≡ [] → cond b steps [] ≡ []
no_steps true steps none = none
no_steps false steps none = refl

module _ {H : Type 0} (answer_of : H → Command → Answer) (after : H → Command → H) where
  -- a move of one link
  pub one_shown : (i k : ℕ) (move : Move H) (l : Link H) (g : Ledger)
      → all_steps answer_of after (one_if i k move) l g ≡ cond (i == k) (links.steps_of answer_of after move l g) []
  one_shown i k move l g = by_test (i == k)
    where
      by_test : (b : Bool) → all_steps answer_of after (cond b (move ∷ []) []) l g ≡ cond b (links.steps_of answer_of after move l g) []
      by_test true = append-nil (links.steps_of answer_of after move l g)
      by_test false = refl

  pub seen_one : (k : ℕ) (move : NetMove H) (n : Net H) (g : Ledger) → seen answer_of after k (move ∷ []) n g ≡ seen_at answer_of after k (site_at k n.sites) move n g
  seen_one k move n g = append-nil (seen_at answer_of after k (site_at k n.sites) move n g)

  -- ---- a device's own

  pub of_device : (i : ℕ) (call : Call H) (m : NetMove H) (move : Move H) (l : InUse H) (n : Net H) → IsNetOf l n
      → ((k : ℕ) (s : Site H) → move_of k s m n ≡ one_if i k move)
      → ((k : ℕ) (s : Site H) (t : Station H) (g : Ledger) → s.reader ≡ t.reader
      → links.steps_of answer_of after move (view k s n) g ≡ device_steps answer_of after call t g)
      → (k : ℕ) (g : Ledger) → seen answer_of after k (m ∷ []) n g ≡ cond (i == k) (steps_at answer_of after call (site_at k l.stations) g) []
  of_device i call m move l n h is shows k g =
      seen_one k m n g ∙ by_found (found (Sites l) k l.bus.devices.entries l.stations n.sites h.sites)
    where
      by_found : FoundAt (Sites l) k k l.bus.devices.entries l.stations n.sites
          → seen_at answer_of after k (site_at k n.sites) m n g ≡ cond (i == k) (steps_at answer_of after call (site_at k l.stations) g) []
      by_found (Nobody o a b c) =
          ap (λ o. seen_at answer_of after k o m n g) c ∙ sym (no_steps (i == k) [] refl)
          ∙ sym (ap (λ o. cond (i == k) (steps_at answer_of after call o g) []) b)
      by_found (Somebody d t s a b c has) =
          ap (λ o. seen_at answer_of after k o m n g) c
          ∙ ap (λ ms. all_steps answer_of after ms (view k s n) g) (is k s)
          ∙ one_shown i k move (view k s n) g
          ∙ ap (λ steps. cond (i == k) steps []) (shows k s t g has.reader)
          ∙ sym (ap (λ o. cond (i == k) (steps_at answer_of after call o g) []) b)

  -- ---- power of the panel

  pub of_power : (settings : ℕ → ControllerConfig × Room) (l : InUse H) (n : Net H) → IsNetOf l n → (k : ℕ) (g : Ledger) → IsOurs k l.stations
      → seen answer_of after k (RestartsPanel settings ∷ []) n g ≡ panel_restarts (device_of k l.bus)
  of_power settings l n h k g own =
      seen_one k (RestartsPanel settings) n g ∙ by_found (found (Sites l) k l.bus.devices.entries l.stations n.sites h.sites)
    where
      by_found : FoundAt (Sites l) k k l.bus.devices.entries l.stations n.sites
          → seen_at answer_of after k (site_at k n.sites) (RestartsPanel settings) n g ≡ panel_restarts (device_of k l.bus)
      by_found (Nobody o a b c) = absurd (let e = sym (ap is_some b) ∙ own in cc)
      by_found (Somebody d t s a b c has) =
          ap (λ o. seen_at answer_of after k o (RestartsPanel settings) n g) c
          ∙ ap (λ o. RestartPanel (is_some o) ∷ []) (outstanding_same t.begun l.bus.greatest d.controller s.controller has.controller)
          ∙ sym (ap panel_restarts a)

  -- ---- a command is accepted

  pub of_submit : (i : ℕ) (command : Command) (l : InUse H) (n : Net H) → IsNetOf l n → submit_refusal_at i command l.bus ≡ None → (k : ℕ) (g : Ledger) → IsOurs k l.stations
      → seen answer_of after k (Submit i command ∷ []) n g ≡ panel_steps k (bus.Submit i command) l.bus g
  of_submit i command l n h none k g own =
      seen_one k (Submit i command) n g
      ∙ by_found (found (Sites l) k l.bus.devices.entries l.stations n.sites h.sites)
      ∙ sym (ap (λ f. cond (i == k) (changed_unless f [] (submits None command g)) []) none)
    where
      Goal : Type 0
      Goal = seen_at answer_of after k (site_at k n.sites) (Submit i command) n g ≡ cond (i == k) (submits None command g) []

      other : (s : Site H) → (i == k) ≡ false → all_steps answer_of after (move_of k s (Submit i command) n) (view k s n) g ≡ []
      other s differs =
          both (λ ms. all_steps answer_of after ms (view k s n) g ≡ []) (is_comset_refused i (comset_of command) s n.sites) [] (one_if i k (link.Submit command)) refl
          (ap (λ b. all_steps answer_of after (cond b (link.Submit command ∷ []) []) (view k s n) g) differs)

      by_found : FoundAt (Sites l) k k l.bus.devices.entries l.stations n.sites → Goal
      by_found (Nobody o a b c) = absurd (let e = sym (ap is_some b) ∙ own in cc)
      by_found (Somebody d t s a b c has) =
          ap (λ o. seen_at answer_of after k o (Submit i command) n g) c
          ∙ elim (eqb_tells i k) [
            | inl equal ↦
                let accepted = command_accepted answer_of after k command d t s l n h a has (subst (λ j. submit_refusal_at j command l.bus ≡ None) equal.1 none) in
                let free = both_accept (is_comset_refused k (comset_of command) s n.sites) (submit_refusal command s.controller) accepted in
                ap (λ b. all_steps answer_of after (cond b [] (one_if i k (link.Submit command))) (view k s n) g)
                (ap (λ j. is_comset_refused j (comset_of command) s n.sites) equal.1 ∙ free.0)
                ∙ one_shown i k (link.Submit command) (view k s n) g
                ∙ ap (λ f. cond (i == k) (submits f command g) []) free.1
            | inr differs ↦ other s differs.0 ∙ sym (ap (λ b. cond b (submits None command g) []) differs.0)
          ]

  -- ---- .. or taken back

  pub of_withdraw : (i : ℕ) (l : InUse H) (n : Net H) → IsNetOf l n → (k : ℕ) (g : Ledger) → IsOurs k l.stations
      → seen answer_of after k (Withdraw i ∷ []) n g ≡ panel_steps k (bus.Withdraw i) l.bus g
  of_withdraw i l n h k g own =
      seen_one k (Withdraw i) n g ∙ by_found (found (Sites l) k l.bus.devices.entries l.stations n.sites h.sites)
    where
      by_found : FoundAt (Sites l) k k l.bus.devices.entries l.stations n.sites
          → seen_at answer_of after k (site_at k n.sites) (Withdraw i) n g ≡ panel_steps k (bus.Withdraw i) l.bus g
      by_found (Nobody o a b c) = absurd (let e = sym (ap is_some b) ∙ own in cc)
      by_found (Somebody d t s a b c has) =
          ap (λ o. seen_at answer_of after k o (Withdraw i) n g) c
          ∙ one_shown i k link.Withdraw (view k s n) g
          ∙ elim (eqb_tells i k) [
            | inl equal ↦
                ap (λ (o : Option Command). cond (i == k) (withdraws o g) []) (taken_back_same t.begun l.bus.greatest d.controller s.controller has.controller)
                ∙ sym (ap (λ o. cond (i == k) (withdraws (given_back (withdrawal_of o)) g) []) (subst (λ j. device_of j l.bus ≡ Some d) (sym equal.1) a))
            | inr differs ↦
                ap (λ b. cond b (withdraws (withdrawn_in s.controller.session.state s.controller.waiting) g) []) differs.0
                ∙ sym (ap (λ b. cond b (withdraws (given_back (withdrawal_at i l.bus)) g) []) differs.0)
          ]
