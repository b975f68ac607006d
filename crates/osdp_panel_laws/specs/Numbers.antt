-- The numbers of orders.
use Rattle.std.specs.Prelude.{◌≡◌, ℕ, ◌+◌, Bool, false, not, ◌&&◌, ◌==◌, if◌then◌else◌, is_some, Some}
use Rattle.osdp_panel.specs.Giving.{give_refusal}
use Rattle.osdp_panel.specs.Orders.{Orders, PanelState, orders_at}
use Rattle.osdp_panel_laws.specs.Calls.{Call, Submit, after_call}

-- a call is an order of this entry that is accepted
abbrev pub accepts : Call → ℕ → PanelState → Bool
accepts (Submit entry command until) k p = (entry == k) && not (is_some (give_refusal entry command p))
accepts _ k p = false

-- an entry that is there stays there, and the number of its next order is one greater after each order of it that is accepted, and after no other call. So no two orders
-- of an entry have one number, since `submit` answers the next one
abbrev pub CountsUp : Call → PanelState → Type 0
CountsUp call p = (k : ℕ) (o : Orders) → orders_at k p ≡ Some o
    → (after : Orders) × ((orders_at k (after_call call p) ≡ Some after) × (after.next ≡ (if accepts call k p then o.next + 1 else o.next)))
