-- The orders that wait with so many before one: what leaves is the oldest, as it goes out or as it is taken back.
use Rattle.osdp_bus_order_laws.proofs.Common.{◌≡◌, ◌∙◌, ap, sym, inl, inr, refl, ℕ, suc, ◌+◌, ◌≤◌, List, [], ◌∷◌, ◌++◌, length, append_assoc, Option, Some, None, ◌⊎◌, arith, Command, Entry, BusState, device_of, Call, Withdraw, after_call, Well, goes_out, accepted_in, taken_back_in, waiting_orders}
use Rattle.std.specs.Option.{option_or}
use Rattle.osdp_bus_order_laws.specs.Places.{leaves_in}
use Rattle.osdp_bus_order_laws.proofs.Along.{fresh_out, none_out, one_place, out_is}
use Rattle.osdp_bus_order_laws.proofs.Calls.{goes, listed}

-- none goes out as one is taken back
one_leaves : (entry : ℕ) (call : Call) (b : BusState) → Well b → (goes_out entry call b ≡ None) ⊎ (taken_back_in entry call b ≡ None)
one_leaves entry (Withdraw at) b well = inl (by_device (device_of entry b) refl)
  where
    by_device : (o : Option Entry) → device_of entry b ≡ o → goes_out entry (Withdraw at) b ≡ None
    by_device None none = fresh_out entry (Withdraw at) b none
    by_device (Some d) there =
        let k = goes entry d b there (Withdraw at) well.sound (λ begun. let is = begun.tick in cc) in
        out_is entry (Withdraw at) d k.device b there k.there ∙ none_out d k.device k.keeps
one_leaves entry _ b well = inr refl

listed_leaves : (a b : Option Command) → (a ≡ None) ⊎ (b ≡ None) → listed a ++ listed b ≡ listed (option_or a b)
listed_leaves None b h = refl
listed_leaves (Some c) None h = refl
listed_leaves (Some c) (Some d) (inl none) = absurd cc
listed_leaves (Some c) (Some d) (inr none) = absurd cc

pub none_first : (a b : Option Command) → option_or a b ≡ None → a ≡ None
none_first None b none = refl
none_first (Some c) b none = absurd cc

-- those that wait, with so many before the order
abbrev pub Waits : ℕ → List Command → Command → List Command → BusState → Type 0
Waits entry ahead command later b = waiting_orders entry b ≡ ahead ++ command ∷ later

module _ (entry : ℕ) (call : Call) (b : BusState) (well : Well b) (ahead later : List Command) (command : Command) (waiting : Waits entry ahead command later b) where
  abbrev pub come : List Command
  come = later ++ listed (accepted_in entry call b)

  placed : listed (leaves_in entry call b) ++ waiting_orders entry (after_call call b) ≡ ahead ++ command ∷ come
  placed =
      sym (ap (λ l. l ++ waiting_orders entry (after_call call b))
      (listed_leaves (goes_out entry call b) (taken_back_in entry call b) (one_leaves entry call b well)))
      ∙ one_place entry call b well
      ∙ ap (λ l. l ++ listed (accepted_in entry call b)) waiting
      ∙ append_assoc ahead (command ∷ later) (listed (accepted_in entry call b))

  pub stays_placed : leaves_in entry call b ≡ None → Waits entry ahead command come (after_call call b)
  stays_placed nothing = sym (ap (λ o. listed o ++ waiting_orders entry (after_call call b)) nothing) ∙ placed

  gone : (sent : Command) → leaves_in entry call b ≡ Some sent → sent ∷ waiting_orders entry (after_call call b) ≡ ahead ++ command ∷ come
  gone sent is = sym (ap (λ o. listed o ++ waiting_orders entry (after_call call b)) is) ∙ placed

  pub is_first : (sent : Command) → length ahead ≡ 0 → leaves_in entry call b ≡ Some sent → sent ≡ command
  is_first sent empty is = by_ahead ahead empty (gone sent is)
    where
      by_ahead : (ahead : List Command) → length ahead ≡ 0 → sent ∷ waiting_orders entry (after_call call b) ≡ ahead ++ command ∷ come → sent ≡ command
      by_ahead [] none is = cc
      by_ahead (a ∷ ahead) none is = absurd cc

  -- one fewer is before it
  pub record Fewer (before : ℕ) : Type 0 where
    pub sooner : List Command
    pub many : length sooner ≡ before
    pub fewer : Waits entry sooner command come (after_call call b)

  pub is_next : (before : ℕ) (sent : Command) → length ahead ≡ suc before → leaves_in entry call b ≡ Some sent → Fewer before
  is_next before sent many is = by_ahead ahead many (gone sent is)
    where
      by_ahead : (ahead : List Command) → length ahead ≡ suc before → sent ∷ waiting_orders entry (after_call call b) ≡ ahead ++ command ∷ come → Fewer before
      by_ahead [] many is = absurd cc
      by_ahead (a ∷ ahead) many is = record { sooner = ahead; many = cc; fewer = cc }

pub some_wait : (ahead : List Command) (command : Command) (later w : List Command) → w ≡ ahead ++ command ∷ later → 1 ≤ length w
some_wait [] command later w is = let many : length w ≡ suc (length later) = ap (λ (l : List Command). length l) is in omega arith
some_wait (a ∷ ahead) command later w is =
    let many : length w ≡ suc (length (ahead ++ command ∷ later)) = ap (λ (l : List Command). length l) is in omega arith
