-- Devices are added to a bus, one for each reader.
use Rattle.osdp_sim_bus.proofs.Common.{◌≡◌, List, [], ◌∷◌, ◌++◌, length, map, Some, refl, sym, subst, ap, ◌∙◌, slice_get, slice_set, option_map_or, append_assoc, BusState, after_add, after_begin_at, entry_begins, new_device, Entry, Given, address_of, begun_device, bus_with}
use Rattle.osdp_bus.specs.declared.config.BusConfig.{BusConfig}

-- the last one
pub last_there : {X : Type 0} (xs : List X) (x : X) → slice_get (xs ++ x ∷ []) (length xs) ≡ Some x
last_there [] x = refl
last_there (y ∷ xs) x = last_there xs x

pub last_set : {X : Type 0} (xs : List X) (x next : X) → slice_set (xs ++ x ∷ []) (length xs) next ≡ xs ++ next ∷ []
last_set [] x next = refl
last_set (y ∷ xs) x next = ap (λ l. y ∷ l) (last_set xs x next)

-- one device more, whose session has begun
pub begins_added : {H : Type 0} (config : BusConfig) (devices : List Entry) (given : Given H)
    → after_begin_at (length devices) 0 (after_add (address_of given) (bus_with config devices))
    ≡ bus_with config (devices ++ begun_device config given ∷ [])
begins_added config devices given =
    let new = new_device (address_of given) config in
    let added = after_add (address_of given) (bus_with config devices) in
    ap (λ o. option_map_or (λ d. record added { devices = record added.devices { entries = slice_set (devices ++ new ∷ []) (length devices) (entry_begins 0 d) } }) o added) (last_there devices new)
    ∙ ap (bus_with config) (last_set devices new (entry_begins 0 new))

-- a device for each of the readers so far
pub record HaveBegun {H : Type 0} (config : BusConfig) (all left : List (Given H)) (b : BusState) : Type 0 where
  pub bus : b ≡ bus_with config b.devices.entries
  pub devices : b.devices.entries ++ map (begun_device config) left ≡ map (begun_device config) all

pub one_more_begun : {H : Type 0} (config : BusConfig) (all old left : List (Given H)) (given : Given H) (bus next : BusState)
    → HaveBegun config all old bus → old ≡ given ∷ left
    → next ≡ after_begin_at (length bus.devices.entries) 0 (after_add (address_of given) bus)
    → HaveBegun config all left next
one_more_begun config all old left given bus next h is led =
    let es = bus.devices.entries in
    let so : next ≡ bus_with config (es ++ begun_device config given ∷ []) =
    led ∙ ap (λ b. after_begin_at (length es) 0 (after_add (address_of given) b)) h.bus ∙ begins_added config es given in
    subst (HaveBegun config all left) (sym so) (record {
      bus = refl;
      devices = append_assoc es (begun_device config given ∷ []) (map (begun_device config) left)
          ∙ ap (λ l. es ++ map (begun_device config) l) (sym is) ∙ h.devices;
    })

-- what is put at the end of a list, one element after the other
pub one_more_put : {X Y : Type 0} (f : X → Y) (done : List Y) (old left : List X) (x : X) (whole : List Y)
    → done ++ map f old ≡ whole → old ≡ x ∷ left → (done ++ f x ∷ []) ++ map f left ≡ whole
one_more_put f done old left x whole so_far is =
    append_assoc done (f x ∷ []) (map f left) ∙ ap (λ l. done ++ map f l) (sym is) ∙ so_far
