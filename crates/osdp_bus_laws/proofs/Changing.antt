-- What holds of the devices of a bus at all times, and is kept where one of them changes.
use Rattle.osdp_bus_laws.proofs.Common.{◌≡◌, ◌∙◌, ap, sym, subst, inl, inr, ℕ, true, false, List, [], ◌∷◌, ◌++◌, length, Option, Some, None, refl, ◌≢◌, is_some, slice_get, slice_set, Report, Entry, Devices, waiting_after, holds, Names}
use Rattle.osdp_bus_laws.proofs.OneDevice.{IsDevice}
use Rattle.osdp_bus_laws.proofs.Places.{IsAt, added, is_false, replaced}

pub record Sound (ds : Devices) : Type 0 where
  pub devices : (i : ℕ) (d : Entry) → slice_get ds.entries i ≡ Some d → IsDevice d
  pub apart : (a i j : ℕ) (d e : Entry) → slice_get ds.entries i ≡ Some d → slice_get ds.entries j ≡ Some e → Names a d → Names a e → i ≡ j
  pub one : (i j : ℕ) (d e : Entry) → slice_get ds.entries i ≡ Some d → slice_get ds.entries j ≡ Some e → holds d ≡ true → holds e ≡ true → i ≡ j
  pub waits : is_some ds.report ≡ true → (i : ℕ) (d : Entry) → slice_get ds.entries i ≡ Some d → holds d ≡ false

-- no device at another place has the address
abbrev pub IsFree : ℕ → ℕ → Devices → Type 0
IsFree a i ds = (j : ℕ) (f : Entry) → j ≢ i → slice_get ds.entries j ≡ Some f → Names a f → ⊥

-- nor an exchange
abbrev pub HoldsAlone : ℕ → Devices → Type 0
HoldsAlone i ds = (j : ℕ) (f : Entry) → slice_get ds.entries j ≡ Some f → holds f ≡ true → j ≡ i

-- a device that comes to a place, and what is told of it
pub record Comes (ds : Devices) (i : ℕ) (e : Entry) (told : Option Report) : Type 0 where
  pub device : IsDevice e
  pub free : (a : ℕ) → Names a e → IsFree a i ds
  pub holds_alone : holds e ≡ true → HoldsAlone i ds
  pub ended : is_some told ≡ true → HoldsAlone i ds × (holds e ≡ false)
  pub quiet : is_some ds.report ≡ true → holds e ≡ false

-- the devices where it does: at its place it is found, elsewhere what was there
abbrev pub ArePut : Devices → ℕ → Entry → List Entry → Type 0
ArePut ds i e entries = (j : ℕ) (f : Entry) → slice_get entries j ≡ Some f → IsAt ds.entries i e j f

module _ (ds : Devices) (i : ℕ) (e : Entry) (told : Option Report) (entries : List Entry) (sound : Sound ds) (comes : Comes ds i e told) where
  devices_put : (j : ℕ) (f : Entry) → IsAt ds.entries i e j f → IsDevice f
  devices_put j f (inl (here, same)) = subst IsDevice (sym same) comes.device
  devices_put j f (inr (other, at)) = sound.devices j f at

  apart_put : (a j k : ℕ) (f g : Entry) → IsAt ds.entries i e j f → IsAt ds.entries i e k g → Names a f → Names a g → j ≡ k
  apart_put a j k f g (inl (here, same)) (inl (there, is)) n m = here ∙ sym there
  apart_put a j k f g (inl (here, same)) (inr (other, at)) n m = absurd (comes.free a (subst (Names a) same n) k g other at m)
  apart_put a j k f g (inr (other, at)) (inl (there, is)) n m = absurd (comes.free a (subst (Names a) is m) j f other at n)
  apart_put a j k f g (inr (other, at)) (inr (another, there)) n m = sound.apart a j k f g at there n m

  one_put : (j k : ℕ) (f g : Entry) → IsAt ds.entries i e j f → IsAt ds.entries i e k g → holds f ≡ true → holds g ≡ true → j ≡ k
  one_put j k f g (inl (here, same)) (inl (there, is)) n m = here ∙ sym there
  one_put j k f g (inl (here, same)) (inr (other, at)) n m = absurd (other (comes.holds_alone (sym (ap holds same) ∙ n) k g at m))
  one_put j k f g (inr (other, at)) (inl (there, is)) n m = absurd (other (comes.holds_alone (sym (ap holds is) ∙ m) j f at n))
  one_put j k f g (inr (other, at)) (inr (another, there)) n m = sound.one j k f g at there n m

  waits_put : (t : Option Report) → told ≡ t → is_some (waiting_after i t ds.report) ≡ true → (j : ℕ) (f : Entry) → IsAt ds.entries i e j f
      → holds f ≡ false
  waits_put None is some j f (inl (here, same)) = ap holds same ∙ comes.quiet some
  waits_put None is some j f (inr (other, at)) = sound.waits some j f at
  waits_put (Some report) is some j f (inl (here, same)) = ap holds same ∙ (comes.ended (ap (λ (o : Option Report). is_some o) is)).1
  waits_put (Some report) is some j f (inr (other, at)) =
      is_false (holds f) (λ h. other ((comes.ended (ap (λ (o : Option Report). is_some o) is)).0 j f at h))

  pub sound_put : ArePut ds i e entries → Sound (record { entries = entries; report = waiting_after i told ds.report })
  sound_put put = record {
    devices = λ j f at. devices_put j f (put j f at);
    apart = λ a j k f g at there. apart_put a j k f g (put j f at) (put k g there);
    one = λ j k f g at there. one_put j k f g (put j f at) (put k g there);
    waits = λ some j f at. waits_put told refl some j f (put j f at);
  }

-- a device takes the place of another
pub sound_set : (ds : Devices) (i : ℕ) (e : Entry) (told : Option Report) → Sound ds → Comes ds i e told
    → Sound (record { entries = slice_set ds.entries i e; report = waiting_after i told ds.report })
sound_set ds i e told sound comes = sound_put ds i e told (slice_set ds.entries i e) sound comes (replaced ds.entries i e)

-- or comes after them all
pub sound_added : (ds : Devices) (e : Entry) → Sound ds → Comes ds (length ds.entries) e None
    → Sound (record { entries = ds.entries ++ e ∷ []; report = ds.report })
sound_added ds e sound comes = sound_put ds (length ds.entries) e None (ds.entries ++ e ∷ []) sound comes (added ds.entries e)

-- whose names and exchange were those of the device before it
pub comes_of : (ds : Devices) (i : ℕ) (d e : Entry) (told : Option Report) → Sound ds → slice_get ds.entries i ≡ Some d → IsDevice e
    → ((a : ℕ) → Names a e → Names a d) → (holds e ≡ true → holds d ≡ true) → (is_some told ≡ true → (holds d ≡ true) × (holds e ≡ false))
    → Comes ds i e told
comes_of ds i d e told sound at device names held ends = record {
  device = device;
  free = λ a named j f other there named_there. other (sound.apart a j i f d there at named_there (names a named));
  holds_alone = λ h j f there stands. sound.one j i f d there at stands (held h);
  ended = λ some. ((λ j f there stands. sound.one j i f d there at stands (ends some).0), (ends some).1);
  quiet = λ some. is_false (holds e) (λ h. let stands = held h in let none = sound.waits some i d at in cc);
}
