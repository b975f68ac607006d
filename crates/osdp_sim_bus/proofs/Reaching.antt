-- What a step is to one reader.
use Rattle.osdp_sim_bus.proofs.Common.{◌≡◌, ◌≢◌, ℕ, zero, suc, ◌-◌, nat_le, Bool, true, false, arith, if◌then◌else◌, List, [], ◌∷◌, length, Option, Some, None, refl, ap, ◌∙◌, option_map, slice_get, slice_set, option_map_or, leb-true, length-map, slice_get-map, packets_in, Packet, Command, Answer, submit_refusal_at, BusFault, handed, left, SimStep, Issue, Queue, Busy, Wait, ToReader, ToController, Reopen, HasAnAccountEach, LeavesTheOthers, ReachesEach, site_hears_each, run, LineState, ReaderSite, new_site, set_up, after_step, all_hear, all_hear_each, is_there, issued, site_begins, site_hears, site_is_busy, site_issues, site_queues}
use Rattle.osdp_sim_bus.proofs.Counts.{same_many}
use Rattle.osdp_sim_bus.proofs.Places.{both}

-- another place than the one that is set
other_set : {X : Type 0} (xs : List X) (there place : ℕ) (x : X) → there ≢ place → slice_get (slice_set xs there x) place ≡ slice_get xs place
other_set [] there place x other = refl
other_set (y ∷ xs) zero zero x other = absurd (other refl)
other_set (y ∷ xs) zero (suc place) x other = refl
other_set (y ∷ xs) (suc there) zero x other = refl
other_set (y ∷ xs) (suc there) (suc place) x other = other_set xs there place x (λ e. other (ap suc e))

module _ {H : Type 0} (answer_of : H → Command → Answer) (after : H → Command → H) where
  mapped : (f g : ReaderSite H → ReaderSite H) (o : Option (ReaderSite H)) → option_map g (option_map f o) ≡ option_map (λ site. g (f site)) o
  mapped f g None = refl
  mapped f g (Some site) = refl

  kept : (o : Option (ReaderSite H)) → o ≡ option_map (λ site. site) o
  kept None = refl
  kept (Some site) = refl

  hears_each : (packets : List Packet) (s : LineState H) (place : ℕ)
      → slice_get (all_hear_each answer_of after packets s).sites place ≡ option_map (site_hears_each answer_of after packets) (slice_get s.sites place)
  hears_each [] s place = kept (slice_get s.sites place)
  hears_each (p ∷ packets) s place =
      hears_each packets (all_hear answer_of after p s) place
      ∙ ap (option_map (site_hears_each answer_of after packets)) (slice_get-map (site_hears answer_of after p) s.sites place)
      ∙ mapped (site_hears answer_of after p) (site_hears_each answer_of after packets) (slice_get s.sites place)

  pub reaches_each : ReachesEach answer_of after
  reaches_each s move place = hears_each (packets_in (handed move s.to_readers)) (record s { to_readers = left move s.to_readers }) place

  -- the reader at this place is the same
  abbrev pub IsSame : ℕ → LineState H → LineState H → Type 0
  IsSame place new old = slice_get new.sites place ≡ slice_get old.sites place

  changed_other : (there place : ℕ) (change : ReaderSite H → ReaderSite H) (sites : List (ReaderSite H)) (o : Option (ReaderSite H)) → there ≢ place
      → slice_get (option_map_or (λ site. slice_set sites there (change site)) o sites) place ≡ slice_get sites place
  changed_other there place change sites None other = refl
  changed_other there place change sites (Some site) other = other_set sites there place (change site) other

  issued_other : (fault : Option BusFault) (there place : ℕ) (command : Command) (s : LineState H) → there ≢ place → IsSame place (issued fault there command s) s
  issued_other (Some fault) there place command s other = refl
  issued_other None there place command s other = changed_other there place (site_issues command) s.sites (slice_get s.sites there) other

  where_same : (there : Bool) (place : ℕ) (new old : LineState H) → (there ≡ true → IsSame place new old) → IsSame place (if there then new else old) old
  where_same true place new old same = same refl
  where_same false place new old same = refl

  elsewhere : (number place : ℕ) (s : LineState H) → number ≢ suc place → is_there number s ≡ true → number - 1 ≢ place
  elsewhere number place s other there =
      let one = leb-true 1 number (both (nat_le 1 number) (nat_le number (length s.sites)) there).0 in
      λ e. other (omega (arith, one, e))

  pub leaves_the_others : LeavesTheOthers answer_of after
  leaves_the_others s (Issue number command) place other =
      where_same (is_there number s) place _ s
      (λ there. issued_other (submit_refusal_at (number - 1) command s.bus) (number - 1) place command s (elsewhere number place s other there))
  leaves_the_others s (Queue number event) place other =
      where_same (is_there number s) place _ s
      (λ there. changed_other (number - 1) place (site_queues event) s.sites (slice_get s.sites (number - 1)) (elsewhere number place s other there))
  leaves_the_others s (Busy number busy) place other =
      where_same (is_there number s) place _ s
      (λ there. changed_other (number - 1) place (site_is_busy busy) s.sites (slice_get s.sites (number - 1)) (elsewhere number place s other there))
  leaves_the_others s (Wait wait) place none = absurd none
  leaves_the_others s (ToReader move) place none = absurd none
  leaves_the_others s (ToController move) place none = absurd none
  leaves_the_others s (Reopen number) place other =
      where_same (is_there number s) place _ s
      (λ there. changed_other (number - 1) place site_begins s.sites (slice_get s.sites (number - 1)) (elsewhere number place s other there))

  run_many : (steps : List SimStep) (s : LineState H) → length (run answer_of after steps s).sites ≡ length s.sites
  run_many [] s = refl
  run_many (step ∷ steps) s = run_many steps (after_step answer_of after step s) ∙ same_many answer_of after step s

  pub has_an_account_each : HasAnAccountEach answer_of after
  has_an_account_each config readers steps =
      length-map (run answer_of after steps (set_up config readers)).sites (λ (site : ReaderSite H). site.account)
      ∙ run_many steps (set_up config readers) ∙ length-map readers new_site
