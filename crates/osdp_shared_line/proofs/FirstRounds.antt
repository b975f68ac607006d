-- From the first sessions on rounds ask that a reader isn't busy, and that they fit.
use Rattle.osdp_shared_line.proofs.Common.{◌≡◌, ◌++◌, ℕ, false, All, Option, Some, None, refl, sym, subst, ap, Command, new_address, Answer, NoComset, SetsNoAddress, each_all, each_map, each_of, IsSetUp, option_to_list, outstanding_command, Net, Site, site_at, IsEmpty, IsReady, own}
use Rattle.osdp_shared_line.specs.FirstRounds.{FirstRoundsAreExact}
use Rattle.osdp_shared_line.proofs.Changing.{set_is}

-- what is no COMSET at all is none to a device's address
sets_none : (c : Command) → NoComset c → SetsNoAddress c
sets_none c none = by_address (new_address c) (λ b e. let set = set_is c b e in absurd (let is = set.1 in cc))
  where
    by_address : (o : Option ℕ) → ((b : ℕ) → o ≡ Some b → ⊥) → o ≡ None
    by_address None never = refl
    by_address (Some b) never = absurd (never b refl)

module _ {H : Type 0} where
  pub is_empty : (n : Net H) → IsSetUp n → IsEmpty n
  is_empty n up = record { coming = up.coming; to_panel = up.to_panel }

  pub is_ready : (n : Net H) (k : ℕ) (s : Site H) → IsSetUp n → site_at k n.sites ≡ Some s → s.reader.busy ≡ false → IsReady k s n
  is_ready n k s up at idle = record {
    to_reader = ap (own k) (up.coming k s at);
    to_controller = ap (own k) up.to_panel;
    address = up.together k s at;
    ready = idle;
    stays = subst (λ q. All SetsNoAddress (option_to_list (outstanding_command q) ++ s.controller.waiting)) (sym (up.begins k s at).quiet.1) waits;
  }
    where
      waits : All SetsNoAddress s.controller.waiting
      waits =
          each_all SetsNoAddress s.controller.waiting (each_map NoComset SetsNoAddress sets_none s.controller.waiting
          (each_of NoComset s.controller.waiting (up.waiting k s at)))

  module _ (answer_of : H → Command → Answer) (after : H → Command → H) where
    pub first_rounds : FirstRoundsAreExact answer_of after
    first_rounds n turns k s last up at there = (
      λ h. (h.ready.ready, h.stored, h.rounds_fit),
      λ h. record {
        up = up;
        fits = tt;
        empty = is_empty n up;
        rounds_fit = h.2;
        was = at;
        stored = h.1;
        is = at;
        there = there;
        ready = is_ready n k s up at h.0;
      },
    )
