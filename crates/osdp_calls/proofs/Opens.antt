-- A session opens: what was said before and concerns it is lost out of the middle, to its device and to the panel.
use Rattle.osdp_calls.proofs.Common.{◌≡◌, ◌≤◌, [], ◌∷◌, length, Some, refl, sym, subst, ap, ◌∙◌, Command, Entry, Answer, Net, Site, site_at, InUse, Opening, Station, ahead_of_device, ahead_of_panel, slice_get, slice_set}
use Rattle.osdp_calls.proofs.Ahead.{device_opened, others_opened, panel_opened}
use Rattle.osdp_calls.proofs.Losing.{Loses, lose_to_panel, lose_to_reader, then_loses, with_coming, with_panel}
use Rattle.osdp_calls.proofs.Matching.{Match, changed_same, set_others, set_same}
use Rattle.osdp_calls.proofs.Same.{IsNetOf, placed_so}
use Rattle.osdp_calls.proofs.Nexts.{loses_to}
use Rattle.osdp_calls.proofs.Stations.{LosesTo, Sites}

module _ {H : Type 0} (answer_of : H → Command → Answer) (after : H → Command → H) where
  pub opens : (o : Opening) (d : Entry) (t : Station H) (s : Site H) (l : InUse H) (n : Net H) → IsNetOf l n → o.place ≤ length l.said
      → slice_get l.bus.devices.entries o.entry ≡ Some d → site_at o.entry l.stations ≡ Some t → site_at o.entry n.sites ≡ Some s → Sites l o.entry d t s
      → LosesTo answer_of after n (record l { openings = o ∷ l.openings })
  opens o d t s l n h within a b c is =
      let k = o.entry in
      let coming = ahead_of_device k t.place (o ∷ l.openings) l.said in
      let panel = ahead_of_panel l.place (o ∷ l.openings) l.said in
      let s1 : Site H = record s { coming = coming } in
      let n1 : Net H = with_coming answer_of after k s coming n in
      let n2 : Net H = with_panel answer_of after panel n1 in
      let before : n ≡ with_coming answer_of after k s (ahead_of_device k t.place l.openings l.said) n =
      sym (ap (λ ss. record n { sites = ss }) (changed_same k s n.sites c)) ∙ ap (λ q. with_coming answer_of after k s q n) is.coming in
      let first : Loses answer_of after n n1 =
      subst (λ m. Loses answer_of after m n1) (sym before)
      (lose_to_reader answer_of after k s coming (ahead_of_device k t.place l.openings l.said) [] n c (device_opened k t.place o l.openings l.said)) in
      let second : Loses answer_of after n1 n2 =
      subst (λ qs. Loses answer_of after (with_panel answer_of after qs n1) n2) (sym h.to_panel)
      (lose_to_panel answer_of after panel (ahead_of_panel l.place l.openings l.said) [] n1 (panel_opened l.place o l.openings l.said)) in
      let l1 = record l { openings = o ∷ l.openings } in
      loses_to answer_of after n n2 l1 (then_loses answer_of after n n1 n2 first second) (record {
        sites = subst (λ ds. Match (Sites l1) 0 ds l.stations n2.sites) (set_same k d l.bus.devices.entries a)
            (subst (λ ts. Match (Sites l1) 0 (slice_set l.bus.devices.entries k d) ts n2.sites) (changed_same k t l.stations b)
            (set_others (Sites l) (Sites l1) k d t s1 l.bus.devices.entries l.stations n.sites (λ x d1 t1 s2 other was.
            placed_so was (was.coming ∙ sym (others_opened x t1.place o l.openings l.said (λ e. other (sym e)))) was.place)
            h.sites (placed_so is refl is.place)));
        to_panel = refl;
        place = h.place;
        openings = (within, h.openings);
        said = h.said;
      })
