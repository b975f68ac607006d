-- The readers of a simulated line and the sites whose readers they are, place by place.
use Rattle.osdp_sim_bus_laws.proofs.Common.{◌≡◌, ◌<◌, ◌+◌, ℕ, zero, suc, Bool, true, false, cond, List, [], ◌∷◌, ◌++◌, length, map, Option, Some, None, refl, sym, subst, ap, ◌∙◌, arith, map-append, option_map_or, flat_map, Packet, spelling, Command, is_closed, Report, ReaderState, Answer, Delivered, is_false, is_true, Each, changed, site_at, tagged, IsNoRefusalOf, IsTold, TellsFrom, packets_on, report_for, with_report, sent, ReaderSite, changed_site, site_hears, site_is_told, site_says, IsSiteOf, SitesOf}
use Rattle.std.specs.Prelude.{slice_get, slice_set, option_to_list, ◌==◌}
use Rattle.osdp_reader.specs.Table as reader
use Rattle.osdp_link_laws.specs.Refusals as refusals
use Rattle.osdp_shared_line.specs.Line as line
use Rattle.osdp_sim_bus_laws.proofs.Reading.{hearing, said_from}
use Rattle.osdp_sim_laws.proofs.Accounts.{adds_report}
use Rattle.osdp_sim_laws.proofs.Ends.{ends_after}

-- ---- reports

plain_for : (k : ℕ) (r : Option (ℕ × Report)) → IsNoRefusalOf r → Each refusals.IsNoRefusal (option_to_list (report_for k r))
plain_for k None plain = tt
plain_for k (Some (entry, r)) plain = by_test (entry == k)
  where
    by_test : (b : Bool) → Each refusals.IsNoRefusal (option_to_list (cond b (Some r) None))
    by_test true = (plain, tt)
    by_test false = tt

module _ {H : Type 0} where
  pub get_site : (k : ℕ) (t : line.Site H) (us : List (ReaderSite H)) (ts : List (line.Site H)) → SitesOf us ts → site_at k ts ≡ Some t
      → (u : ReaderSite H) × (slice_get us k ≡ Some u) × IsSiteOf u t
  get_site k t [] [] all is = absurd cc
  get_site k t [] (v ∷ ts) all is = absurd all
  get_site k t (u ∷ us) [] all is = absurd all
  get_site zero t (u ∷ us) (v ∷ ts) all is = let same : v ≡ t = cc in (u, refl, subst (IsSiteOf u) same all.0)
  get_site (suc k) t (u ∷ us) (v ∷ ts) all is = get_site k t us ts all.1 is

  pub get_nobody : (k : ℕ) (us : List (ReaderSite H)) (ts : List (line.Site H)) → SitesOf us ts → site_at k ts ≡ None → slice_get us k ≡ None
  get_nobody k [] [] all is = refl
  get_nobody k [] (v ∷ ts) all is = absurd all
  get_nobody k (u ∷ us) [] all is = absurd all
  get_nobody zero (u ∷ us) (v ∷ ts) all is = absurd cc
  get_nobody (suc k) (u ∷ us) (v ∷ ts) all is = get_nobody k us ts all.1 is

  pub set_site : (k : ℕ) (u : ReaderSite H) (t : line.Site H) (us : List (ReaderSite H)) (ts : List (line.Site H)) → SitesOf us ts → IsSiteOf u t
      → SitesOf (slice_set us k u) (changed k t ts)
  set_site k u t [] [] all is = tt
  set_site k u t [] (v ∷ ts) all is = absurd all
  set_site k u t (w ∷ us) [] all is = absurd all
  set_site zero u t (w ∷ us) (v ∷ ts) all is = (is, all.1)
  set_site (suc k) u t (w ∷ us) (v ∷ ts) all is = (all.0, set_site k u t us ts all.1 is)

  -- one of them changes as its site does, or there is none
  pub one_changes : (k : ℕ) (change : ReaderSite H → ReaderSite H) (t next : line.Site H) (us : List (ReaderSite H)) (ts : List (line.Site H)) → SitesOf us ts
      → site_at k ts ≡ Some t → ((u : ReaderSite H) → IsSiteOf u t → IsSiteOf (change u) next) → SitesOf (changed_site k change us) (changed k next ts)
  one_changes k change t next us ts all is does =
      let old = get_site k t us ts all is in
      subst (λ o. SitesOf (option_map_or (λ u. slice_set us k (change u)) o us) (changed k next ts)) (sym old.1)
      (set_site k (change old.0) next us ts all (does old.0 old.2))

  pub none_changes : (k : ℕ) (change : ReaderSite H → ReaderSite H) (us : List (ReaderSite H)) (ts : List (line.Site H)) → SitesOf us ts → site_at k ts ≡ None
      → changed_site k change us ≡ us
  none_changes k change us ts all is = ap (λ o. option_map_or (λ u. slice_set us k (change u)) o us) (get_nobody k us ts all is)

  -- ---- a report is told

  abbrev pub told_as : Option Report → ReaderSite H → ReaderSite H
  told_as r u = record u { account = with_report r u.account }

  abbrev pub told_sites : ℕ → Option (ℕ × Report) → List (ReaderSite H) → List (ReaderSite H)
  told_sites k r [] = []
  told_sites k r (u ∷ us) = told_as (report_for k r) u ∷ told_sites (suc k) r us

  site_told : (r : Option Report) (said : List (ℕ × Packet)) (u : ReaderSite H) (s t : line.Site H) → IsTold r said s t → Each refusals.IsNoRefusal (option_to_list r) → IsSiteOf u s
      → IsSiteOf (told_as r u) t
  site_told r said u s t is plain h = record {
    reader = h.reader ∙ sym is.reader;
    ended =
        ends_after r u.account (is_closed s.controller.session.state) (is_closed t.controller.session.state) is.closes is.once h.ended;
    causes = (adds_report r u.account).causes plain h.causes;
  }

  pub all_told : (k : ℕ) (r : Option (ℕ × Report)) (said : List (ℕ × Packet)) (us : List (ReaderSite H)) (ss ts : List (line.Site H)) → IsNoRefusalOf r
      → SitesOf us ss → TellsFrom k r said ss ts → SitesOf (told_sites k r us) ts
  all_told k r said [] [] [] plain all told = tt
  all_told k r said [] [] (t ∷ ts) plain all told = absurd told
  all_told k r said [] (s ∷ ss) ts plain all told = absurd all
  all_told k r said (u ∷ us) [] ts plain all told = absurd all
  all_told k r said (u ∷ us) (s ∷ ss) [] plain all told = absurd told
  all_told k r said (u ∷ us) (s ∷ ss) (t ∷ ts) plain all told =
      (site_told (report_for k r) said u s t told.0 (plain_for k r plain) all.0, all_told (suc k) r said us ss ts plain all.1 told.1)

  -- .. and more is said to each
  pub all_coming : (k : ℕ) (r : Option (ℕ × Report)) (before said : List (ℕ × Packet)) (ss ts : List (line.Site H)) → TellsFrom k r said ss ts
      → Each (λ (s : line.Site H). s.coming ≡ before) ss → Each (λ (t : line.Site H). t.coming ≡ before ++ said) ts
  all_coming k r before said [] [] told all = tt
  all_coming k r before said [] (t ∷ ts) told all = absurd told
  all_coming k r before said (s ∷ ss) [] told all = absurd told
  all_coming k r before said (s ∷ ss) (t ∷ ts) told all =
      (told.0.coming ∙ ap (λ ps. ps ++ said) all.0, all_coming (suc k) r before said ss ts told.1 all.1)

  pub none_told : (k : ℕ) (us : List (ReaderSite H)) → told_sites k None us ≡ us
  none_told k [] = refl
  none_told k (u ∷ us) = ap (λ vs. u ∷ vs) (none_told (suc k) us)

  none_after : (k entry : ℕ) (r : Report) (us : List (ReaderSite H)) → entry < k → told_sites k (Some (entry, r)) us ≡ us
  none_after k entry r [] lt = refl
  none_after k entry r (u ∷ us) lt =
      ap (λ b. told_as (cond b (Some r) None) u ∷ told_sites (suc k) (Some (entry, r)) us) (is_false entry k (λ e. absurd (omega (arith, lt, e))))
      ∙ ap (λ vs. u ∷ vs) (none_after (suc k) entry r us (omega (arith, lt)))

  pub told_from : (k i entry : ℕ) (r : Report) (us : List (ReaderSite H)) → entry ≡ k + i → changed_site i (site_is_told r) us ≡ told_sites k (Some (entry, r)) us
  told_from k i entry r [] at = refl
  told_from k zero entry r (u ∷ us) at =
      sym (ap (λ b. told_as (cond b (Some r) None) u ∷ told_sites (suc k) (Some (entry, r)) us) (is_true entry k (omega (arith, at)))
      ∙ ap (λ vs. told_as (Some r) u ∷ vs) (none_after (suc k) entry r us (omega (arith, at))))
  told_from k (suc i) entry r (u ∷ us) at =
      later (slice_get us i) us
      ∙ ap (λ vs. u ∷ vs) (told_from (suc k) i entry r us (omega (arith, at)))
      ∙ sym (ap (λ b. told_as (cond b (Some r) None) u ∷ told_sites (suc k) (Some (entry, r)) us) (is_false entry k (λ e. absurd (omega (arith, at, e)))))
    where
      later : (o : Option (ReaderSite H)) (vs : List (ReaderSite H))
          → option_map_or (λ v. slice_set (u ∷ vs) (suc i) (site_is_told r v)) o (u ∷ vs)
          ≡ u ∷ option_map_or (λ v. slice_set vs i (site_is_told r v)) o vs
      later None vs = refl
      later (Some v) vs = refl

-- ---- there are as many of the one as of the other

pub same_count : {H : Type 0} (us : List (ReaderSite H)) (ts : List (line.Site H)) → SitesOf us ts → length us ≡ length ts
same_count [] [] all = refl
same_count [] (t ∷ ts) all = absurd all
same_count (u ∷ us) [] all = absurd all
same_count (u ∷ us) (t ∷ ts) all = ap suc (same_count us ts all.1)

-- ---- a packet that all readers hear

sent_tagged : (k : ℕ) (o : Option Packet) → sent o ≡ map spelling (packets_on (tagged k (option_to_list o)))
sent_tagged k None = refl
sent_tagged k (Some p) = refl

pub both_on : (xs ys : List (ℕ × Packet)) → map spelling (packets_on (xs ++ ys)) ≡ map spelling (packets_on xs) ++ map spelling (packets_on ys)
both_on xs ys = ap (map spelling) (map-append (λ (q : ℕ × Packet). q.1) xs ys) ∙ map-append spelling (packets_on xs) (packets_on ys)

module _ {H : Type 0} where
  -- none of them hears it
  pub none_heard : (rest : List (ℕ × Packet)) (us : List (ReaderSite H)) (ts : List (line.Site H)) → SitesOf us ts
      → SitesOf us (map (λ (t : line.Site H). record t { coming = rest }) ts)
  none_heard rest [] [] all = tt
  none_heard rest [] (t ∷ ts) all = absurd all
  none_heard rest (u ∷ us) [] all = absurd all
  none_heard rest (u ∷ us) (t ∷ ts) all =
      (record { reader = all.0.reader; ended = all.0.ended; causes = all.0.causes }, none_heard rest us ts all.1)

module _ {H : Type 0} (answer_of : H → Command → Answer) (after : H → Command → H) where
  site_heard : (p : Packet) (rest : List (ℕ × Packet)) (u : ReaderSite H) (t : line.Site H) → IsSiteOf u t
      → IsSiteOf (site_hears answer_of after p u) (hearing answer_of after p rest t)
  site_heard p rest u t h =
      subst (λ r. IsSiteOf (site_hears answer_of after p (record { reader = r; account = u.account })) (hearing answer_of after p rest t)) (sym h.reader) (record {
        reader = refl;
        ended = h.ended;
        causes = h.causes;
      })

  pub all_heard : (p : Packet) (rest : List (ℕ × Packet)) (us : List (ReaderSite H)) (ts : List (line.Site H)) → SitesOf us ts
      → SitesOf (map (site_hears answer_of after p) us) (map (hearing answer_of after p rest) ts)
  all_heard p rest [] [] all = tt
  all_heard p rest [] (t ∷ ts) all = absurd all
  all_heard p rest (u ∷ us) [] all = absurd all
  all_heard p rest (u ∷ us) (t ∷ ts) all = (site_heard p rest u t all.0, all_heard p rest us ts all.1)

  pub all_said : (p : Packet) (k : ℕ) (us : List (ReaderSite H)) (ts : List (line.Site H)) → SitesOf us ts
      → flat_map (site_says answer_of after p) us ≡ map spelling (packets_on (said_from answer_of after Delivered k p ts))
  all_said p k [] [] all = refl
  all_said p k [] (t ∷ ts) all = absurd all
  all_said p k (u ∷ us) [] all = absurd all
  all_said p k (u ∷ us) (t ∷ ts) all =
      let o = (reader.hears answer_of after t.reader p).reply in
      let says = tagged k (option_to_list o) in
      ap (λ (s : ReaderState H). sent (reader.hears answer_of after s p).reply ++ flat_map (site_says answer_of after p) us) all.0.reader
      ∙ ap (λ l. l ++ flat_map (site_says answer_of after p) us) (sent_tagged k o)
      ∙ ap (λ l. map spelling (packets_on says) ++ l) (all_said p (suc k) us ts all.1)
      ∙ sym (both_on says (said_from answer_of after Delivered (suc k) p ts))
