-- What a step that is no order leaves of one of several readers.
use Rattle.osdp_sim_bus_laws.proofs.Common.{◌≡◌, ◌<◌, ◌-◌, ℕ, suc, arith, Bool, true, false, if◌then◌else◌, List, [], ◌∷◌, length, Option, Some, None, refl, ◌∙◌, le-leb, nat_le, packets_in, Packet, Command, Report, Answer, after_next_report, handed, left, moment_after, SimStep, Issue, Queue, Busy, Wait, ToReader, ToController, Reopen, LineState, ReaderSite, after_step, all_hear, all_hear_each, changed_site, hears_run, is_there, reopened, report_told, site_begins, site_hears, site_is_busy, site_is_told, waited, IsInSession, IsNoOrder, report_leaves}
use Rattle.std.proofs.lemmas.Bool.{and_from}
use Rattle.osdp_sim_bus_laws.proofs.Places.{StaysAt, stays_all, stays_changed, stays_each, stays_then}

pub there_is : {H : Type 0} (k : ℕ) (s : LineState H) → k < length s.sites → is_there (suc k) s ≡ true
there_is k s few = and_from (nat_le 1 (suc k)) (nat_le (suc k) (length s.sites)) (le-leb 1 (suc k) (omega arith)) (le-leb (suc k) (length s.sites) (omega (arith, few)))

module _ {H : Type 0} (answer_of : H → Command → Answer) (after : H → Command → H) where
  -- what nothing but an order changes
  pub record IsIdle (R : ReaderSite H → ReaderSite H → Type 0) : Type 0 where
    pub same : (u : ReaderSite H) → R u u
    pub both : (u v w : ReaderSite H) → R u v → R v w → R u w
    pub hears : (p : Packet) (u : ReaderSite H) → R u (site_hears answer_of after p u)
    pub told : (r : Report) (u : ReaderSite H) → R u (site_is_told r u)
    pub busy : (busy : Bool) (u : ReaderSite H) → R u (site_is_busy busy u)
    pub begins : (u : ReaderSite H) → R u (site_begins u)

  -- .. as the orders in its account
  abbrev pub SameOrders : ReaderSite H → ReaderSite H → Type 0
  SameOrders u v = (v.account.issued ≡ u.account.issued) × (v.account.queued ≡ u.account.queued)

  pub orders_idle : IsIdle SameOrders
  orders_idle = record {
    same = λ u. (refl, refl);
    both = λ u v w one more. (more.0 ∙ one.0, more.1 ∙ one.1);
    hears = λ p u. (refl, refl);
    told = λ r u. report_leaves (Some r) u.account;
    busy = λ busy u. (refl, refl);
    begins = λ u. (refl, refl);
  }

  module _ (R : ReaderSite H → ReaderSite H → Type 0) (same : (u : ReaderSite H) → R u u) (k : ℕ) where
    pub where_sites : (there : Bool) (s t : LineState H) → StaysAt R k s.sites t.sites → StaysAt R k s.sites (if there then t else s).sites
    where_sites true s t is = is
    where_sites false s t is = stays_all R same k s.sites

    module _ (both : (u v w : ReaderSite H) → R u v → R v w → R u w) (hears : (p : Packet) (u : ReaderSite H) → R u (site_hears answer_of after p u))
        (told : (r : Report) (u : ReaderSite H) → R u (site_is_told r u)) (busy : (busy : Bool) (u : ReaderSite H) → R u (site_is_busy busy u)) where
      told_sites : (o : Option (ℕ × Report)) (s : LineState H) → StaysAt R k s.sites (report_told o s).sites
      told_sites None s = stays_all R same k s.sites
      told_sites (Some (entry, r)) s = stays_changed R same k entry (site_is_told r) s.sites (told r)

      heard_sites : (packets : List Packet) (s : LineState H) → StaysAt R k s.sites (all_hear_each answer_of after packets s).sites
      heard_sites [] s = stays_all R same k s.sites
      heard_sites (p ∷ packets) s =
          let t = all_hear answer_of after p s in
          stays_then R both k s.sites t.sites (all_hear_each answer_of after packets t).sites
          (stays_each R same k (site_hears answer_of after p) s.sites (hears p)) (heard_sites packets t)

      -- a step that is no order and begins no session
      pub still_sites : (step : SimStep) (s : LineState H) → IsNoOrder step → IsInSession step → StaysAt R k s.sites (after_step answer_of after step s).sites
      still_sites (Issue number command) s idles inside = absurd idles
      still_sites (Queue number event) s idles inside = absurd idles
      still_sites (Busy number is_busy) s idles inside =
          where_sites (is_there number s) s (record s { sites = changed_site (number - 1) (site_is_busy is_busy) s.sites })
          (stays_changed R same k (number - 1) (site_is_busy is_busy) s.sites (busy is_busy))
      still_sites (Wait wait) s idles inside =
          let t = waited (moment_after wait s.clock) s in
          told_sites t.bus.devices.report (record t { bus = after_next_report t.bus })
      still_sites (ToReader move) s idles inside =
          heard_sites (packets_in (handed move s.to_readers)) (record s { to_readers = left move s.to_readers })
      still_sites (ToController move) s idles inside =
          let t = record s { bus = hears_run (handed move s.to_bus) s.clock s.bus; to_bus = left move s.to_bus } in
          told_sites t.bus.devices.report (record t { bus = after_next_report t.bus })
      still_sites (Reopen number) s idles inside = absurd inside

  -- .. and one that may begin some
  module _ (R : ReaderSite H → ReaderSite H → Type 0) (idle : IsIdle R) (k : ℕ) where
    pub idle_sites : (step : SimStep) (s : LineState H) → IsNoOrder step → StaysAt R k s.sites (after_step answer_of after step s).sites
    idle_sites (Issue number command) s idles = absurd idles
    idle_sites (Queue number event) s idles = absurd idles
    idle_sites (Reopen number) s idles =
        where_sites R idle.same k (is_there number s) s (reopened (number - 1) s) (stays_changed R idle.same k (number - 1) site_begins s.sites idle.begins)
    idle_sites step s idles = still_sites R idle.same k idle.both idle.hears idle.told idle.busy step s idles tt
