-- Which reports make a device online or offline.
use Rattle.osdp_site.proofs.Common.{◌≡◌, ◌∙◌, ap, ℕ, suc, arith, true, false, List, [], ◌∷◌, ◌++◌, refl, All, Report, NoEnd, NoOpening, OnlineBetween, heeds_all, is_end, is_opening, PlaceState, goes_offline, goes_online, heeds, is_online}
use Rattle.osdp_controller.specs.declared.report.Report.TheVariants as report
use Rattle.osdp_site.specs.declared.place.Presence.{Presence}
use Rattle.osdp_site.specs.declared.place.Presence.TheVariants.{Online, Offline}

cut : (pause : ℕ) (before after : List (Report × ℕ)) (p : PlaceState) → heeds_all pause (before ++ after) p ≡ heeds_all pause after (heeds_all pause before p)
cut pause [] after p = refl
cut pause ((r, now) ∷ hs) after p = cut pause hs after (heeds pause now r p)

came_online : (now : ℕ) (o : Presence) → is_online o ≡ false → goes_online now o ≡ Online now
came_online now (Online since) is = absurd cc
came_online now (Offline since) is = refl

went_offline : (now : ℕ) (o : Presence) → is_online o ≡ true → goes_offline now o ≡ Offline now
went_offline now (Online since) is = refl
went_offline now (Offline since) is = absurd cc

opened : (pause now : ℕ) (r : Report) (p : PlaceState) → is_opening r ≡ true → is_online p.presence ≡ false → (heeds pause now r p).presence ≡ Online now
opened pause now (report.Opened id) p is off = came_online now p.presence off
opened pause now _ p is off = absurd cc

ended : (pause now : ℕ) (r : Report) (p : PlaceState) → is_end r ≡ true → is_online p.presence ≡ true → (heeds pause now r p).presence ≡ Offline now
ended pause now (report.Moved command answered) p is on = went_offline now p.presence on
ended pause now (report.Lost cause command) p is on = went_offline now p.presence on
ended pause now _ p is on = absurd cc

online_still : (pause now t : ℕ) (r : Report) (p : PlaceState) → is_end r ≡ false → p.presence ≡ Online t → (heeds pause now r p).presence ≡ Online t
online_still pause now t (report.Opened id) p unlike is = ap (goes_online now) is
online_still pause now t (report.Moved command answered) p unlike is = absurd cc
online_still pause now t (report.Lost cause command) p unlike is = absurd cc
online_still pause now t _ p unlike is = is

offline_still : (pause now t : ℕ) (r : Report) (p : PlaceState) → is_opening r ≡ false → p.presence ≡ Offline t → (heeds pause now r p).presence ≡ Offline t
offline_still pause now t (report.Opened id) p unlike is = absurd cc
offline_still pause now t (report.Moved command answered) p unlike is = ap (goes_offline now) is
offline_still pause now t (report.Lost cause command) p unlike is = ap (goes_offline now) is
offline_still pause now t _ p unlike is = is

stays_online : (pause t : ℕ) (hs : List (Report × ℕ)) (p : PlaceState) → All NoEnd hs → p.presence ≡ Online t → (heeds_all pause hs p).presence ≡ Online t
stays_online pause t [] p none is = is
stays_online pause t ((r, now) ∷ hs) p none is =
    stays_online pause t hs (heeds pause now r p) (λ k d less. none (suc k) d (omega arith)) (online_still pause now t r p (none 0 (r, now) (omega arith)) is)

stays_offline : (pause t : ℕ) (hs : List (Report × ℕ)) (p : PlaceState) → All NoOpening hs → p.presence ≡ Offline t → (heeds_all pause hs p).presence ≡ Offline t
stays_offline pause t [] p none is = is
stays_offline pause t ((r, now) ∷ hs) p none is =
    stays_offline pause t hs (heeds pause now r p) (λ k d less. none (suc k) d (omega arith)) (offline_still pause now t r p (none 0 (r, now) (omega arith)) is)

pub online_between : (pause : ℕ) (before after : List (Report × ℕ)) (r : Report) (now : ℕ) (p : PlaceState) → OnlineBetween pause before after r now p
online_between pause before after r now p =
    let q = heeds_all pause before p in
    let parts = ap (λ (s : PlaceState). s.presence) (cut pause before ((r, now) ∷ after) p) in
    record {
      online = λ is none off. parts ∙ stays_online pause now after (heeds pause now r q) none (opened pause now r q is off);
      offline = λ is none on. parts ∙ stays_offline pause now after (heeds pause now r q) none (ended pause now r q is on);
    }
