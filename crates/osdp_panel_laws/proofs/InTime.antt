-- What is given out was sent by a tick, and is given out until its last moment.
use Rattle.std.proofs.Common.{◌≡◌, ◌∙◌, inl, inr, ap, sym, refl, arith, ℕ, ◌≤◌, Bool, true, false, max, List, [], ◌∷◌, ◌++◌, Option, Some, None, subst}
use Rattle.std.proofs.lemmas.Bool.{ltb-false}
use Rattle.std.specs.Prelude.{◌⊎◌, ◌≢◌, if◌then◌else◌, is_some, nat_lt}
use Rattle.osdp_bus.specs.declared.asking.Question.{Question}
use Rattle.osdp_bus.specs.declared.config.BusConfig.{BusConfig}
use Rattle.osdp_bus.specs.Asking.{question}
use Rattle.osdp_bus.specs.Buses.{BusState, has_report}
use Rattle.osdp_bus.specs.Machine.{add_refusal, after_next_report, changed_unless}
use Rattle.osdp_bus.specs.Ticking.{BusTicked, bus_ticks}
use Rattle.osdp_bus_laws.specs.Calls as bus
use Rattle.osdp_bus_laws.specs.Moments.{MomentsAreSeen}
use Rattle.osdp_panel.specs.Giving.{after_give, give_refusal, late_at}
use Rattle.osdp_panel.specs.Orders.{PanelState, brings}
use Rattle.osdp_panel.specs.Panels.{after_add_at, new_panel}
use Rattle.osdp_panel.specs.Sending.{after_tick, holds_back, lasts, polled_by, rests, sends, sends_of, sent_at, until_by, written, written_by}
use Rattle.osdp_panel.specs.Telling.{after_settle, expires}
use Rattle.osdp_panel_laws.specs.Calls.{Call, Add, Retarget, Begin, Submit, Withdraw, Hear, Silence, NextReport, Tick, Write, after_call, after_calls}
use Rattle.osdp_panel_laws.proofs.Calling.{one_call as calls_so}
use Rattle.osdp_panel_laws.specs.InTime.{GivesInTime, IsInTime}

-- ---- which call makes a burst that is to be given out

unless_so : {F : Type 0} (r : Option F) (p q : PanelState) (u : ℕ) → q.last ≡ p.last → (changed_unless r p q).last ≡ Some u → p.last ≡ Some u
unless_so None p q u same is = sym same ∙ is
unless_so (Some fault) p q u same is = is

expires_so : (late : Option ℕ) (p : PanelState) (u : ℕ) → (expires late p).last ≡ Some u → p.last ≡ Some u
expires_so None p u is = is
expires_so (Some entry) p u is = is

settles_so : (reports : Bool) (p : PanelState) (u : ℕ)
    → (if reports then record p { bus = after_next_report p.bus; withheld = false } else expires (late_at p.bus.greatest p) p).last ≡ Some u → p.last ≡ Some u
settles_so true p u is = is
settles_so false p u is = expires_so (late_at p.bus.greatest p) p u is

abbrev IsOfTick : Call → ℕ → PanelState → Type 0
IsOfTick call u p = (at : ℕ) × ((call ≡ Tick at) × ((after_tick at p).last ≡ Some u))

one_call : (call : Call) (p : PanelState) (u : ℕ) → (after_call call p).last ≡ Some u → (p.last ≡ Some u) ⊎ IsOfTick call u p
one_call (Add address next) p u is = inl (unless_so (add_refusal address p.bus) p (after_add_at address next p) u refl is)
one_call (Retarget entry address) p u is = inl is
one_call (Begin entry now) p u is = inl is
one_call (Submit entry command until) p u is = inl (unless_so (give_refusal entry command p) p (after_give entry command until p) u refl is)
one_call (Withdraw entry) p u is = inl is
one_call (Hear bytes now) p u is = inl is
one_call (Silence now) p u is = inl is
one_call NextReport p u is = inl (settles_so (has_report p.bus) p u is)
one_call (Tick now) p u is = inr (now, (refl, is))
one_call (Write now) p u is = absurd cc

-- such a tick among calls, where no burst was to be given out before them
record IsFrom (calls : List Call) (u : ℕ) (p : PanelState) : Type 0 where
  before : List Call
  at : ℕ
  after : List Call
  whole : calls ≡ before ++ Tick at ∷ after
  gives : (after_tick at (after_calls before p)).last ≡ Some u

later : (call : Call) (calls : List Call) (u : ℕ) (p : PanelState) → IsFrom calls u (after_call call p) → IsFrom (call ∷ calls) u p
later call calls u p f = record {
  before = call ∷ f.before;
  at = f.at;
  after = f.after;
  whole = ap (λ cs. call ∷ cs) f.whole;
  gives = f.gives;
}

here : (call : Call) (calls : List Call) (u : ℕ) (p : PanelState) → IsOfTick call u p → IsFrom (call ∷ calls) u p
here call calls u p t = record {
  before = [];
  at = t.0;
  after = calls;
  whole = ap (λ c. c ∷ calls) t.1.0;
  gives = t.1.1;
}

along : (calls : List Call) (p : PanelState) (u : ℕ) → (after_calls calls p).last ≡ Some u → (p.last ≡ Some u) ⊎ IsFrom calls u p
along [] p u is = inl is
along (call ∷ calls) p u is = from_rest (along calls (after_call call p) u is)
  where
    from_call : (p.last ≡ Some u) ⊎ IsOfTick call u p → (p.last ≡ Some u) ⊎ IsFrom (call ∷ calls) u p
    from_call (inl before) = inl before
    from_call (inr t) = inr (here call calls u p t)

    from_rest : ((after_call call p).last ≡ Some u) ⊎ IsFrom calls u (after_call call p) → (p.last ≡ Some u) ⊎ IsFrom (call ∷ calls) u p
    from_rest (inl before) = from_call (one_call call p u before)
    from_rest (inr f) = inr (later call calls u p f)

-- ---- what such a tick comes to

same_until : (x : Option Question) (p q : PanelState) → p.orders ≡ q.orders → until_by x p ≡ until_by x q
same_until None p q same = refl
same_until (Some y) p q same = ap (λ os. until_by (Some y) (record p { orders = os })) same

record Gives (sent : Bool) (u : ℕ) (after : PanelState) : Type 0 where
  some : sent ≡ true
  asked : u ≡ until_by (question after.bus) after
  within : after.bus.greatest ≤ u

lasts_so : (late : Bool) (q : PanelState) (until u : ℕ) → nat_lt until q.bus.greatest ≡ late → until ≡ until_by (question q.bus) q
    → (if late then record q { last = None; withheld = true } else record q { last = Some until }).last ≡ Some u
    → Gives true u (if late then record q { last = None; withheld = true } else record q { last = Some until })
lasts_so true q until u test asked is = absurd cc
lasts_so false q until u test asked is =
    let same : until ≡ u = cc in
    let within : q.bus.greatest ≤ until = ltb-false until q.bus.greatest test in
    record {
      some = refl;
      asked = sym same ∙ asked ∙ same_until (question q.bus) q (record q { last = Some until }) refl;
      within = subst (λ n. q.bus.greatest ≤ n) same within;
    }

sends_so : (sent : Bool) (q : PanelState) (u : ℕ) → (sends sent q).last ≡ Some u → Gives sent u (sends sent q)
sends_so false q u is = absurd cc
sends_so true q u is =
    let r : PanelState = record q { polled = polled_by (question q.bus) q } in
    let until = until_by (question q.bus) q in
    lasts_so (nat_lt until r.bus.greatest) r until u refl (same_until (question q.bus) q r refl) is

record GivesAt (now u : ℕ) (p : PanelState) : Type 0 where
  some : is_some (sent_at now p) ≡ true
  asked : u ≡ until_by (question (after_tick now p).bus) (after_tick now p)
  within : (after_tick now p).bus.greatest ≤ u

tick_by : (held : Bool) (now u : ℕ) (p : PanelState) → holds_back now p ≡ held → (if held then rests now p else sends_of (bus_ticks now p.bus) p).last ≡ Some u
    → GivesAt now u p
tick_by true now u p test is = absurd cc
tick_by false now u p test is =
    let t = bus_ticks now p.bus in
    let g = sends_so (is_some t.sent) (record (brings t.bus p) { brought = false }) u is in
    let after : after_tick now p ≡ sends_of t p = ap (λ h. if h then rests now p else sends_of t p) test in
    record {
      some = ap (λ h. is_some (if h then None else t.sent)) test ∙ g.some;
      asked = g.asked ∙ ap (λ (x : PanelState). until_by (question x.bus) x) (sym after);
      within = subst (λ (x : PanelState). x.bus.greatest ≤ u) (sym after) g.within;
    }

tick_gives : (now u : ℕ) (p : PanelState) → (after_tick now p).last ≡ Some u → GivesAt now u p
tick_gives now u p is = tick_by (holds_back now p) now u p refl is

tick_seen : (held : Bool) (now : ℕ) (b : BusState) → MomentsAreSeen b → (bus.after_call (if held then bus.OnBytes [] now else bus.Tick now) b).greatest ≡ max b.greatest now
tick_seen true now b seen = seen.brought (bus.OnBytes [] now) now refl
tick_seen false now b seen = seen.brought (bus.Tick now) now refl

tick_moment : (now : ℕ) (p : PanelState) → MomentsAreSeen p.bus → (after_tick now p).bus.greatest ≡ max p.bus.greatest now
tick_moment now p seen = ap (λ (b : BusState). b.greatest) (calls_so (Tick now) p) ∙ tick_seen (holds_back now p) now p.bus seen

-- ---- what is given out at a moment

record IsWritten (last : Option ℕ) (moment : ℕ) : Type 0 where
  until : ℕ
  has : last ≡ Some until
  within : moment ≤ until

written_in : (late : Bool) (until moment : ℕ) (burst : List ℕ) → nat_lt until moment ≡ late → (if late then [] else burst) ≢ [] → IsWritten (Some until) moment
written_in true until moment burst test some = absurd (some refl)
written_in false until moment burst test some = record { until = until; has = refl; within = ltb-false until moment test }

written_so : (last : Option ℕ) (moment : ℕ) (burst : List ℕ) → written_by last moment burst ≢ [] → IsWritten last moment
written_so None moment burst some = absurd (some refl)
written_so (Some until) moment burst some = written_in (nat_lt until moment) until moment burst refl some

from_tick : (calls : List Call) (now u : ℕ) (p : PanelState) → ((b : BusState) → MomentsAreSeen b) → max (after_calls calls p).bus.greatest now ≤ u
    → IsFrom calls u p → IsInTime calls now p
from_tick calls now u p seen within f =
    let q = after_calls f.before p in
    let g = tick_gives f.at u q f.gives in
    record {
      before = f.before;
      at = f.at;
      after = f.after;
      until = u;
      whole = f.whole;
      sent = g.some;
      asked = g.asked;
      ticked = subst (λ n. n ≤ u) (tick_moment f.at q (seen q.bus)) g.within;
      written = within;
    }

in_time : (calls : List Call) (now u : ℕ) (p : PanelState) → ((b : BusState) → MomentsAreSeen b) → p.last ≡ None → max (after_calls calls p).bus.greatest now ≤ u
    → (p.last ≡ Some u) ⊎ IsFrom calls u p → IsInTime calls now p
in_time calls now u p seen none within (inl some) = absurd (let e = sym none ∙ some in cc)
in_time calls now u p seen none within (inr f) = from_tick calls now u p seen within f

pub gives_in_time : ((b : BusState) → MomentsAreSeen b) → GivesInTime
gives_in_time seen config calls now burst some =
    let p = new_panel config in
    let w = written_so (after_calls calls p).last (max (after_calls calls p).bus.greatest now) burst some in
    in_time calls now w.until p seen refl w.within (along calls p w.until w.has)
