-- The greatest moment seen, and the moment at which an ended run is heard.
use Rattle.osdp_bus_laws.proofs.Common.{◌≡◌, ◌∙◌, ap, sym, ℕ, max, List, [], ◌∷◌, Option, Some, None, refl, BusFault, BusState, seen, after_bytes, after_begin_at, begin_refusal_at, changed_unless, bus_ticks, Call, Begin, OnBytes, OnSilence, Tick, after_call}
use Rattle.osdp_bus_laws.specs.Moments.{Brings, MomentsAreSeen, RunsAreHeardAtTheirEnd}
use Rattle.osdp_bus_laws.proofs.Silences.{bus_ends_its_runs}
use Rattle.osdp_bus_laws.proofs.Sound.{SoundBus}
use Rattle.osdp_bus_laws.proofs.Staying.{stays_begin, stays_call, stays_silent, stays_tick}

seen_by_tick : (now : ℕ) (b : BusState) → (bus_ticks now b).bus.greatest ≡ max b.greatest now
seen_by_tick now b = (stays_tick now b).greatest

-- ---- each call

seen_by_bytes : (bytes : List ℕ) (now : ℕ) (b : BusState) → (after_bytes bytes now b).greatest ≡ max b.greatest now
seen_by_bytes [] now b = refl
seen_by_bytes (byte ∷ bytes) now b = (stays_silent (seen now b)).greatest

brought : (b : BusState) (call : Call) (now : ℕ) → Brings call now b → (after_call call b).greatest ≡ max b.greatest now
brought b (Begin entry at) now is =
    ap (λ f. (changed_unless f b (after_begin_at entry at b)).greatest) is.0
    ∙ (stays_begin entry at b).greatest
    ∙ ap (max b.greatest) (sym is.1)
brought b (OnBytes bytes at) now is = seen_by_bytes bytes at b ∙ ap (max b.greatest) (sym is)
brought b (OnSilence at) now is = ap (max b.greatest) (sym is)
brought b (Tick at) now is = seen_by_tick at b ∙ ap (max b.greatest) (sym is)
brought b _ now is = absurd is

abbrev BringsNone : Call → BusState → Type 0
BringsNone call b = (now : ℕ) → Brings call now b → ⊥

not_begun : (entry at : ℕ) (b : BusState) (f : Option BusFault) → begin_refusal_at entry b ≡ f → BringsNone (Begin entry at) b
    → (changed_unless f b (after_begin_at entry at b)).greatest ≡ b.greatest
not_begun entry at b None is none = absurd (none at (is, refl))
not_begun entry at b (Some fault) is none = refl

kept : (b : BusState) (call : Call) → BringsNone call b → (after_call call b).greatest ≡ b.greatest
kept b (Begin entry at) none = not_begun entry at b (begin_refusal_at entry b) refl none
kept b (OnBytes bytes at) none = absurd (none at refl)
kept b (OnSilence at) none = absurd (none at refl)
kept b (Tick at) none = absurd (none at refl)
kept b call none = (stays_call call b tt).greatest

pub moments_are_seen : (b : BusState) → MomentsAreSeen b
moments_are_seen b = record { brought = brought b; kept = kept b }

pub runs_are_heard : (b : BusState) → SoundBus b → RunsAreHeardAtTheirEnd b
runs_are_heard b is = record {
  silence = λ now. refl;
  bytes = λ byte now bytes long. ap (λ (c : BusState). c.devices) (((bus_ends_its_runs b is).bytes byte now bytes).past long);
}
