-- Each rule is broken, left open and kept by the line that is made for it.
use Rattle.osdp_panel_rules_laws.proofs.Common.{[], ◌∷◌, Some, refl, Packet, Aspect, Line, came, device, said, WasSaidTo}
use Rattle.osdp_msg.specs.ReplyTable.{reply_at, reply_fault, reply_of}
use Rattle.osdp_panel_rules.specs.declared.aspect.Aspect.TheVariants as rule
use Rattle.osdp_rules.specs.declared.verdict.Verdict.TheVariants as verdict
use Rattle.osdp_panel_rules_laws.proofs.Telling.{told_of}
use Rattle.osdp_panel_rules_laws.specs.Instances.{CanBeBroken, CanBeKept, CanBeOpen, OpensWell, broken_by, kept_by, known, left_open_by, ninth, opening, poll, tells}

pub can_be_broken : (aspect : Aspect) → CanBeBroken aspect
unfolding reply_at reply_fault reply_of
can_be_broken rule.Reserved = tt
can_be_broken rule.Plain = tt
can_be_broken rule.Answer = tt
can_be_broken rule.Damage = tt
can_be_broken rule.Asks = told_of (ninth rule.Asks) (λ e. cc) (broken_by rule.Asks) verdict.Broken refl
can_be_broken rule.Turn = told_of (ninth rule.Turn) (λ e. cc) (broken_by rule.Turn) verdict.Broken refl
can_be_broken rule.Copy = told_of (ninth rule.Copy) (λ e. cc) (broken_by rule.Copy) verdict.Broken refl
can_be_broken rule.Silence = told_of (ninth rule.Silence) (λ e. cc) (broken_by rule.Silence) verdict.Broken refl
can_be_broken rule.Order = told_of (ninth rule.Order) (λ e. cc) (broken_by rule.Order) verdict.Broken refl
can_be_broken rule.Noise = told_of (ninth rule.Noise) (λ e. cc) (broken_by rule.Noise) verdict.Broken refl
can_be_broken rule.Astray = told_of (ninth rule.Astray) (λ e. cc) (broken_by rule.Astray) verdict.Broken refl
can_be_broken rule.Busy = told_of (ninth rule.Busy) (λ e. cc) (broken_by rule.Busy) verdict.Broken refl
can_be_broken rule.Refusal = told_of (ninth rule.Refusal) (λ e. cc) (broken_by rule.Refusal) verdict.Broken refl
can_be_broken rule.Lapse = told_of (ninth rule.Lapse) (λ e. cc) (broken_by rule.Lapse) verdict.Broken refl
can_be_broken rule.Wait = told_of (ninth rule.Wait) (λ e. cc) (broken_by rule.Wait) verdict.Broken refl
can_be_broken rule.Online = told_of (ninth rule.Online) (λ e. cc) (broken_by rule.Online) verdict.Broken refl

pub can_be_open : (aspect : Aspect) → CanBeOpen aspect
unfolding reply_at reply_fault reply_of
can_be_open rule.Asks = tt
can_be_open rule.Turn = tt
can_be_open rule.Copy = tt
can_be_open rule.Refusal = tt
can_be_open rule.Lapse = tt
can_be_open rule.Reserved = told_of (ninth rule.Reserved) (λ e. cc) (left_open_by rule.Reserved) verdict.Either refl
can_be_open rule.Plain = told_of (ninth rule.Plain) (λ e. cc) (left_open_by rule.Plain) verdict.Either refl
can_be_open rule.Answer = told_of (ninth rule.Answer) (λ e. cc) (left_open_by rule.Answer) verdict.Either refl
can_be_open rule.Silence = told_of (ninth rule.Silence) (λ e. cc) (left_open_by rule.Silence) verdict.Either refl
can_be_open rule.Order = told_of (ninth rule.Order) (λ e. cc) (left_open_by rule.Order) verdict.Either refl
can_be_open rule.Noise = told_of (ninth rule.Noise) (λ e. cc) (left_open_by rule.Noise) verdict.Either refl
can_be_open rule.Astray = told_of (ninth rule.Astray) (λ e. cc) (left_open_by rule.Astray) verdict.Either refl
can_be_open rule.Busy = told_of (ninth rule.Busy) (λ e. cc) (left_open_by rule.Busy) verdict.Either refl
can_be_open rule.Damage = told_of (ninth rule.Damage) (λ e. cc) (left_open_by rule.Damage) verdict.Either refl
can_be_open rule.Wait = told_of (ninth rule.Wait) (λ e. cc) (left_open_by rule.Wait) verdict.Either refl
can_be_open rule.Online = told_of (ninth rule.Online) (λ e. cc) (left_open_by rule.Online) verdict.Either refl

pub can_be_kept : (aspect : Aspect) → CanBeKept aspect
unfolding reply_at reply_fault reply_of
can_be_kept rule.Asks = told_of (ninth rule.Asks) (λ e. cc) (kept_by rule.Asks) verdict.Ok refl
can_be_kept rule.Reserved = told_of (ninth rule.Reserved) (λ e. cc) (kept_by rule.Reserved) verdict.Ok refl
can_be_kept rule.Plain = told_of (ninth rule.Plain) (λ e. cc) (kept_by rule.Plain) verdict.Ok refl
can_be_kept rule.Turn = told_of (ninth rule.Turn) (λ e. cc) (kept_by rule.Turn) verdict.Ok refl
can_be_kept rule.Copy = told_of (ninth rule.Copy) (λ e. cc) (kept_by rule.Copy) verdict.Ok refl
can_be_kept rule.Answer = told_of (ninth rule.Answer) (λ e. cc) (kept_by rule.Answer) verdict.Ok refl
can_be_kept rule.Silence = told_of (ninth rule.Silence) (λ e. cc) (kept_by rule.Silence) verdict.Ok refl
can_be_kept rule.Order = told_of (ninth rule.Order) (λ e. cc) (kept_by rule.Order) verdict.Ok refl
can_be_kept rule.Noise = told_of (ninth rule.Noise) (λ e. cc) (kept_by rule.Noise) verdict.Ok refl
can_be_kept rule.Astray = told_of (ninth rule.Astray) (λ e. cc) (kept_by rule.Astray) verdict.Ok refl
can_be_kept rule.Busy = told_of (ninth rule.Busy) (λ e. cc) (kept_by rule.Busy) verdict.Ok refl
can_be_kept rule.Damage = told_of (ninth rule.Damage) (λ e. cc) (kept_by rule.Damage) verdict.Ok refl
can_be_kept rule.Refusal = told_of (ninth rule.Refusal) (λ e. cc) (kept_by rule.Refusal) verdict.Ok refl
can_be_kept rule.Lapse = told_of (ninth rule.Lapse) (λ e. cc) (kept_by rule.Lapse) verdict.Ok refl
can_be_kept rule.Wait = told_of (ninth rule.Wait) (λ e. cc) (kept_by rule.Wait) verdict.Ok refl
can_be_kept rule.Online = told_of (ninth rule.Online) (λ e. cc) (kept_by rule.Online) verdict.Ok refl

-- ---- our own panel

-- what is known after the opening, and after the first POLL that came
abbrev opened : Line
opened = came 9 100 (Some opening) ∷ device 5 ∷ []

to_opening : WasSaidTo 5 (said (Some known) ∷ opened) opening known
to_opening = record {
  later = [];
  between = [];
  number = 9;
  at = 100;
  before = device 5 ∷ [];
  whole = refl;
  to = record { asks = refl; there = refl };
  after = tt;
  until = tt;
}

to_poll : WasSaidTo 5 (said (Some (tells 1 (0x40 ∷ []))) ∷ came 9 360 (Some (poll 1)) ∷ said (Some known) ∷ opened) (poll 1) (tells 1 (0x40 ∷ []))
to_poll = record {
  later = [];
  between = [];
  number = 9;
  at = 360;
  before = said (Some known) ∷ opened;
  whole = refl;
  to = record { asks = refl; there = refl };
  after = tt;
  until = tt;
}

pub opens_well : OpensWell
unfolding reply_at reply_fault reply_of
opens_well = (
  (tt, (tt, (tt, ((λ _ _. (opening, refl, to_opening)), (tt, (tt, (tt, ((λ _ _. (poll 1, refl, to_poll)), (tt, tt))))))))),
  refl,
)
