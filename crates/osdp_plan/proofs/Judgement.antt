-- A plan is judged in one way.
use Rattle.std.proofs.Common.{◌≡◌, ◌∙◌, ap, sym, refl, ℕ, ◌+◌, ◌-◌, ◌*◌, ◌<◌, ◌≤◌, arith}
use Rattle.std.specs.Prelude.{Option, Some, None}
use Rattle.std.proofs.Math.Nat.{div-mul-le_self}
use Rattle.std.proofs.lemmas.Nat.{le-div}
use Rattle.osdp_plan.specs.declared.judging.TooShort.{TooShort}
use Rattle.osdp_plan.specs.declared.judging.TooShort.TheVariants.{PacketPasses, AnswerComes, LineIsQuiet}
use Rattle.osdp_plan.specs.declared.plan.Plan.{Plan}
use Rattle.osdp_plan.specs.Figures.{answered_time, wire_time}
use Rattle.osdp_plan.specs.Judging.{HasOneJudgement, Judges}
use Rattle.osdp_plan.specs.Plans.{IsPlan}

le_trans : (a b c : ℕ) → a ≤ b → b ≤ c → a ≤ c
le_trans a b c h g = omega arith

-- more bytes take no less time
wire_twice : (rate bytes : ℕ) → 0 < rate → wire_time rate bytes ≤ wire_time rate (bytes * 2)
wire_twice rate bytes h =
    le-div (wire_time rate bytes) (bytes * 2 * 10000 + (rate - 1)) rate h
    (le_trans (wire_time rate bytes * rate) (bytes * 10000 + (rate - 1)) (bytes * 2 * 10000 + (rate - 1)) (div-mul-le_self (bytes * 10000 + (rate - 1)) rate) (omega arith))

-- a packet and its answer take no less time than a packet
packet_first : (p : Plan) → IsPlan p → wire_time p.rate p.longest ≤ answered_time p
packet_first p h = let w = wire_twice p.rate p.longest (omega (arith, h.rate.0)) in omega (arith, w)

judged_once : (p : Plan) (one other : Option TooShort) → wire_time p.rate p.longest ≤ answered_time p → Judges p one → Judges p other → one ≡ other
judged_once p None None w h g = refl
judged_once p None (Some (PacketPasses t)) w h g = absurd (omega (arith, h.packet, g.0))
judged_once p None (Some (AnswerComes t)) w h g = absurd (omega (arith, h.answer, g.1))
judged_once p None (Some (LineIsQuiet t)) w h g = absurd (omega (arith, h.quiet, g.1))
judged_once p (Some (PacketPasses t)) None w h g = absurd (omega (arith, g.packet, h.0))
judged_once p (Some (AnswerComes t)) None w h g = absurd (omega (arith, g.answer, h.1))
judged_once p (Some (LineIsQuiet t)) None w h g = absurd (omega (arith, g.quiet, h.1))
judged_once p (Some (PacketPasses t)) (Some (PacketPasses u)) w h g = ap (λ (n : ℕ). Some (PacketPasses n)) (h.1 ∙ sym g.1)
judged_once p (Some (AnswerComes t)) (Some (AnswerComes u)) w h g = ap (λ (n : ℕ). Some (AnswerComes n)) (h.2 ∙ sym g.2)
judged_once p (Some (LineIsQuiet t)) (Some (LineIsQuiet u)) w h g = ap (λ (n : ℕ). Some (LineIsQuiet n)) (h.2 ∙ sym g.2)
judged_once p (Some (PacketPasses t)) (Some (AnswerComes u)) w h g = absurd (omega (arith, h.0, g.0))
judged_once p (Some (PacketPasses t)) (Some (LineIsQuiet u)) w h g = absurd (omega (arith, w, h.0, g.0))
judged_once p (Some (AnswerComes t)) (Some (PacketPasses u)) w h g = absurd (omega (arith, h.0, g.0))
judged_once p (Some (AnswerComes t)) (Some (LineIsQuiet u)) w h g = absurd (omega (arith, h.1, g.0))
judged_once p (Some (LineIsQuiet t)) (Some (PacketPasses u)) w h g = absurd (omega (arith, w, h.0, g.0))
judged_once p (Some (LineIsQuiet t)) (Some (AnswerComes u)) w h g = absurd (omega (arith, h.0, g.1))

pub one_judgement : HasOneJudgement
one_judgement p one other range h g = judged_once p one other (packet_first p range) h g
