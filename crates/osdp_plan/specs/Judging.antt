-- Which setting of a plan is too short for its line.
use Rattle.std.specs.Prelude.{◌≡◌, ◌≤◌, ◌<◌, Option, Some, None}
use Rattle.osdp_plan.specs.declared.judging.TooShort.{TooShort}
use Rattle.osdp_plan.specs.declared.judging.TooShort.TheVariants.{PacketPasses, AnswerComes, LineIsQuiet}
use Rattle.osdp_plan.specs.declared.plan.Plan.{Plan}
use Rattle.osdp_plan.specs.Figures.{answered_time, wire_time}
use Rattle.osdp_plan.specs.Plans.{IsPlan}

-- an answer is waited for longer than it takes, and a session opens only after an old packet and its answer have come
pub record IsLongEnough (p : Plan) : Type 0 where
  pub packet : wire_time p.rate p.longest ≤ p.reply_wait
  pub answer : answered_time p < p.reply_wait
  pub quiet : answered_time p < p.quiet_wait

-- nothing is told exactly of such plans; else the first that is too short, with what it has to last
abbrev pub Judges : Plan → Option TooShort → Type 0
Judges p None = IsLongEnough p
Judges p (Some (PacketPasses time)) = (p.reply_wait < wire_time p.rate p.longest) × (time ≡ wire_time p.rate p.longest)
Judges p (Some (AnswerComes time)) =
    (wire_time p.rate p.longest ≤ p.reply_wait) × (p.reply_wait ≤ answered_time p) × (time ≡ answered_time p)
Judges p (Some (LineIsQuiet time)) = (answered_time p < p.reply_wait) × (p.quiet_wait ≤ answered_time p) × (time ≡ answered_time p)

-- a plan is judged in one way
abbrev pub HasOneJudgement : Type 0
HasOneJudgement = (p : Plan) (one other : Option TooShort) → IsPlan p → Judges p one → Judges p other → one ≡ other
