-- Words plan one line at most.
use Rattle.osdp_tool_plan.proofs.Common.{◌≡◌, ◌∙◌, ℕ, List, ◌++◌, Option, Some, None, refl, sym, ap, arith, TooShort, Plan, IsLongEnough, Judges, some_same, after, Prints, PlansOnce, ArePlan, defaults, put, plan_text, Planned, PlanSetting}
use Rattle.osdp_plan.specs.declared.judging.TooShort.TheVariants.{PacketPasses, AnswerComes, LineIsQuiet}
use Rattle.osdp_tool_plan.proofs.OneSetting.{given_once}
use Rattle.osdp_tool_plan.proofs.Ranges.{planned_in_range}

abbrev plan_in : Planned → Plan
plan_in planned = planned.plan

pub one_plan : (given : List (List ℕ)) (a b : Plan) → ArePlan given a → ArePlan given b → a ≡ b
one_plan given a b (settings, give, is) (others, gave, are) =
    let alike : settings ≡ others = given_once given settings others give gave in
    ap plan_in (some_same (record { plan = a }) (record { plan = b }) (sym is ∙ ap (λ (l : List PlanSetting). after put l defaults) alike ∙ are))

one_text : (given : List (List ℕ)) (start one other : List ℕ) → Prints given (Some start) (Some one) → Prints given (Some start) (Some other) → one ≡ other
one_text given start one other h g =
    h.text ∙ ap (λ (p : Plan). start ++ plan_text p) (one_plan given h.plan g.plan h.planned.are g.planned.are) ∙ sym g.text

pub none_short : (p : Plan) (short : Option TooShort) → IsLongEnough p → Judges p short → short ≡ None
none_short p None h judges = refl
none_short p (Some (PacketPasses time)) h judges = absurd (omega (arith, h.packet, judges.0))
none_short p (Some (AnswerComes time)) h judges = absurd (omega (arith, h.answer, judges.1))
none_short p (Some (LineIsQuiet time)) h judges = absurd (omega (arith, h.quiet, judges.1))

pub plans_once : PlansOnce
plans_once given = record {
  line = λ a b h g. one_plan given a b h.are g.are;
  range = planned_in_range given;
  judged = λ p short h judges. none_short p short h.long_enough judges;
  text = one_text given;
}
