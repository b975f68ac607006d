-- The lists that break the rules, worked out.
use Rattle.osdp_rules_laws.proofs.Common.{refl}
use Rattle.osdp_msg.specs.CommandTable.{command_at, command_fault, command_of}
use Rattle.osdp_msg.specs.ReplyTable.{reply_at, reply_fault, reply_of}
use Rattle.osdp_rules.specs.declared.aspect.Aspect.TheVariants as rule
use Rattle.osdp_rules_laws.specs.Instances.{EachCanBeBroken}

pub each_can_be_broken : EachCanBeBroken
unfolding command_at command_fault command_of reply_at reply_fault reply_of
each_can_be_broken rule.Address = refl
each_can_be_broken rule.Check = refl
each_can_be_broken rule.Number = refl
each_can_be_broken rule.Plain = refl
each_can_be_broken rule.Turn = refl
each_can_be_broken rule.Fit = refl
each_can_be_broken rule.Served = refl
each_can_be_broken rule.Code = refl
each_can_be_broken rule.Length = refl
each_can_be_broken rule.Read = refl
each_can_be_broken rule.Busy = refl
each_can_be_broken rule.Repeat = refl
each_can_be_broken rule.Wrong = refl
each_can_be_broken rule.Quiet = refl
each_can_be_broken rule.Deaf = refl
each_can_be_broken rule.Single = refl
each_can_be_broken rule.Prompt = refl
each_can_be_broken rule.Listed = refl
each_can_be_broken rule.Beyond = refl
each_can_be_broken rule.Block = tt
