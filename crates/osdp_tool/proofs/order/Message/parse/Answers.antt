use Rattle.osdp_words.specs.Word.{texts}
use Rattle.osdp_tool.proofs.Orders.{read_command}
use Rattle.osdp_tool.proofs.order.Message.parse.Goals as goal

pub returns-in-Ok : goal.returns-in-Ok
returns-in-Ok c =
    read_command c.in-Ok.command (texts c.args.words.now) c.in-Ok.ensures.value (λ m fits stand. let e = c.in-Ok.ensures.only m fits stand in cc)
