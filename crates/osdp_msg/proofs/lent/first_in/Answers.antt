use Rattle.std.proofs.Common.{arith}
use Rattle.osdp_msg.proofs.RecordLists.{records_next, records_none}
use Rattle.osdp_msg.proofs.lent.first_in.Goals as goal

pub returns-then-bytes-SIZE : goal.returns-then-bytes-SIZE
returns-then-bytes-SIZE g c =
    records_none g.R.Record.read_at g.R.Record.SIZE c.args.bytes.now g.met.R.Record.some (omega (arith, c.SIZE.ensures, c.if-bytes-SIZE.true))

pub returns : goal.returns
returns g c =
    rw (c.rest.ensures, c.read.ensures, c.SIZE-2.ensures) (records_next g.R.Record.read_at g.R.Record.SIZE c.args.bytes.now g.met.R.Record.some (omega (arith, c.SIZE.ensures, c.if-bytes-SIZE.false)))
