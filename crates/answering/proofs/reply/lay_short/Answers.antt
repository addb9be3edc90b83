-- `answering::reply::lay_short` meets its contract: the writer does not refuse a short acknowledgement.
use Rattle.write.proofs.Laying.{laying-short}
use Rattle.answering.proofs.reply.Writable.{counted}
use Rattle.answering.proofs.reply.lay_short.Goals as goal

pub returns : goal.returns
returns c =
    let e = c.write_short.ensures in
    rw c.unwrap_or.ensures (counted (laying-short c.args.out.now c.requires) _ e.value e.out_after)
