-- `answering::reply::lay_coded` meets its contract: the writer does not refuse a reply.
use Rattle.answering.proofs.reply.Writable.{laying-reply, counted}
use Rattle.answering.proofs.reply.lay_coded.Goals as goal

pub returns : goal.returns
returns c =
    let a = c.args in
    let p = c.requires in
    let w = laying-reply a.responder a.h a.code a.«data».now p.1.0 p.1.1.0 a.out.now p.0 p.1.1.1 in
    let e = c.write_frame.ensures in
    rw c.unwrap_or.ensures
    (counted w c.write_frame.result (rw (← c.reply_head.ensures) e.value) (rw (← c.reply_head.ensures) e.out_after))
