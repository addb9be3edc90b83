-- `serve::exchange::lay_token` meets its contract: the writer does not refuse a token between stations.
use Rattle.write.proofs.Laying.{laying-token}
use Rattle.serve.proofs.exchange.Writable.{lays-counted}
use Rattle.serve.proofs.exchange.lay_token.Goals as goal

pub returns : goal.returns
returns c =
    let w = laying-token c.args.ns c.args.ts c.args.out.now c.requires.0 c.requires.1.0 c.requires.1.1 in
    rw c.unwrap_or.ensures (lays-counted w _ c.write_token.ensures.value c.write_token.ensures.out_after)
