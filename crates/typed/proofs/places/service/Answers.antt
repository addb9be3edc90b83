-- `typed::places::service` meets its contract: a word of another length, or with another octet, is none of the six.
use Rattle.std.proofs.Common.{arith}
use Rattle.typed.proofs.words.Walk.{equal_reads}
use Rattle.typed.proofs.places.Many.{unserved_none}
use Rattle.typed.proofs.places.service.Goals as goal

ruleset reads = (arith, equal_reads)

pub returns-in_default : goal.returns-in_default
returns-in_default c =
    unserved_none c.args.w.now (grind reads) (grind reads) (grind reads) (grind reads) (grind reads) (grind reads)

pub returns-in_default-4 : goal.returns-in_default-4
returns-in_default-4 c =
    unserved_none c.args.w.now (grind reads) (grind reads) (grind reads) (grind reads) (grind reads) (grind reads)

pub returns-in_default-5 : goal.returns-in_default-5
returns-in_default-5 c =
    unserved_none c.args.w.now (grind reads) (grind reads) (grind reads) (grind reads) (grind reads) (grind reads)

pub returns-in_default-8 : goal.returns-in_default-8
returns-in_default-8 c =
    unserved_none c.args.w.now (grind reads) (grind reads) (grind reads) (grind reads) (grind reads) (grind reads)

pub returns-in_default-9 : goal.returns-in_default-9
returns-in_default-9 c =
    unserved_none c.args.w.now (grind reads) (grind reads) (grind reads) (grind reads) (grind reads) (grind reads)

pub returns-in_default-12 : goal.returns-in_default-12
returns-in_default-12 c =
    unserved_none c.args.w.now (grind reads) (grind reads) (grind reads) (grind reads) (grind reads) (grind reads)

pub returns-in_default-14 : goal.returns-in_default-14
returns-in_default-14 c =
    unserved_none c.args.w.now (grind reads) (grind reads) (grind reads) (grind reads) (grind reads) (grind reads)

pub returns-in_default-19 : goal.returns-in_default-19
returns-in_default-19 c =
    unserved_none c.args.w.now (grind reads) (grind reads) (grind reads) (grind reads) (grind reads) (grind reads)

pub returns-in_default-20 : goal.returns-in_default-20
returns-in_default-20 c =
    unserved_none c.args.w.now (grind reads) (grind reads) (grind reads) (grind reads) (grind reads) (grind reads)

pub returns-in_default-21 : goal.returns-in_default-21
returns-in_default-21 c =
    unserved_none c.args.w.now (grind reads) (grind reads) (grind reads) (grind reads) (grind reads) (grind reads)
