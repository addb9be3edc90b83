-- The digits that are still allowed grow fewer.
use Rattle.printed.proofs.numeral.+put_in.Given as goal

abbrev pub decreases-put_in : goal.decreases-put_in
decreases-put_in l = l.most
