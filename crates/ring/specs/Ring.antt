-- Document 01, "Pass": the set of masters, and the search for the next and the previous one. The set is a list of 127
-- numbers, one for each address: 1 for a master. Assumes nothing.
use Rattle.std.specs.Prelude.{ℕ, zero, suc, ◌+◌, ◌-◌, Bool, List, get_or, set}
use Rattle.choice.specs.Choice.{pick, less, same}

-- an address is in the set
unfoldable pub member : List ℕ → ℕ → Bool
member l a = same (get_or l a 0) 1

-- the address some steps on, past 126 to 0: one step upward is 1, one downward 126
unfoldable pub on : ℕ → ℕ → ℕ
on step a = pick (less (a + step) 127) (a + step) (a + step - 127)

-- "found one address after another": the first of the untried addresses that is in the set, or where the search ends
unfoldable pub seek : List ℕ → ℕ → ℕ → ℕ → ℕ
seek l step zero a = a
seek l step (suc untried) a = pick (member l (on step a)) (on step a) (seek l step untried (on step a))

-- NS, "from TS upward, past 126 to 0", and PS, "found downward likewise"
unfoldable pub next_of : List ℕ → ℕ → ℕ
next_of l ts = seek l 1 127 ts

unfoldable pub previous_of : List ℕ → ℕ → ℕ
previous_of l ts = seek l 126 127 ts

-- a station enters the set, or leaves it
unfoldable pub enter : List ℕ → ℕ → List ℕ
enter l a = set l a 1

unfoldable pub remove : List ℕ → ℕ → List ℕ
remove l a = set l a 0
