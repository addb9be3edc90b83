-- The replay script, "As the requests of document 02 land": "What a request adds stands behind today's words as pairs of
-- words, a name and its value, in the order given here". The pairs of each line in their order, the first behind the
-- line's words and each behind the one before it, and where the line ends: behind its last pair. Assumes nothing.
use Rattle.std.specs.Prelude.{ℕ, Bool, false, List, [], ◌∷◌, is_some}
use Rattle.choice.specs.Choice.{pick, same, said}
use Rattle.times.specs.Times.{standard}
use Rattle.typed.specs.declared.places.Pair.{Pair}
use Rattle.typed.specs.Words.{words}
use Rattle.typed.specs.Places.{LONG, SHORT, pair}
use Rattle.typed_call.specs.Table as Table

-- ---- "The pairs of `start` in order: `tsdi`"
-- "tsdi"
abbrev pub w-tsdi : List ℕ
w-tsdi = 0x74 ∷ (0x73 ∷ (0x64 ∷ (0x69 ∷ [])))

-- "`tsdi N` (0..4294967295, as other settings)"
unfoldable pub tsdi_of : List ℕ → Pair
tsdi_of l = pair l Table.STARTWORDS w-tsdi LONG standard.tsdi.0

-- the pairs of a start fit their places, and the line ends behind the last
unfoldable pub start_pairs : List ℕ → Bool
start_pairs l = pick (said (is_some (tsdi_of l).number)) (same (words l) (tsdi_of l).behind) false

-- ---- "of `submit`: `ref`, `limit`"
-- "ref"
abbrev pub w-ref : List ℕ
w-ref = 0x72 ∷ (0x65 ∷ (0x66 ∷ []))

-- "limit"
abbrev pub w-limit : List ℕ
w-limit = 0x6C ∷ (0x69 ∷ (0x6D ∷ (0x69 ∷ (0x74 ∷ []))))

-- "`ref N` (0..4294967295, standard 0), then `limit N` (0..255)"
unfoldable pub ref_of : List ℕ → Pair
ref_of l = pair l Table.SUBMITWORDS w-ref LONG 0

unfoldable pub limit_of : List ℕ → Pair
limit_of l = pair l (ref_of l).behind w-limit SHORT 0

-- "without `limit` the record asks for the station's": nothing is between the two
unfoldable pub asks_of : List ℕ → Bool
asks_of l = same (limit_of l).behind (ref_of l).behind

-- the pairs of a submit fit their places, and the line ends behind the last
unfoldable pub submit_pairs : List ℕ → Bool
submit_pairs l =
    pick (said (is_some (ref_of l).number))
    (pick (said (is_some (limit_of l).number)) (same (words l) (limit_of l).behind) false) false
