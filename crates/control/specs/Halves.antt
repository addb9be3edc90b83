-- Which FC octets are listed, by the octet's halves: the tests that the code makes. That they are the definition
-- `listed` is computed (proofs/Halves.antt). Assumes nothing.
use Rattle.std.specs.Prelude.{ℕ, ◌%◌, Bool, true, false}
use Rattle.choice.specs.Choice.{pick, less, same}

-- a reply code's number
unfoldable pub replied : ℕ → Bool
replied x =
    pick (same x 0) true
    (pick (same x 1) true
    (pick (same x 2) true
    (pick (same x 3) true
    (pick (same x 8) true
    (pick (same x 9) true
    (pick (same x 10) true
    (pick (same x 12) true
    (pick (same x 13) true false))))))))

-- a service's number
unfoldable pub requested : ℕ → Bool
requested x =
    pick (same x 3) true
    (pick (same x 4) true
    (pick (same x 5) true
    (pick (same x 6) true
    (pick (same x 9) true
    (pick (same x 12) true
    (pick (same x 13) true
    (pick (same x 14) true
    (pick (same x 15) true false))))))))

-- a counted service's number
unfoldable pub numbered : ℕ → Bool
numbered x =
    pick (same x 3) true
    (pick (same x 5) true
    (pick (same x 12) true
    (pick (same x 13) true false)))

unfoldable pub by_halves : ℕ → Bool
by_halves n =
    pick (less n 80) (pick (less n 64) (replied (n % 16)) (requested (n % 16)))
    (pick (less n 128) (numbered (n % 16)) false)
