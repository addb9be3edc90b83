-- The walk over the numbers of a line, one word on or at an end. Assumes nothing.
use Rattle.std.proofs.Common.{◌≡◌, ℕ, suc, ◌+◌, ◌-◌, ◌<◌, ◌≤◌, true, false, None, is_some, List, refl, arith}
use Rattle.choice.specs.Choice.{pick, said}
use Rattle.typed.specs.Words.{word, equal}
use Rattle.typed.specs.Digits.{decimal}
use Rattle.typed.specs.Places.{numbers, w-sda, w-sdn, w-srd, w-status, w-ident, w-lsap, unserved, service}

pub numbers_more : (l : List ℕ) (i e most : ℕ) → i < e
    → numbers l i (e - i) most
    ≡ pick (is_some (decimal (word l i) most)) (numbers l (i + 1) (e - (i + 1)) most) false
unfolding numbers said
numbers_more l i e most h = rw less
  where
    less : e - i ≡ suc (e - (i + 1))
    less = omega arith

pub numbers_none : (l : List ℕ) (i e most : ℕ) → e ≤ i → numbers l i (e - i) most ≡ true
unfolding numbers
numbers_none l i e most h = rw less
  where
    less : e - i ≡ 0
    less = omega arith

-- a word that is none of the services
pub unserved_none : (w : List ℕ) → equal w w-sda ≡ false → equal w w-sdn ≡ false → equal w w-srd ≡ false
    → equal w w-status ≡ false → equal w w-ident ≡ false → equal w w-lsap ≡ false → None ≡ service w
unfolding service unserved pick said
unserved_none w a b c d e f = rw (a, b, c, d, e, f) refl
