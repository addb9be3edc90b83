-- The reply that was laid is what is remembered, and a remembered one is laid again. Assumes nothing.
use Prim.Native.Nat.{ℕ, ◌≤◌}
use mathlib.Core.Bool.{Bool, true, false}
use mathlib.Core.Path.{◌≡◌, refl, ap, ◌∙◌}
use mathlib.Core.List.{List}
use native.Mathlib.Omega.{arith}
use lib.ListN.{length, take, drop}
use lib.Seq.{length-take-le}
use Rattle.choice.specs.Choice.{pick}
use Rattle.laid.specs.Laid.{laid, Lays}
use Rattle.laid.proofs.Laws.{lays-within}
use Rattle.laid.proofs.Octets.{laid-part}
use Rattle.frame.specs.declared.Address.{Address}
use Rattle.state.specs.declared.Kept.{Kept}
use Rattle.state.specs.Answering.{memory, remembered}

-- ---- a part from the start
pub part_length : {w : List ℕ} {n : ℕ} (x : List ℕ) → w ≡ take n (drop 0 x) → n ≤ length x → length w ≡ n
part_length x e h = ap length e ∙ length-take-le _ x h

pub lays-part : {l w m : List ℕ} {n r : ℕ} (x : List ℕ) → w ≡ take n (drop 0 x) → n ≤ length x → length x ≤ 255
    → Lays l 0 w (length w) r m → Lays l 0 (take n x) 255 r m
lays-part {n = n} x e h b y = lays-within 255 (omega (arith, length-take-le n x h)) (rw e at y)

-- ---- the memory
remembered-kept : (k : Kept) (l : List ℕ) (a : Address) (f v : Bool) (x : List ℕ)
    → pick (pick f true v) (record { source = a; bit = f; length = length x }) k ≡ (remembered (memory k l) a f v x).kept
unfolding pick remembered
remembered-kept k l a true v x = refl
remembered-kept k l a false true x = refl
remembered-kept k l a false false x = refl

remembered-octets : (k : Kept) (l : List ℕ) (a : Address) (f v : Bool) (x : List ℕ)
    → pick (pick f true v) (laid l 0 x) l ≡ (remembered (memory k l) a f v x).octets
unfolding pick remembered
remembered-octets k l a true v x = refl
remembered-octets k l a false true x = refl
remembered-octets k l a false false x = refl

module _ {o out out' : List ℕ} {n : ℕ} (y : Lays out 0 o 255 n out') (k : Kept) (l : List ℕ) (a : Address)
    (f v : Bool) where
  pub kept_new : {q : Kept} → q ≡ pick (pick f true v) (record { source = a; bit = f; length = n }) k
      → q ≡ (remembered (memory k l) a f v o).kept
  kept_new e =
      let i : n ≡ length o = omega (arith, y.place) in
      rw i at e ∙ remembered-kept k l a f v o

  pub octets-new : {l' : List ℕ} → l' ≡ pick (pick f true v) (laid l 0 (take n out')) l
      → l' ≡ (remembered (memory k l) a f v o).octets
  octets-new e =
      let i : n ≡ length o = omega (arith, y.place) in
      rw (i, y.left, laid-part out 0 o (omega arith)) at e ∙ remembered-octets k l a f v o
