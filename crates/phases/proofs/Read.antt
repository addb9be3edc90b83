-- What is known of a frame that was read: its data are at most 246 octets, and its addresses and access points are in
-- range. Assumes nothing.
use Prim.Native.Nat.{ℕ, ◌≤◌}
use mathlib.Core.Path.{◌≡◌}
use mathlib.Core.List.{List}
use native.Mathlib.Omega.{arith}
use lib.ListN.{length, drop, length-drop}
use Rattle.frame.specs.Reading.{Read}
use Rattle.frame.specs.declared.Fields.{Fields}
use Rattle.frame.specs.declared.Fields.TheVariants.{Frame}
use Rattle.frame.specs.declared.Head.{Head}
use Rattle.frame.specs.declared.Part.{Part}
use Rattle.frame.specs.Format.{unwritable}
use Rattle.frame.specs.Reading.{data_at, shown, read}
use Rattle.frame_laws.proofs.Accepted.{Accepted, token, short, in-SD1, in-SD2, in-SD3, accepted}
use Rattle.frame_laws.proofs.Body.{writable}
use Rattle.frame_laws.proofs.Theorems.{read-writable}
use Rattle.state.specs.Answering.{Readable}

data-behind : (b : List ℕ) → length b ≤ 249 → length (drop (data_at b) b) ≤ 246
unfolding data_at
data-behind b h = omega (arith, length-drop (data_at b) b)

most : {s : List ℕ} {f : Fields} {x : List ℕ} → Accepted s f x → length x ≤ 246
most (token d a hd ha) = omega arith
most short = omega arith
most (in-SD1 b w h) = data-behind b w.most
most (in-SD2 b w h) = data-behind b w.most
most (in-SD3 b w h) = data-behind b w.most

pub data-most : (s : List ℕ) (f : Fields) (p : Part) → read s ≡ Read f p → length (shown s p) ≤ 246
data-most s f p e = most (accepted s f p e)

pub readable : (s : List ℕ) (h : Head) (p : Part) → read s ≡ Read (Frame h) p → Readable h
unfolding unwritable
readable s h p e =
    let w = writable h _ (read-writable s (Frame h) p e) in
    record { source = omega (arith, w.source); to = w.to; from = w.from }
