-- A line has one answer: the contract of `desk::answer` leaves nothing open of what is answered, nor of any octet
-- that was lent. Assumes nothing.
use Prim.Native.Nat.{ℕ, ◌*◌, ◌≤◌}
use mathlib.Core.Bool.{true≢false}
use mathlib.Core.List.{List}
use mathlib.Core.Path.{◌≡◌, refl, sym, ap, ◌∙◌}
use native.Mathlib.Omega.{arith}
use lib.ListN.{length, take, length-append, length-drop}
use lib.Seq.{length-take-le}
use Rattle.std.specs.Prelude.{Option, None, Some}
use Rattle.laid.specs.Laid.{laid}
use Rattle.laid.proofs.Laws.{laid-start}
use Rattle.request.specs.Record.{SIZE}
use Rattle.state.specs.declared.State.{State}
use Rattle.desk.specs.declared.Held.{Held}
use Rattle.desk.specs.declared.Said.{Said}
use Rattle.desk.specs.Desk.{Desk, Answered, Arrays, Answers, begun_of, state_of, desk_of}

-- ---- a row in its array says how many places are in use
longer : (l u : List ℕ) → length l ≤ length (laid l 0 u)
longer l u = rw (laid-start l u) (simp (length-append, length-drop) (omega arith))

places : (n : ℕ) (l m u : List ℕ) → m ≡ laid l 0 u → n ≤ length l → take n m ≡ u → n ≡ length u
places n l m u e h f = sym (length-take-le n m (rw e (omega (arith, longer l u)))) ∙ ap length f

-- ---- what is held, by its fields
same-state : (s t : Option State) → begun_of s ≡ begun_of t → state_of s ≡ state_of t → s ≡ t
unfolding begun_of state_of
same-state None None b e = refl
same-state None (Some t) b e = absurd (true≢false (sym b))
same-state (Some s) None b e = absurd (true≢false b)
same-state (Some s) (Some t) b e = ap (λ (u : State). Some u) e

same-held : {h i l m : ℕ} {s t : Option State} → h ≡ i → l ≡ m → s ≡ t
    → ◌≡◌ {A = Held} (record { high = h; low = l; state = s }) (record { high = i; low = m; state = t })
same-held e f g = rw (e, f, g)

same-said : {h i : Held} {n m : ℕ} → h ≡ i → n ≡ m
    → ◌≡◌ {A = Said} (record { held = h; length = n }) (record { held = i; length = m })
same-said e f = rw (e, f)

module _ (a : Answered) (high harea low larea text : List ℕ) (w : Arrays high harea low larea text) where
  upper-places : {r : Said} {h ha l la t : List ℕ} → Answers a high harea low larea text r h ha l la t
      → SIZE * r.held.high ≡ length a.desk.high.row
  unfolding desk_of
  upper-places {r} {h} x =
      places (SIZE * r.held.high) high h _ x.upper (omega (arith, w.high, x.few.high))
      (ap (λ (d : Desk). d.high.row) x.desk)

  lower-places : {r : Said} {h ha l la t : List ℕ} → Answers a high harea low larea text r h ha l la t
      → SIZE * r.held.low ≡ length a.desk.low.row
  unfolding desk_of
  lower-places {r} {l = l} x =
      places (SIZE * r.held.low) low l _ x.lower (omega (arith, w.low, x.few.low))
      (ap (λ (d : Desk). d.low.row) x.desk)

  -- two answers to a line, with the arrays that they leave, that keep to the contract are the same
  pub one_answer : {r s : Said} {h ha l la t i ia m ma u : List ℕ}
      → Answers a high harea low larea text r h ha l la t → Answers a high harea low larea text s i ia m ma u
      → (r ≡ s) × (h ≡ i) × (ha ≡ ia) × (l ≡ m) × (la ≡ ma) × (t ≡ u)
  unfolding desk_of
  one_answer x y =
      let d = x.desk ∙ sym y.desk in (
        same-said
            (same-held (omega (arith, upper-places x, upper-places y)) (omega (arith, lower-places x, lower-places y))
            (same-state _ _ (ap (λ (z : Desk). z.begun) d) (ap (λ (z : Desk). z.state) d)))
            (x.line.place ∙ sym y.line.place),
        x.upper ∙ sym y.upper,
        x.upper_area ∙ sym y.upper_area,
        x.lower ∙ sym y.lower,
        x.lower_area ∙ sym y.lower_area,
        x.line.left ∙ sym y.line.left,
      )
