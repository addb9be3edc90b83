-- What a caller is told to send is what the history has as sent: a call tells of one sending at most (`one-sending` in
-- Walk), and where it tells of one, its octets and its wait are those that the caller is answered. Assumes nothing.
use Prim.Native.Nat.{ℕ, ◌+◌, ◌≤◌}
use mathlib.Core.Path.{◌≡◌, refl, ◌∙◌}
use mathlib.Core.List.{List, [], ◌∷◌, ◌++◌}
use native.Mathlib.Omega.{arith}
use Rattle.state.specs.World.{World, What, Event, accepted, begins, ends, sends, confirmed, collected, indicated}
use Rattle.state.specs.World.{resets, refused}
use Rattle.state.specs.Told.{Telling, adds, telling}
use Rattle.state.specs.Runs.{Call, call, sending_of, sendings_in}
use Rattle.state.proofs.Walk.{one-sending}

sendings-append : (a b : List Event) → sendings_in (a ++ b) ≡ sendings_in a + sendings_in b
unfolding sendings_in
sendings-append [] b = omega arith
sendings-append (e ∷ a) b = omega (arith, sendings-append a b)

-- an event that is no sending leaves the octets and the wait that are told
record Spares (e : Event) (t : Telling) : Type 0 where
  octets : (adds e t).octets ≡ t.octets
  wait : (adds e t).wait ≡ t.wait

spares : (e : Event) (t : Telling) → sending_of e ≡ 0 → Spares e t
unfolding adds sending_of
spares (accepted p n) t i = record { octets = refl; wait = refl }
spares begins t i = record { octets = refl; wait = refl }
spares ends t i = record { octets = refl; wait = refl }
spares (sends x o n) t i = absurd (omega (arith, i))
spares (confirmed p n s k) t i = record { octets = refl; wait = refl }
spares (collected p n r) t i = record { octets = refl; wait = refl }
spares (indicated h d) t i = record { octets = refl; wait = refl }
spares resets t i = record { octets = refl; wait = refl }
spares (refused n) t i = record { octets = refl; wait = refl }

module _ (x : What) (o : List ℕ) (n : ℕ) (after : List Event) where
  some-sent : (before : List Event) → 1 ≤ sendings_in (before ++ (sends x o n ∷ after))
  unfolding sendings_in sending_of
  some-sent before = omega (arith, sendings-append before (sends x o n ∷ after))

  pub record Tells (l : List Event) : Type 0 where
    pub octets : (telling l).octets ≡ o
    pub wait : (telling l).wait ≡ n

  tells-it : (before : List Event) → sendings_in (before ++ (sends x o n ∷ after)) ≤ 1
      → Tells (before ++ (sends x o n ∷ after))
  unfolding telling adds sendings_in
  tells-it [] i = record { octets = refl; wait = refl }
  tells-it (e ∷ before) i =
      let j = some-sent before in
      let k = tells-it before (omega (arith, i)) in
      let f = spares e (telling (before ++ (sends x o n ∷ after))) (omega (arith, i, j)) in
      record { octets = f.octets ∙ k.octets; wait = f.wait ∙ k.wait }

  -- the theorem, of every call and any world
  pub told-sending : (c : Call) (w : World) (before : List Event) → (call c w).events ≡ before ++ (sends x o n ∷ after)
      → Tells (call c w).events
  told-sending c w before e = rw e (tells-it before (rw e at (one-sending c w)))
