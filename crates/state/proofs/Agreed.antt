-- The station's marks as the history's, and what stands in the octets of a request: its destination, and the control
-- that its record and its mark make. Assumes nothing.
use Prim.Native.Nat.{ℕ, ◌%◌, ◌≤◌, ◌<◌}
use mathlib.Core.Bool.{Bool, true, false, true≢false}
use mathlib.Core.Path.{◌≡◌, refl, sym, ap, ◌∙◌}
use mathlib.Core.List.{List, ◌∷◌}
use native.Mathlib.Omega.{arith}
use lib.ListN.{length, set, length-set, replicate, length-replicate, get_or-replicate}
use lib.Seq.{get_or-set_same, get_or-set_other}
use Rattle.choice.specs.Choice.{pick, less, same}
use Rattle.choice.proofs.Rules.{pick_true, pick-false, same_false, true_same, false_same, less-true, less-false}
use Rattle.choice.proofs.Rules.{false-less, unrefused}
use Rattle.control.specs.declared.Service.{Service}
use Rattle.control.specs.declared.Service.TheVariants.{SdaLow, SdnLow, SdaHigh, SdnHigh, SrdLow, SrdHigh}
use Rattle.control.specs.declared.Control.TheVariants.{Request}
use Rattle.control.specs.Control.{control_of, counted}
use Rattle.control.proofs.Octet.{control-again}
use Rattle.std.specs.Prelude.{Option, None, Some}
use Rattle.frame.specs.declared.Point.{Point}
use Rattle.frame.specs.declared.Head.{Head}
use Rattle.frame.specs.declared.Fields.TheVariants.{Frame}
use Rattle.frame.specs.Format.{announce, addressed, unit, body, sd1, sd2, framed, octets}
use Rattle.request.specs.declared.Record.{Record}
use Rattle.request.specs.Record.{SDA, SDN, misaddressed, unfit}
use Rattle.request.proofs.Laws.{fit}
use Rattle.state.specs.declared.Priority.{Priority}
use Rattle.state.specs.declared.Priority.TheVariants.{High, Low}
use Rattle.state.specs.Request.{UNKNOWN, mark_of, fcb_of, fcv_of, turned, service_of, control_for}
use Rattle.state.specs.Counts.{Mark, unknown, next, bits_for, due, answered, field, destination_in, control_in}
use Rattle.state.specs.Counts.{counts}
use Rattle.state.proofs.Cases.{by}

-- ---- what a mark of the station means
unfoldable pub meaning : ℕ → Mark
meaning n = pick (same n 0) (next false) (pick (same n 1) (next true) unknown)

pub meaning-unknown : meaning UNKNOWN ≡ unknown
unfolding meaning pick same
meaning-unknown = refl

-- a mark that is neither bit counts as unknown
turned_by : (a b : Bool) → meaning (pick a 1 0) ≡ answered (pick a (next false) (pick b (next true) unknown))
unfolding meaning answered pick same
turned_by true b = refl
turned_by false true = refl
turned_by false false = refl

pub meaning-turned : (n : ℕ) → meaning (turned n) ≡ answered (meaning n)
unfolding meaning turned
meaning-turned n = turned_by (same n 0) (same n 1)

bits-by : (a b c : Bool) → (a ≡ true → c ≡ true) → (b ≡ true → c ≡ true) → (a ≡ false → b ≡ false → c ≡ false)
    → bits_for (pick a (next false) (pick b (next true) unknown))
    ≡ record { fcb = pick a false true; fcv = pick c true false }
unfolding bits_for pick
bits-by true b c f g h = rw (f refl)
bits-by false true c f g h = rw (g refl)
bits-by false false c f g h = rw (h refl refl)

pub meaning-bits : (n : ℕ) → bits_for (meaning n) ≡ record { fcb = fcb_of n; fcv = fcv_of n }
unfolding meaning fcb_of fcv_of
meaning-bits n =
    bits-by (same n 0) (same n 1) (less n 2)
    (λ e. less-true (omega (arith, true_same n 0 e)))
    (λ e. less-true (omega (arith, true_same n 1 e)))
    (λ e f. less-false (omega (arith, false_same n 0 e, false_same n 1 f)))

-- ---- the station's marks are the history's
pub record Agree (l : List ℕ) (m : ℕ → Mark) : Type 0 where
  pub long : length l ≡ 127
  pub each : (a : ℕ) → a < 127 → meaning (mark_of l a) ≡ m a

pub agree-unknown : Agree (replicate 127 UNKNOWN) (λ a. unknown)
agree-unknown =
    record {
      long = length-replicate 127 UNKNOWN;
      each = λ a h. ap meaning (get_or-replicate 127 a UNKNOWN 0 h) ∙ meaning-unknown;
    }

-- one is changed in both
pub agree-set : (l : List ℕ) (m : ℕ → Mark) (d v : ℕ) (f : Mark → Mark) → d < 127 → meaning v ≡ f (m d) → Agree l m
    → Agree (set l d v) (λ a. pick (same a d) (f (m a)) (m a))
agree-set l m d v f h e z =
    record {
      long = length-set l d v ∙ z.long;
      each = λ a i. by_place a i (same a d) refl;
    }
  where
    by_place : (a : ℕ) → a < 127 → (b : Bool) → same a d ≡ b
        → meaning (mark_of (set l d v) a) ≡ pick (same a d) (f (m a)) (m a)
    by_place a i true g =
        let j = true_same a d g in
        ap (λ (k : ℕ). meaning (mark_of (set l d v) k)) j
        ∙ ap meaning (get_or-set_same l d v 0 (omega (arith, h, z.long)))
        ∙ e
        ∙ ap (λ (k : ℕ). f (m k)) (sym j)
        ∙ sym (pick_true _ _ g)
    by_place a i false g =
        ap meaning (get_or-set_other l d a v 0 (false_same a d g)) ∙ z.each a i ∙ sym (pick-false _ _ g)

pub agree-like : (l : List ℕ) (m m' : ℕ → Mark) → ((a : ℕ) → m a ≡ m' a) → Agree l m → Agree l m'
agree-like l m m' h z = record { long = z.long; each = λ a i. z.each a i ∙ h a }

-- ---- the octets of a request
announced : (n : ℕ) (a : Option Point) → n ≤ 127 → addressed n a % 128 ≡ n
unfolding addressed announce
announced n None h = omega arith
announced n (Some p) h = omega arith

sd1-field : (a b c : ℕ) (u : List ℕ) → (field (sd1 (a ∷ (b ∷ (c ∷ u)))) 0 ≡ a) × (field (sd1 (a ∷ (b ∷ (c ∷ u)))) 2 ≡ c)
unfolding field sd1 pick same
sd1-field a b c u = (refl, refl)

sd2-field : (a b c : ℕ) (u : List ℕ) → (field (sd2 (a ∷ (b ∷ (c ∷ u)))) 0 ≡ a) × (field (sd2 (a ∷ (b ∷ (c ∷ u)))) 2 ≡ c)
unfolding field sd2 pick same
sd2-field a b c u = (refl, refl)

framed-field : (a b c : ℕ) (u : List ℕ)
    → (field (framed (a ∷ (b ∷ (c ∷ u)))) 0 ≡ a) × (field (framed (a ∷ (b ∷ (c ∷ u)))) 2 ≡ c)
unfolding framed
framed-field a b c u =
    by (λ (o : List ℕ). (field o 0 ≡ a) × (field o 2 ≡ c)) _ _ _ (λ e. sd1-field a b c u) (λ e. sd2-field a b c u)

pub destination-octets : (h : Head) (x : List ℕ) → h.destination.0 ≤ 127
    → destination_in (octets (Frame h) x) ≡ h.destination.0
unfolding destination_in octets body
destination-octets h x d =
    ap (λ (n : ℕ). n % 128) (framed-field _ _ _ (unit h x)).0 ∙ announced h.destination.0 h.to d

pub control-octets : (h : Head) (x : List ℕ) → control_in (octets (Frame h) x) ≡ h.control
unfolding control_in octets body
control-octets h x = ap control_of (framed-field _ _ _ (unit h x)).1 ∙ control-again h.control

-- ---- a fit record
pub near : (ts : ℕ) (r : Record) (n : ℕ) → unfit ts r n ≡ 0 → r.destination.0 ≤ 127
unfolding misaddressed
near ts r n e = false-less _ _ (unrefused _ _ (fit ts r n e).addressed).0

-- to 127 only an SDN goes
single : (a b : Bool) → pick a (pick b false true) false ≡ false → b ≡ false → a ≡ false
unfolding pick
single true b e f = absurd (true≢false (ap (λ (c : Bool). pick c false true) (sym f) ∙ e))
single false b e f = refl

pub nearer : (ts : ℕ) (r : Record) (n : ℕ) → unfit ts r n ≡ 0 → same r.service SDN ≡ false → r.destination.0 < 127
unfolding misaddressed
nearer ts r n e f =
    let a = unrefused _ _ (fit ts r n e).addressed in
    let b = unrefused _ _ a.1 in
    let c = false_same _ _ (single _ _ b.1 f) in
    let d = near ts r n e in
    omega (arith, c, d)

-- ---- its control: the service, and the bits that its mark gives it
counted-high : (a b : Bool) → (a ≡ true → b ≡ false)
    → counted (pick a SdaHigh (pick b SdnHigh SrdHigh)) ≡ pick b false true
unfolding pick
counted-high true b f = rw (f refl)
counted-high false true f = refl
counted-high false false f = refl

counted-low : (a b : Bool) → (a ≡ true → b ≡ false) → counted (pick a SdaLow (pick b SdnLow SrdLow)) ≡ pick b false true
unfolding pick
counted-low true b f = rw (f refl)
counted-low false true f = refl
counted-low false false f = refl

apart : (s : ℕ) → same s SDA ≡ true → same s SDN ≡ false
apart s e = same_false (λ f. omega (arith, true_same s SDA e))

pub counted-service : (p : Priority) (s : ℕ) → counted (service_of p s) ≡ pick (same s SDN) false true
unfolding service_of
counted-service High s = counted-high (same s SDA) (same s SDN) (apart s)
counted-service Low s = counted-low (same s SDA) (same s SDN) (apart s)

-- an SDN's are 0, 0; another's are those of the mark
due-by : (b : Bool) (v : Service) (m : Mark) (f g : Bool) → counted v ≡ pick b false true
    → (b ≡ false → bits_for m ≡ record { fcb = f; fcv = g })
    → pick b (Request v false false) (Request v f g) ≡ Request v (due v m).fcb (due v m).fcv
unfolding due pick
due-by true v m f g e h = rw e
due-by false v m f g e h = rw (e, h refl)

pub due-control : (p : Priority) (s n : ℕ) (m : Mark) → (same s SDN ≡ false → meaning n ≡ m)
    → control_for p s n ≡ Request (service_of p s) (due (service_of p s) m).fcb (due (service_of p s) m).fcv
unfolding control_for
due-control p s n m h =
    due-by (same s SDN) (service_of p s) m (fcb_of n) (fcv_of n) (counted-service p s)
    (λ e. ap bits_for (sym (h e)) ∙ meaning-bits n)

counts-by : (b : Bool) (v : Service) (f g : Bool) → counts (pick b (Request v false false) (Request v f g)) ≡ counted v
unfolding counts pick
counts-by true v f g = refl
counts-by false v f g = refl

pub counts-control : (p : Priority) (s n : ℕ) → counts (control_for p s n) ≡ pick (same s SDN) false true
unfolding control_for
counts-control p s n = counts-by (same s SDN) (service_of p s) (fcb_of n) (fcv_of n) ∙ counted-service p s
